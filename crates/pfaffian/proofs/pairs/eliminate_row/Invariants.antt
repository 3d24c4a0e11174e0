-- `pfaffian::pairs::eliminate_row` meets its contract: each turn makes an entry by the rows k and k + 1 (`pair-row-more`). Assumes nothing.
use Prim.Native.Nat.{◌≤◌, ◌-◌, ◌+◌, ◌*◌}
use Rattle.laws.specs.Steps.{corner_from}
use Rattle.laws.proofs.Eliminations.{PairRow}
use Rattle.pfaffian.specs.Turns.{less_by}
use Rattle.pfaffian.proofs.pairs.eliminate_row.Given as goal

abbrev pub invariant-loop-x : goal.invariant-loop-x
invariant-loop-x l =
    ((l.k * l.dim + (l.k + 2) ≤ l.x) × (l.x ≤ l.k * l.dim + l.dim)) × PairRow l.k less_by (corner_from (l.k + 2)) l.dim l.i l.initial.a (l.x - l.k * l.dim) l.a
