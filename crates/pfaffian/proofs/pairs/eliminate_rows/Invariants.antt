-- `pfaffian::pairs::eliminate_rows` meets its contract: each turn makes a row (`pair-more`). Assumes nothing.
use Prim.Native.Nat.{◌≤◌, ◌+◌}
use Rattle.laws.specs.Steps.{corner_from}
use Rattle.laws.proofs.Eliminations.{Pair}
use Rattle.pfaffian.specs.Turns.{less_by}
use Rattle.real.specs.Squares.{Same}
use Rattle.pfaffian.proofs.pairs.eliminate_rows.Given as goal

abbrev pub invariant-loop-i : goal.invariant-loop-i
invariant-loop-i l =
    ((l.k + 2 ≤ l.i) × (l.i ≤ l.initial.m.dim)) × Same l.initial.m l.m
    × Pair l.k less_by (corner_from (l.k + 2)) l.initial.m.dim l.initial.m.entries.now l.i l.m.entries.now
