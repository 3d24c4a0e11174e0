-- `pfaffian::pairs::scale_row` meets its contract: each turn divides an entry (`scaled-more`). Assumes nothing.
use Prim.Native.Nat.{◌≤◌, ◌+◌}
use lib.Ieee.{binary64, div}
use Rattle.laws.proofs.Eliminations.{Scaled}
use Rattle.real.specs.Squares.{Same}
use Rattle.pfaffian.proofs.pairs.scale_row.Given as goal

abbrev pub invariant-loop-j : goal.invariant-loop-j
invariant-loop-j l =
    ((l.k + 2 ≤ l.j) × (l.j ≤ l.initial.m.dim)) × Same l.initial.m l.m
    × Scaled (λ x. div binary64 x l.akk) l.k (l.k + 2) l.initial.m.dim l.initial.m.entries.now l.j l.m.entries.now
