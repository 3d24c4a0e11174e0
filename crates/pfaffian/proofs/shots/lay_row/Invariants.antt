-- `pfaffian::shots::lay_row` meets its contract: each turn copies an entry across the diagonal (`laid_more`). Assumes nothing.
use Prim.Native.Nat.{◌≤◌}
use lib.Ieee.{neg}
use Rattle.laws.proofs.Eliminations.{Laid}
use Rattle.real.specs.Squares.{Same}
use Rattle.pfaffian.proofs.shots.lay_row.Given as goal

abbrev pub invariant-loop-e : goal.invariant-loop-e
invariant-loop-e l = ((l.s ≤ l.e) × (l.e ≤ l.initial.m.dim)) × Same l.initial.m l.m × Laid neg l.i l.s l.initial.m.dim l.initial.m.entries.now l.e l.m.entries.now
