-- `pfaffian::shots::update_two` meets its contract: a store before the loop (`two-start`), and each turn makes an entry of both rows (`two-more`).
-- The invariant is said of the matrix before that store. Assumes nothing.
use Prim.Native.Nat.{◌≤◌, ◌+◌}
use Rattle.pfaffian.specs.Turns.{projected_by}
use Rattle.pfaffian.proofs.TwoRows.{TwoRows}
use Rattle.real.specs.Squares.{Same}
use Rattle.pfaffian.proofs.shots.update_two.Given as goal

abbrev pub invariant-loop-e : goal.invariant-loop-e
invariant-loop-e l =
    ((l.c + 2 ≤ l.e) × (l.e ≤ l.fn.m.dim)) × Same l.fn.m l.m × TwoRows l.a (projected_by l.f) l.fn.m.dim l.c l.fn.m.entries.now l.e l.m.entries.now
