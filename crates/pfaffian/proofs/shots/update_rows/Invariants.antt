-- `pfaffian::shots::update_rows` meets its contract: each turn makes two rows (`pair-more`, twice). Assumes nothing.
use Prim.Native.Nat.{◌≤◌, ◌+◌, ◌*◌}
use Rattle.laws.specs.Steps.{right_from}
use Rattle.laws.proofs.Eliminations.{Pair}
use Rattle.pfaffian.specs.Turns.{projected_by}
use Rattle.real.specs.Squares.{Same}
use Rattle.pfaffian.proofs.shots.update_rows.Given as goal

abbrev pub invariant-loop-pair : goal.invariant-loop-pair
invariant-loop-pair l =
    (l.a + 2 + 2 * l.pair ≤ l.initial.m.dim) × Same l.initial.m l.m
    × Pair l.a (projected_by l.f) (right_from (l.a + 2)) l.initial.m.dim l.initial.m.entries.now (l.a + 2 + 2 * l.pair) l.m.entries.now
