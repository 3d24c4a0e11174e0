-- `plain::turn::turn_from` meets its contract, a row a turn. Assumes nothing.
use Prim.Native.Nat.{◌≤◌}
use Rattle.real.specs.Squares.{Same}
use Rattle.plain.proofs.Turning.{TurnedTo}
use Rattle.plain.proofs.turn.turn_from.Given as goal

abbrev pub invariant-loop-r : goal.invariant-loop-r
invariant-loop-r l = (l.r ≤ l.initial.m.dim) × Same l.initial.m l.m × TurnedTo l.initial.m.dim l.s l.initial.m.entries.now l.r l.m.entries.now
