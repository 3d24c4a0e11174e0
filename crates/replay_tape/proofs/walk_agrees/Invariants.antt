-- `at` is a cursor for gate k.
use Rattle.tape.specs.Cursor.{Cursor}
use Rattle.replay_tape.proofs.walk_agrees.Given as goal

abbrev pub invariant-loop-k : goal.invariant-loop-k
invariant-loop-k l = Cursor l.tape l.k l.at
