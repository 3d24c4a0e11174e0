-- `tape::cursor::next_gate` meets its contract. The loop's invariant: `at` is a cursor for gate k. The measure is what is left of the tape. Assumes
-- nothing.
use Prim.Native.Nat.{◌-◌}
use lib.ListN.{length}
use Rattle.tape.specs.Cursor.{Cursor}
use Rattle.tape.proofs.cursor.next_gate.Given as goal

abbrev pub invariant-loop-at : goal.invariant-loop-at
invariant-loop-at l = Cursor l.tape l.k l.at

abbrev pub decreases-loop-at : goal.decreases-loop-at
decreases-loop-at l = length l.tape - l.at
