-- `tape::check::read_records` meets its contract. The loop's invariant: how far the reading has come. The measure is what is left of the tape. Assumes
-- nothing.
use Prim.Native.Nat.{◌-◌}
use lib.ListN.{length}
use Rattle.tape.proofs.Reading.{Reads}
use Rattle.tape.proofs.check.read_records.Given as goal

abbrev pub invariant-loop-record : goal.invariant-loop-record
invariant-loop-record l = Reads l.tape l.header l.wanted l.at l.gates l.labels l.label

abbrev pub decreases-loop-record : goal.decreases-loop-record
decreases-loop-record l = length l.tape - l.at
