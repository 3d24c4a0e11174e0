-- `resolve::cuts::next_on` meets its contract: no gate that was passed over is on the slot. Assumes nothing.
use Rattle.resolve.specs.Slots.{PassedOver}
use Rattle.resolve.proofs.cuts.next_on.Given as goal

abbrev pub invariant-loop-i : goal.invariant-loop-i
invariant-loop-i l = PassedOver l.work.marks l.s l.j l.work.gates l.i
