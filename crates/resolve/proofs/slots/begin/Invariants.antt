-- `resolve::slots::begin` meets its contract: the first s slots are as before the first event.
-- Assumes nothing.
use Rattle.work.specs.Lent.{MarksOnly}
use Rattle.resolve.proofs.Ends.{Beginning}
use Rattle.resolve.proofs.slots.begin.Given as goal

abbrev pub invariant-loop-s : goal.invariant-loop-s
invariant-loop-s l = MarksOnly l.fn.work l.work × Beginning l.fn.work.marks l.work.marks l.fn.work.gates l.s
