-- `resolve::slots::finish` meets its contract: the remainders of the first s slots are items.
-- Assumes nothing.
use Rattle.work.specs.Lent.{MarksOnly}
use Rattle.resolve.proofs.Ends.{Finishing}
use Rattle.resolve.proofs.slots.finish.Given as goal

abbrev pub invariant-loop-s : goal.invariant-loop-s
invariant-loop-s l = MarksOnly l.fn.work l.work × Finishing l.fn.work.floats l.fn.work.marks l.work.marks l.fn.work.gates l.s
