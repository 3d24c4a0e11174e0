-- `resolve::settle::empty` meets its contract: the two marks are written in order.
-- Assumes nothing.
use Rattle.resolve.specs.Slots.{emptied_marks}
use Rattle.resolve.proofs.settle.empty.Goals as goal

pub returns : goal.returns
unfolding emptied_marks
returns c = rw (c.put_mark.ensures.put, c.put_kind.ensures.put, c.gates.ensures.count)
