-- `fuse::back::clear_on` meets its contract: so far the gates passed are cleared, and the others are as they were.
-- Assumes nothing.
use Rattle.fuse.specs.Lent.{Clears}
use Rattle.fuse.proofs.back.clear_on.Given as goal

abbrev pub invariant-loop-j : goal.invariant-loop-j
invariant-loop-j l = Clears l.initial.work l.work l.k l.j l.a l.b
