-- `fuse::passes::run_pass` meets its contract: the first i events have gone through.
-- Assumes nothing.
use Rattle.fuse.specs.Lent.{Passes}
use Rattle.fuse.proofs.passes.run_pass.Given as goal

abbrev pub invariant-loop-i : goal.invariant-loop-i
invariant-loop-i g l = Passes g.P.Pass.whole l.initial.work l.work l.i
