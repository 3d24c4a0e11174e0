-- `fuse::passes::run_pass` meets its contract: the first i events have gone through.
-- Assumes nothing.
use Rattle.fuse.proofs.Steps.{passes_none, passes-more}
use Rattle.fuse.proofs.passes.run_pass.Goals as goal

pub loop-i-init : goal.loop-i-init
loop-i-init g c = passes_none g.P.Pass.laws _

pub loop-i-preserved : goal.loop-i-preserved
loop-i-preserved g c = passes-more g.P.Pass.laws c.loop-i.invariant c.take.ensures
