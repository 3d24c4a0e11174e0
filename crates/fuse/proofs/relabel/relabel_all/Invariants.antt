-- `fuse::relabel::relabel_all` meets its contract: what is left of the definition, from gate k on, gives the whole.
-- Assumes nothing.
use Rattle.fuse.proofs.Labels.{Relabelling}
use Rattle.fuse.proofs.relabel.relabel_all.Given as goal

abbrev pub invariant-loop-k : goal.invariant-loop-k
invariant-loop-k l = Relabelling l.relabel l.tape l.fn.work l.work l.swaps l.at l.k
