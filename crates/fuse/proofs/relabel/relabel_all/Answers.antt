-- `fuse::relabel::relabel_all` meets its contract: what is left of the definition, from gate k on, gives the whole.
-- Assumes nothing.
use native.Mathlib.Omega.{arith}
use Rattle.fuse.proofs.Labels.{relabelling-more, relabelling-end}
use Rattle.fuse.proofs.relabel.relabel_all.Goals as goal

pub loop-k-preserved : goal.loop-k-preserved
loop-k-preserved c = rw c.from-swaps.ensures (relabelling-more c.loop-k.invariant c.next_gate-p.ensures c.gate_at.ensures c.label_gate.ensures)

pub returns : goal.returns
returns c = relabelling-end c.loop-k.invariant (omega arith) c.requires.count
