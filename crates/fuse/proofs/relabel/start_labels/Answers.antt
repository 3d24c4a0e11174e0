-- `fuse::relabel::start_labels` meets its contract: the first q qubits have their own slots.
-- Assumes nothing.
use native.Mathlib.Omega.{arith}
use Rattle.fuse.proofs.Labels.{identifies_more}
use Rattle.fuse.proofs.relabel.start_labels.Goals as goal

pub loop-q-preserved : goal.loop-q-preserved
loop-q-preserved c = grind (arith, identifies_more c.loop-q.invariant)
