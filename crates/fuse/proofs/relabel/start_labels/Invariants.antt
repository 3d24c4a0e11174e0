-- `fuse::relabel::start_labels` meets its contract: the first q qubits have their own slots.
-- Assumes nothing.
use Rattle.fuse.specs.Lent.{Identifies}
use Rattle.fuse.proofs.relabel.start_labels.Given as goal

abbrev pub invariant-loop-q : goal.invariant-loop-q
invariant-loop-q l = Identifies l.initial.work l.work l.q
