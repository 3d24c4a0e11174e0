-- `fuse::relabel::label_one` meets its contract: by the law for a one-qubit gate.
-- Assumes nothing.
use native.Mathlib.Omega.{arith}
use Rattle.fuse.proofs.Labels.{one-labelled}
use Rattle.fuse.proofs.relabel.label_one.Goals as goal

pub returns : goal.returns
returns c = λ relabel code. grind (arith, one-labelled relabel c.requires.0 c.mark-s.ensures.whole code)
