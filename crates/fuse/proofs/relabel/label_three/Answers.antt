-- `fuse::relabel::label_three` meets its contract: by the law for a three-qubit gate.
-- Assumes nothing.
use native.Mathlib.Omega.{arith}
use Rattle.fuse.proofs.Labels.{three-labelled}
use Rattle.fuse.proofs.relabel.label_three.Goals as goal

pub returns : goal.returns
returns c = λ relabel. grind (arith, three-labelled relabel c.requires.0 c.mark-s.ensures.whole)
