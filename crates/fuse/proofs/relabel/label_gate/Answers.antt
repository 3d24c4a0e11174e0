-- `fuse::relabel::label_gate` meets its contract: the arm says which gate it is.
-- Assumes nothing.
use Rattle.fuse.proofs.relabel.label_gate.Goals as goal

pub returns-in-One : goal.returns-in-One
returns-in-One c = rw c.in-One.is (c.label_one.ensures c.args.relabel _)

pub returns-in-Three : goal.returns-in-Three
returns-in-Three c = rw c.in-Three.is (c.label_three.ensures c.args.relabel)
