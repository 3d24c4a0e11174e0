-- `fuse::blocks::join` meets its contract: what its calls leave is what the definition says.
-- Assumes nothing.
use native.Mathlib.Omega.{arith}
use Rattle.fuse.proofs.Steps.{joined_is}
use Rattle.fuse.proofs.blocks.join.Goals as goal

pub returns : goal.returns
returns c = grind (arith, joined_is c.args.work.now c.args.m c.clear_on.ensures)
