-- `fuse::back::clear_on` meets its contract: so far the gates passed are cleared, and the others are as they were.
-- Assumes nothing.
use native.Mathlib.Omega.{arith}
use Rattle.fuse.proofs.Places.{clears-hit, clears-miss}
use Rattle.fuse.proofs.back.clear_on.Goals as goal

pub loop-j-preserved : goal.loop-j-preserved
loop-j-preserved c = grind (arith, clears-hit c.loop-j.invariant, clears-miss c.loop-j.invariant)
