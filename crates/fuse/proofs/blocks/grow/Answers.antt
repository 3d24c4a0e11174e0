-- `fuse::blocks::grow` meets its contract: a law for each way out.
-- Assumes nothing.
use native.Mathlib.Omega.{arith}
use Rattle.fuse.proofs.Steps.{grow-straight, grow-turned}
use Rattle.fuse.proofs.blocks.grow.Goals as goal

pub returns-then-eq : goal.returns-then-eq
returns-then-eq c = grind (arith, grow-straight c.join.ensures)

pub returns-then-eq-2 : goal.returns-then-eq-2
returns-then-eq-2 c = grind (arith, grow-turned c.join-then-eq-2.ensures)
