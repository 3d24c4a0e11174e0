-- `local::det::pivot1` meets its contract, by its test. Assumes nothing.
use lib.Ieee.{of_bits}
use Rattle.local.specs.Det.{eliminated, last_largest}
use Rattle.local.proofs.det.pivot1.Goals as goal

pub returns-then-a : goal.returns-then-a
unfolding eliminated last_largest of_bits
returns-then-a c = rw c.if-a.true

pub returns : goal.returns
unfolding eliminated last_largest of_bits
returns c = rw c.if-a.false
