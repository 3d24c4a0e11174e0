-- `local::det::Best::or` meets its contract, by its test. Assumes nothing.
use Rattle.local.specs.Det.{better_of}
use Rattle.local.proofs.det.Best.or.Goals as goal

pub returns-then-not_below : goal.returns-then-not_below
unfolding better_of
returns-then-not_below c = rw (← c.not_below.ensures, c.if-not_below.true)

pub returns : goal.returns
unfolding better_of
returns c = rw (← c.not_below.ensures, c.if-not_below.false)
