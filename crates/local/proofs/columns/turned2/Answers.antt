-- `local::columns::turned2` meets its contract: the first two terms change places. Assumes nothing.
use lib.Ieee.{of_bits}
use Rattle.laws.proofs.FirstTerms.{dot-turned}
use Rattle.real.specs.Maps.{row2}
use Rattle.local.proofs.columns.turned2.Goals as goal

pub returns : goal.returns
unfolding of_bits
returns c =
    dot-turned (row2 c.args.q) (row2 c.args.v)
