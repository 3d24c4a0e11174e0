-- `local::columns::dot2` meets its contract, by the definition. Assumes nothing.
use mathlib.Core.Path.{refl}
use lib.Ieee.{of_bits}
use Rattle.laws.specs.Maps.{dot}
use Rattle.local.proofs.columns.dot2.Goals as goal

pub returns : goal.returns
unfolding dot of_bits
returns c = refl
