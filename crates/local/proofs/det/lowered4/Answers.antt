-- `local::det::lowered4` meets its contract, by the definition. Assumes nothing.
use mathlib.Core.Path.{refl}
use Rattle.local.specs.Det.{less}
use Rattle.local.proofs.det.lowered4.Goals as goal

pub returns : goal.returns
unfolding less
returns c = refl
