-- `local::det::det2` meets its contract, by the definition. Assumes nothing.
use mathlib.Core.Path.{refl}
use Rattle.local.specs.Det.{det}
use Rattle.local.proofs.det.det2.Goals as goal

pub returns : goal.returns
unfolding det
returns c = refl
