-- A number above zero is finite if it is below the infinity. Assumes nothing.
use mathlib.Core.Path.{◌≡◌, refl}
use mathlib.Core.Bool.{true, false, false≢true}
use lib.Ieee.{Float, nan, inf, fin, binary64, lt, div, of_bits}
use lib.Ieee.Scale.{finite}
use Rattle.gate.specs.Complex.{f0, f1}

pub below-infinity : (x : Float) → lt f0 x ≡ true → lt x (div binary64 f1 f0) ≡ finite x
unfolding lt div of_bits
below-infinity nan h = refl
below-infinity (inf true) h = absurd (false≢true h)
below-infinity (inf false) h = refl
below-infinity (fin s m e) h = refl

-- for the attribute of `divisor`
pub ruleset norms = (below-infinity)
