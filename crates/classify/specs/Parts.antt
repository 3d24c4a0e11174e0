-- The word of the contract of an inner function. Assumes nothing. Only inner functions rest on this.
use Rattle.std.specs.Prelude.{Bool, ◌&&◌, Float}
use Rattle.std.specs.Float.Ieee.{lt}
use Rattle.std.specs.Float.Ieee.Scale.{finite}
use Rattle.gate.specs.Complex.{f0}

-- "finite and above zero"
unfoldable pub divisor_of : Float → Bool
divisor_of r = lt f0 r && finite r
