-- The literal 0.5, as code has it. Assumes nothing.
use mathlib.Core.Path.{◌≡◌, refl}
use lib.Ieee.{binary64, of_bits}
use Rattle.pfaffian.specs.Shot.{half}

pub half-bits : of_bits binary64 0x3fe0_0000_0000_0000 ≡ half
unfolding of_bits
half-bits = refl
