-- Numbers as bits and as bytes, the lowest byte first. `of_bits binary64`, from bits to an f64, is the library's: every NaN pattern gives the one NaN.
-- Definitions only. A public promise rests on this.
use Rattle.std.specs.Prelude.{ℕ, ◌+◌, ◌*◌, cond, List, get_or, Float}
use Rattle.std.specs.Float.{binary64}
use Rattle.std.specs.Float.Ieee.{is_nan, of_bits, to_bits}

-- ---- little endian

-- the byte at i, and 0 past the end
abbrev pub byte_at : List ℕ → ℕ → ℕ
byte_at s i = get_or s i 0

-- the number in the 2, 4 or 8 bytes from i on
unfoldable pub le16 : List ℕ → ℕ → ℕ
le16 s i = byte_at s i + 0x100 * byte_at s (i + 1)

unfoldable pub le32 : List ℕ → ℕ → ℕ
le32 s i = le16 s i + 0x1_0000 * le16 s (i + 2)

unfoldable pub le64 : List ℕ → ℕ → ℕ
le64 s i = le32 s i + 0x1_0000_0000 * le32 s (i + 4)

-- the f64 in the 8 bytes from i on
abbrev pub f64_at : List ℕ → ℕ → Float
f64_at s i = of_bits binary64 (le64 s i)

-- ---- the bits of an f64

-- the pattern of the infinity: below it are those of the numbers from zero up, and above it, to the sign bit, those of a NaN
abbrev pub inf_bits : ℕ
inf_bits = 0x7ff0_0000_0000_0000

-- the pattern that stands for the one NaN: quiet, no sign, no payload
abbrev pub quiet_nan : ℕ
quiet_nan = 0x7ff8_0000_0000_0000

-- the bits of x: the library's for every x but a NaN
unfoldable pub bits_of : Float → ℕ
bits_of x = cond (is_nan x) quiet_nan (to_bits binary64 x)
