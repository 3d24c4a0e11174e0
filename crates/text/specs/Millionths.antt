-- "Z in millionths", "0 without a sign; `out` for NaN or magnitude 2 and more." The program "rounds the exact value half to even". A finite float is
-- m * 2 ^ e with a sign, and 2 ^ e is the fraction up e / down e, so the millionths are said on whole numbers. Definitions only.
-- A public promise rests on this.
use Rattle.std.specs.Prelude.{Bool, cond, ◌&&◌, List, ◌++◌, ℕ, ◌+◌, ◌*◌, ◌/◌, ◌%◌, ltb, eqb, Float}
use Rattle.std.specs.Float.{nan, inf, fin}
use Rattle.std.specs.Float.Ieee.{up, down, neg, lt}
use Rattle.laws.specs.Zeros.{+0}
use Rattle.gate.specs.Complex.{f2}
use Rattle.text.specs.Ascii.{ascii, decimal}

-- "half to even", "on whole numbers, exact at the half": num / den is cut to a whole number; what is cut off is compared with a half, and at just a half the
-- even one of the two next to it is taken
unfoldable pub rounded : ℕ → ℕ → ℕ
rounded num den =
    let cut = num / den in
    let twice = 2 * (num % den) in
    cond (ltb twice den) cut (cond (ltb den twice) (cut + 1) (cut + cut % 2))

abbrev pub million : ℕ
million = 1000000

-- the magnitude in millionths; of what is no finite number it is never asked
unfoldable pub millionths : Float → ℕ
millionths nan = 0
millionths (inf s) = 0
millionths (fin s m e) = rounded (m * up e * million) (down e)

-- above -2 and below 2: no NaN is
unfoldable pub in_range : Float → Bool
in_range x = lt (neg f2) x && lt x f2

-- "0 without a sign"
unfoldable pub signed : Bool → ℕ → List ℕ
signed minus k = cond (eqb k 0) (decimal k) (cond minus (ascii "-" ++ decimal k) (decimal k))

-- what a q line says of Z
unfoldable pub z_text : Float → List ℕ
z_text x = cond (in_range x) (signed (lt x +0) (millionths x)) (ascii "out")
