-- Worked values of the definitions, by computation: the skip of an entry that equals zero. Assumes nothing.
use mathlib.Core.Path.{◌≡◌, refl}
use mathlib.Core.Bool.{true, false}
use lib.IntN.{pos}
use lib.Ieee.{Float, nan, inf, fin, add, sub, mul, eq, of_bits}
use Rattle.gate.specs.Complex.{cx, f0, c0, c1, is_zero_of, ◌*ℂ◌}
use Rattle.gate.specs.Matrix.{row4, mat4, axpy_of, row_mul_of}

-- ---- the skip

∞ : Float
∞ = inf false

-- an entry 0 or -0 of the left factor passes over infinities of the right one
skipped : row_mul_of (row4 c0 c1 (cx (fin true 0 (pos 0)) f0) c0) (mat4 (row4 (cx ∞ ∞) c0 c0 c0) (row4 c1 c0 c0 c1) (row4 c0 (cx ∞ f0) c0 c0) (row4 c0 c0 (cx f0 ∞) c0)) ≡ row4 c1 c0 c0 c1
unfolding row_mul_of axpy_of is_zero_of ∞ add sub mul eq of_bits
skipped = refl

-- without the skip that is a NaN
unskipped : c0 *ℂ cx ∞ f0 ≡ cx nan nan
unfolding ∞ add sub mul of_bits
unskipped = refl

-- and 1 is not neutral beside an infinity
one-times : c1 *ℂ cx ∞ f0 ≡ cx ∞ nan
unfolding ∞ add sub mul of_bits
one-times = refl
