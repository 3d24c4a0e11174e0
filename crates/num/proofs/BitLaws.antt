-- f64 and their bits: which are a NaN, that `bits_of` and `of_bits` undo each other, and that the bits less the sign's are those of `abs_of`. Assumes nothing.
use mathlib.Core.Path.{◌≡◌, refl, sym, ap, ◌∙◌}
use mathlib.Core.Bool.{true, false, not}
use Prim.Native.Nat.{ℕ, ◌+◌, ◌%◌, ◌^◌, ◌<◌}
use native.Mathlib.Omega.{arith}
use lib.IntN.{ℤ}
use lib.Dec.{T, ltb}
use lib.Ieee.{Float, nan, inf, fin, binary64, fits, is_nan, neg, of_bits, to_bits}
use lib.Ieee.Bits.{nan_bits_is, nan_bits_above, of_bits-to_bits, to_bits-lt, to_bits-of_bits}
use lib.Ieee.Fits.{neg-fits}
use Rattle.num.specs.Order.{abs_of}
use Rattle.num.specs.Bits.{inf_bits, bits_of}
use Rattle.num.proofs.OrderLaws.{abs-fits}

-- ---- the NaN

pub is-nan : (x : Float) → is_nan x ≡ true → x ≡ nan
unfolding is_nan
is-nan nan e = refl
is-nan (inf s) e = cc
is-nan (fin s m d) e = cc

-- the patterns of a NaN lie above the infinity's, the sign aside
pub nan-test : (b : ℕ) → is_nan (of_bits binary64 b) ≡ ltb inf_bits (b % 2 ^ 63)
nan-test b = sym (nan_bits_is binary64 b) ∙ nan_bits_above binary64 b

-- ---- there and back

-- the library's pattern of the NaN is the quiet one
pub bits_of-is : (x : Float) → bits_of x ≡ to_bits binary64 x
unfolding bits_of is_nan to_bits
bits_of-is nan = refl
bits_of-is (inf s) = refl
bits_of-is (fin s m e) = refl

pub bits_of-lt : (x : Float) → T (fits binary64 x) → bits_of x < 2 ^ 64
bits_of-lt x f = rw bits_of-is (to_bits-lt binary64 x f)

pub of_bits-bits_of : (x : Float) → T (fits binary64 x) → of_bits binary64 (bits_of x) ≡ x
of_bits-bits_of x f = ap (of_bits binary64) (bits_of-is x) ∙ of_bits-to_bits binary64 x f

pub bits_of-of_bits : (b : ℕ) → b < 2 ^ 64 → T (not (is_nan (of_bits binary64 b))) → bits_of (of_bits binary64 b) ≡ b
bits_of-of_bits b h n = bits_of-is (of_bits binary64 b) ∙ to_bits-of_bits binary64 b h n

-- ---- the sign bit

sign_bit : (m : ℕ) (e : ℤ) → to_bits binary64 (fin true m e) ≡ 2 ^ 63 + to_bits binary64 (fin false m e)
unfolding to_bits
sign_bit m e = omega arith

less-sign : (x : Float) → T (fits binary64 x) → is_nan x ≡ false → to_bits binary64 x % 2 ^ 63 ≡ to_bits binary64 (abs_of x)
unfolding is_nan abs_of neg
less-sign nan f n = cc
less-sign (inf true) f n = unfold to_bits in refl
less-sign (inf false) f n = unfold to_bits in refl
less-sign (fin true m e) f n = less (to_bits binary64 (fin true m e)) (to_bits binary64 (fin false m e)) (sign_bit m e) (to_bits-lt binary64 (fin true m e) f)
  where
    less : (t u : ℕ) → t ≡ 2 ^ 63 + u → t < 2 ^ 64 → t % 2 ^ 63 ≡ u
    less t u e h = omega arith
less-sign (fin false m e) f n =
    same (to_bits binary64 (fin true m e)) (to_bits binary64 (fin false m e)) (sign_bit m e)
    (to_bits-lt binary64 (fin true m e) (neg-fits binary64 (fin false m e) f))
  where
    same : (t u : ℕ) → t ≡ 2 ^ 63 + u → t < 2 ^ 64 → u % 2 ^ 63 ≡ u
    same t u e h = omega arith

pub abs-bits : (x : Float) → T (fits binary64 x) → is_nan x ≡ false → of_bits binary64 (to_bits binary64 x % 2 ^ 63) ≡ abs_of x
abs-bits x f n = ap (of_bits binary64) (less-sign x f n) ∙ of_bits-to_bits binary64 (abs_of x) (abs-fits binary64 x f)
