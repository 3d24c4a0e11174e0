-- A float that fits is known by its dyadic number, but for the sign of a zero: where the number is not 0 there is one such float, since a value has
-- one float; and where it is 0 the float is a zero. Assumes nothing.
use mathlib.Core.Path.{◌≡◌, sym, ap, ◌∙◌, subst}
use mathlib.Core.Logic.{◌⊎◌, inl, inr}
use Prim.Native.Nat.{ℕ, ◌*◌, ◌^◌, ◌<◌}
use native.Mathlib.Nat.{eq-zero-or-pos}
use lib.Dec.{T}
use lib.IntN.{ℤ, pos, nat_abs}
use lib.Pow.{pow_pos}
use lib.Ieee.{Float, nan, inf, fin, binary64, down, fits}
use lib.Ieee.Exact.{HasValue}
use Rattle.laws.specs.Zeros.{nz}
use Rattle.laws.specs.Dyadic.{with_sign, Dy}
use Rattle.laws.proofs.Fit.{value-one}
use Rattle.laws.proofs.Dyadic.{zero-nz}
use Rattle.laws.proofs.Integers.{sign_of, sign-abs, abs-of, sign-one, sign_zero}

-- the value of a number that is not 0
value-of : (j : ℕ) (z : ℤ) (x : Float) → 0 < nat_abs z → Dy j z x → HasValue x (sign_of z) (nat_abs z) (2 ^ j)
value-of j z nan h p = p
value-of j z (inf s) h p = p
value-of j z (fin s m e) h p =
    let k : p.0 ≡ nat_abs z = abs-of s p.0 z p.2 in
    (sign-one s (sign_of z) (nat_abs z) h (ap (with_sign s) (sym k) ∙ p.2 ∙ sym (sign-abs z)), p.1 ∙ ap (λ (n : ℕ). n * down e) k)

-- equal numbers that are not 0: equal floats
pub is-float : (j : ℕ) (z : ℤ) (x y : Float) → 0 < nat_abs z → T (fits binary64 x) → T (fits binary64 y) → Dy j z x → Dy j z y → x ≡ y
is-float j z x y h f g p q = value-one x y (sign_of z) (nat_abs z) (2 ^ j) (pow_pos j) f g (value-of j z x h p) (value-of j z y h q)

-- equal numbers: equal floats up to the sign of a zero
pub dy-nz : (j : ℕ) (z : ℤ) (x y : Float) → T (fits binary64 x) → T (fits binary64 y) → Dy j z x → Dy j z y → nz x ≡ nz y
dy-nz j z x y f g p q = by (eq-zero-or-pos (nat_abs z))
  where
    by : (nat_abs z ≡ 0) ⊎ (0 < nat_abs z) → nz x ≡ nz y
    by (inl e) =
        let o : z ≡ pos 0 = sym (sign-abs z) ∙ ap (with_sign (sign_of z)) e ∙ sign_zero (sign_of z) in
        zero-nz j x (subst (λ (v : ℤ). Dy j v x) o p) ∙ sym (zero-nz j y (subst (λ (v : ℤ). Dy j v y) o q))
    by (inr h) = ap nz (is-float j z x y h f g p q)
