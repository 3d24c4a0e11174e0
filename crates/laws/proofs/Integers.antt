-- Whole numbers by sign and size: `with_sign s k` is k with the sign s. Products, quotients and differences, and what a number that is not 0 determines.
-- By cases on the sign. Assumes nothing.
use mathlib.Core.Path.{◌≡◌, refl, sym, ap, ◌∙◌, subst}
use mathlib.Core.Logic.{◌⊎◌, inl, inr}
use mathlib.Core.Bool.{Bool, true, false, not, ◌||◌}
use Prim.Native.Nat.{ℕ, zero, suc, ◌+◌, ◌-◌, ◌*◌, ◌/◌, ◌%◌, ◌≤◌, ◌<◌}
use native.Mathlib.Nat.{mul-pos, zero-mul, mul-zero, add-zero, lt_irrefl, div-add-mod', eq-zero-or-pos}
use native.Mathlib.Omega.{arith}
use lib.Dec.{eqb, leb, ltb, lit<}
use lib.IntN.{ℤ, pos, negsuc, neg_ℤ, nat_abs, ◌+ℤ◌, ◌*ℤ◌, pos-ne-negsuc}
use lib.Signed.{lt_z, le_z, quot_z}
use lib.Ieee.{unlike}
use borrow.Author.Tests.{lt-ltb, le-ltb}
use Rattle.std.proofs.lemmas.Bool.Decides.{nat_tests}
use Rattle.laws.proofs.Negatives.{unlike-twice}
use Rattle.laws.specs.Dyadic.{with_sign, eq_z, cap}

-- ---- sign and size

abbrev pub sign_of : ℤ → Bool
sign_of (pos n) = false
sign_of (negsuc n) = true

pub sign-abs : (z : ℤ) → with_sign (sign_of z) (nat_abs z) ≡ z
sign-abs (pos n) = refl
sign-abs (negsuc n) = refl

pub abs-sign : (s : Bool) (k : ℕ) → nat_abs (with_sign s k) ≡ k
abs-sign false k = refl
abs-sign true zero = refl
abs-sign true (suc k) = refl

pub one-small : (s : Bool) → nat_abs (with_sign s 1) < cap
one-small s = rw (abs-sign s 1) (lit< tt)

-- the size is that of the number
pub abs-of : (s : Bool) (k : ℕ) (z : ℤ) → with_sign s k ≡ z → k ≡ nat_abs z
abs-of s k z e = sym (abs-sign s k) ∙ ap nat_abs e

-- a number that is not 0 has one sign
pub sign-one : (s t : Bool) (k : ℕ) → 0 < k → with_sign s k ≡ with_sign t k → s ≡ t
sign-one s t zero h e = absurd (lt_irrefl 0 h)
sign-one false false (suc k) h e = refl
sign-one false true (suc k) h e = absurd (pos-ne-negsuc (suc k) k e)
sign-one true false (suc k) h e = absurd (pos-ne-negsuc (suc k) k (sym e))
sign-one true true (suc k) h e = refl

pub sign_zero : (s : Bool) → with_sign s 0 ≡ pos 0
sign_zero false = refl
sign_zero true = refl

pub sign-not : (s : Bool) (k : ℕ) → with_sign (not s) k ≡ neg_ℤ (with_sign s k)
sign-not false k = refl
sign-not true zero = refl
sign-not true (suc k) = refl

pub sign-mul : (s t : Bool) (k l : ℕ) → with_sign (unlike s t) (k * l) ≡ with_sign s k *ℤ with_sign t l
sign-mul false false k l = refl
sign-mul false true k zero = ap (λ (x : ℕ). neg_ℤ (pos x)) (mul-zero k) ∙ ap pos (sym (mul-zero k))
sign-mul false true k (suc l) = refl
sign-mul true false zero l = ap (λ (x : ℕ). neg_ℤ (pos x)) (zero-mul l) ∙ ap pos (sym (zero-mul l))
sign-mul true false (suc k) l = refl
sign-mul true true zero zero = refl
sign-mul true true zero (suc l) = ap pos (zero-mul (suc l)) ∙ sym (ap (λ (x : ℕ). neg_ℤ (pos x)) (zero-mul (suc l)))
sign-mul true true (suc k) zero = ap pos (mul-zero (suc k)) ∙ sym (ap (λ (x : ℕ). neg_ℤ (pos x)) (mul-zero (suc k)))
sign-mul true true (suc k) (suc l) = refl

pub abs_neg : (z : ℤ) → nat_abs (neg_ℤ z) ≡ nat_abs z
abs_neg (pos zero) = refl
abs_neg (pos (suc n)) = refl
abs_neg (negsuc n) = refl

-- a product, by signs and sizes
mul_is : (v w : ℤ) → v *ℤ w ≡ with_sign (unlike (sign_of v) (sign_of w)) (nat_abs v * nat_abs w)
mul_is v w = (λ i. sym (sign-abs v) i *ℤ sym (sign-abs w) i) ∙ sym (sign-mul (sign_of v) (sign_of w) (nat_abs v) (nat_abs w))

-- ---- a factor taken out of a product: the other has the size and the sign that are left

pub quot-size : (s t : Bool) (k n : ℕ) (v w : ℤ) → with_sign s k ≡ v *ℤ w → with_sign t n ≡ w → k ≡ nat_abs v * n
quot-size s t k n v w e f =
    abs-of s k (with_sign (unlike (sign_of v) (sign_of w)) (nat_abs v * nat_abs w)) (e ∙ mul_is v w)
    ∙ abs-sign (unlike (sign_of v) (sign_of w)) (nat_abs v * nat_abs w)
    ∙ ap (λ (x : ℕ). nat_abs v * x) (sym (abs-of t n w f))

pub quot-sign : (s t : Bool) (k n : ℕ) (v w : ℤ) → 0 < n → with_sign s k ≡ v *ℤ w → with_sign t n ≡ w → with_sign (unlike s t) (nat_abs v) ≡ v
quot-sign s t k n v w N e f = by (eq-zero-or-pos (nat_abs v))
  where
    k-is : k ≡ nat_abs v * nat_abs w
    k-is = quot-size s t k n v w e f ∙ ap (λ (x : ℕ). nat_abs v * x) (abs-of t n w f)

    t-is : t ≡ sign_of w
    t-is = sign-one t (sign_of w) n N (f ∙ sym (sign-abs w) ∙ ap (with_sign (sign_of w)) (sym (abs-of t n w f)))

    by : (nat_abs v ≡ 0) ⊎ (0 < nat_abs v) → with_sign (unlike s t) (nat_abs v) ≡ v
    by (inl o) = ap (with_sign (unlike s t)) o ∙ sign_zero (unlike s t) ∙ sym (sign_zero (sign_of v)) ∙ ap (with_sign (sign_of v)) (sym o) ∙ sign-abs v
    by (inr o) =
        let K : 0 < k = subst (λ (x : ℕ). 0 < x) (sym (quot-size s t k n v w e f)) (mul-pos o N) in
        let s-is : s ≡ unlike (sign_of v) (sign_of w) =
        sign-one s (unlike (sign_of v) (sign_of w)) k K (e ∙ mul_is v w ∙ ap (with_sign (unlike (sign_of v) (sign_of w))) (sym k-is)) in
        (λ i. with_sign (unlike (s-is i) (t-is i)) (nat_abs v)) ∙ ap (λ (b : Bool). with_sign b (nat_abs v)) (unlike-twice (sign_of v) (sign_of w)) ∙ sign-abs v

-- ---- quotients

pub quot_is : (z w : ℤ) → quot_z z w ≡ with_sign (unlike (sign_of z) (sign_of w)) (nat_abs z / nat_abs w)
quot_is (pos a) (pos b) = refl
quot_is (pos a) (negsuc b) = refl
quot_is (negsuc a) (pos b) = refl
quot_is (negsuc a) (negsuc b) = refl

pub quot-mul : (z w : ℤ) → nat_abs z % nat_abs w ≡ 0 → quot_z z w *ℤ w ≡ z
quot-mul z w r =
    (λ i. quot_is z w i *ℤ sym (sign-abs w) i)
    ∙ sym (sign-mul (unlike (sign_of z) (sign_of w)) (sign_of w) (nat_abs z / nat_abs w) (nat_abs w))
    ∙ (λ i. with_sign (unlike-twice (sign_of z) (sign_of w) i) (back i))
    ∙ sign-abs z
  where
    back : nat_abs z / nat_abs w * nat_abs w ≡ nat_abs z
    back =
        sym (add-zero (nat_abs z / nat_abs w * nat_abs w))
        ∙ ap (λ (x : ℕ). nat_abs z / nat_abs w * nat_abs w + x) (sym r)
        ∙ div-add-mod' (nat_abs z) (nat_abs w)

-- ---- differences

pub sub-ge : (k l : ℕ) → l ≤ k → pos k +ℤ neg_ℤ (pos l) ≡ pos (k - l)
sub-ge k zero h = ap pos (omega arith)
sub-ge k (suc l) h = rw (le-ltb k (suc l) h)

pub sub-lt : (k l : ℕ) → k < l → pos k +ℤ neg_ℤ (pos l) ≡ neg_ℤ (pos (l - k))
sub-lt k zero h = absurd (omega arith)
sub-lt k (suc l) h =
    let e : suc l - k ≡ suc (suc l - suc k) = omega arith in
    rw (lt-ltb k (suc l) h, e)

-- ---- order

pub eqb_comm : (a b : ℕ) → eqb a b ≡ eqb b a
eqb_comm a b = grind (arith, nat_tests)

lt-or-eq : (a b : ℕ) → (ltb a b || eqb a b) ≡ leb a b
lt-or-eq a b = grind (arith, nat_tests)

pub le_is : (z w : ℤ) → (lt_z z w || eq_z z w) ≡ le_z z w
le_is (pos a) (pos b) = lt-or-eq a b
le_is (pos a) (negsuc b) = refl
le_is (negsuc a) (pos b) = refl
le_is (negsuc a) (negsuc b) = ap (λ (t : Bool). ltb b a || t) (eqb_comm a b) ∙ lt-or-eq b a
