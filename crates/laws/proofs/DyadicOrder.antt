-- Comparisons of small dyadic numbers as floats are those of the whole numbers in front: `lt_z`, `le_z`, `eq_z`. Two floats are brought over one
-- denominator, and there over the power of two. Assumes nothing.
use mathlib.Core.Path.{◌≡◌, refl, sym, ap, ◌∙◌}
use mathlib.Core.Bool.{Bool, true, false, ◌&&◌, beq, and-true, and-false, ◌||◌}
use Prim.Native.Nat.{ℕ, zero, suc, ◌+◌, ◌*◌, ◌^◌, ◌<◌}
use native.Mathlib.Nat.{zero-mul, zero-add, zero-lt-suc}
use native.Mathlib.Omega.{arith}
use lib.Dec.{leb-suc-zero, leb-suc-suc, eqb-zero-suc, eqb-suc-zero, eqb-suc-suc, eqb, ltb}
use lib.IntN.{ℤ}
use lib.Signed.{lt_z, le_z}
use lib.Pow.{pow_pos}
use lib.Ieee.{Float, nan, inf, fin, up, down, lt, eq, le, below, level}
use borrow.Author.Tests.{lt-ltb}
use Rattle.std.proofs.lemmas.Bool.Decides.{nat_tests}
use Rattle.laws.specs.Dyadic.{with_sign, Dy, eq_z}
use Rattle.laws.proofs.Zeros.{den}
use Rattle.laws.proofs.Integers.{le_is}
use Rattle.laws.proofs.Dyadic.{left_at, right-at, plus-at, lt_at, le-at, eq-at}

-- ---- two fractions over one denominator

module _ (a b c k l p : ℕ) (P : 0 < p) (C : 0 < c) (A : a * p ≡ k * c) (B : b * p ≡ l * c) where
  ltb-at : ltb a b ≡ ltb k l
  ltb-at = grind (arith, nat_tests, lt_at a b c k l p A B P, le-at b a c l k p B A C)

  eqb-at : eqb a b ≡ eqb k l
  eqb-at = grind (arith, nat_tests, eq-at a b c k l p A B C, eq-at k l p a b c (sym A) (sym B) P)

-- 0 / c is 0 / p
none-at : (c p : ℕ) → 0 * p ≡ 0 * c
none-at c p = zero-mul p ∙ sym (zero-mul c)

level-at : (s t : Bool) (a b c k l p : ℕ) → 0 < p → 0 < c → a * p ≡ k * c → b * p ≡ l * c → level s a t b ≡ level s k t l
level-at s t a b c k l p P C A B = λ i. eqb-at a b c k l p P C A B i && (beq s t || eqb-at a 0 c k 0 p P C A (none-at c p) i)

below_at : (s t : Bool) (a b c k l p : ℕ) → 0 < p → 0 < c → a * p ≡ k * c → b * p ≡ l * c → below s a t b ≡ below s k t l
below_at false false a b c k l p P C A B = ltb-at a b c k l p P C A B
below_at false true a b c k l p P C A B = refl
below_at true false a b c k l p P C A B = ltb-at 0 (a + b) c 0 (k + l) p P C (none-at c p) (plus-at a b c k l p A B)
below_at true true a b c k l p P C A B = ltb-at b a c l k p P C B A

-- ---- whole numbers: the comparisons of floats are those of the numbers

below-is : (s t : Bool) (k l : ℕ) → below s k t l ≡ lt_z (with_sign s k) (with_sign t l)
below-is false false k l = refl
below-is false true k zero = sym (leb-suc-zero k)
below-is false true k (suc l) = refl
below-is true false zero l = ap (ltb 0) (zero-add l)
below-is true false (suc k) l =
    let h : 0 < suc k + l = omega arith in
    lt-ltb 0 (suc k + l) h
below-is true true zero zero = refl
below-is true true zero (suc l) = leb-suc-zero (suc l)
below-is true true (suc k) zero = lt-ltb 0 (suc k) (zero-lt-suc k)
below-is true true (suc k) (suc l) = leb-suc-suc (suc l) k

level-is : (s t : Bool) (k l : ℕ) → level s k t l ≡ eq_z (with_sign s k) (with_sign t l)
level-is false false k l = and-true (eqb k l)
level-is true true zero zero = refl
level-is true true zero (suc l) = and-true (eqb 0 (suc l)) ∙ eqb-zero-suc l
level-is true true (suc k) zero = and-true (eqb (suc k) 0) ∙ eqb-suc-zero k
level-is true true (suc k) (suc l) = and-true (eqb (suc k) (suc l)) ∙ eqb-suc-suc k l
level-is false true zero zero = refl
level-is false true (suc k) zero = rw (eqb-suc-zero k)
level-is false true zero (suc l) = and-true (eqb 0 (suc l)) ∙ eqb-zero-suc l
level-is false true (suc k) (suc l) = rw (eqb-suc-zero k) (and-false (eqb (suc k) (suc l)))
level-is true false zero l = and-true (eqb 0 l)
level-is true false (suc k) l = rw (eqb-suc-zero k) (and-false (eqb (suc k) l))

-- ---- dyadic numbers

pub lt-dy : (j : ℕ) (z w : ℤ) (x y : Float) → Dy j z x → Dy j w y → lt x y ≡ lt_z z w
unfolding lt
lt-dy j z w nan y p q = absurd p
lt-dy j z w (inf s) y p q = absurd p
lt-dy j z w (fin s m e) nan p q = absurd q
lt-dy j z w (fin s m e) (inf t) p q = absurd q
lt-dy j z w (fin s m e) (fin t n d) p q =
    below_at s t (m * up e * down d) (n * up d * down e) (down e * down d) p.0 q.0 (2 ^ j) (pow_pos j) (den e d)
    (left_at (m * up e) (2 ^ j) (down d) p.0 (down e) p.1)
    (right-at (n * up d) (2 ^ j) (down e) q.0 (down d) q.1)
    ∙ below-is s t p.0 q.0
    ∙ (λ i. lt_z (p.2 i) (q.2 i))

pub eq-dy : (j : ℕ) (z w : ℤ) (x y : Float) → Dy j z x → Dy j w y → eq x y ≡ eq_z z w
unfolding eq
eq-dy j z w nan y p q = absurd p
eq-dy j z w (inf s) y p q = absurd p
eq-dy j z w (fin s m e) nan p q = absurd q
eq-dy j z w (fin s m e) (inf t) p q = absurd q
eq-dy j z w (fin s m e) (fin t n d) p q =
    level-at s t (m * up e * down d) (n * up d * down e) (down e * down d) p.0 q.0 (2 ^ j) (pow_pos j) (den e d)
    (left_at (m * up e) (2 ^ j) (down d) p.0 (down e) p.1)
    (right-at (n * up d) (2 ^ j) (down e) q.0 (down d) q.1)
    ∙ level-is s t p.0 q.0
    ∙ (λ i. eq_z (p.2 i) (q.2 i))

pub le-dy : (j : ℕ) (z w : ℤ) (x y : Float) → Dy j z x → Dy j w y → le x y ≡ le_z z w
unfolding le
le-dy j z w x y p q = (λ i. lt-dy j z w x y p q i || eq-dy j z w x y p q i) ∙ le_is z w
