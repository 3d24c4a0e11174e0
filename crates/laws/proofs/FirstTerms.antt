-- The first two terms of a sum from 0.0 may change places: addition is commutative, and a zero in front takes the sign from a zero that follows.
-- Assumes nothing.
use mathlib.Core.Path.{◌≡◌, refl, sym, ap, ◌∙◌}
use mathlib.Core.Bool.{Bool, true, false}
use Prim.Native.Nat.{ℕ, zero, suc, ◌*◌, ◌<◌}
use native.Mathlib.Nat.{zero-add, zero-mul, add_comm, mul_comm, mul_assoc, sub-zero}
use native.Mathlib.Omega.{arith}
use lib.IntN.{ℤ, pos}
use lib.Dec.{T, lit<}
use lib.Ieee.{Float, nan, inf, fin, binary64, up, down, fits, round, sum, add, mul}
use lib.Ieee.Fits.{down_pos, mul-fits}
use lib.Ieee.Scale.{round_same}
use borrow.Author.Tests.{lt-ltb}
use Rattle.std.proofs.lemmas.Bool.Decides.{nat_tests}
use Rattle.laws.specs.Zeros.{+0, nz}
use Rattle.laws.specs.Maps.{dot}
use Rattle.laws.proofs.Zeros.{flat, den, more}
use Rattle.laws.proofs.Fit.{round-self}

-- ---- addition is commutative

-- of two numbers of different sign
unlike-comm : (a b c : ℕ) → sum binary64 false a true b c ≡ sum binary64 true b false a c
unfolding sum
unlike-comm a b c = grind (arith, nat_tests)

sum_comm : (s t : Bool) (a b c : ℕ) → sum binary64 s a t b c ≡ sum binary64 t b s a c
unfolding sum
sum_comm false false a b c = ap (λ x. round binary64 false x c) (add_comm a b)
sum_comm true true a b c = ap (λ x. round binary64 true x c) (add_comm a b)
sum_comm false true a b c = unlike-comm a b c
sum_comm true false a b c = sym (unlike-comm b a c)

pub plus_comm : (x y : Float) → add binary64 x y ≡ add binary64 y x
unfolding add
plus_comm nan nan = refl
plus_comm nan (inf t) = refl
plus_comm nan (fin t n d) = refl
plus_comm (inf s) nan = refl
plus_comm (inf false) (inf false) = refl
plus_comm (inf false) (inf true) = refl
plus_comm (inf true) (inf false) = refl
plus_comm (inf true) (inf true) = refl
plus_comm (inf s) (fin t n d) = refl
plus_comm (fin s m e) nan = refl
plus_comm (fin s m e) (inf t) = refl
plus_comm (fin s m e) (fin t n d) =
    sum_comm s t (m * up e * down d) (n * up d * down e) (down e * down d) ∙ ap (sum binary64 t (n * up d * down e) s (m * up e * down d)) (mul_comm (down e) (down d))

-- ---- a zero in front

-- 0.0 and a zero
none : (t : Bool) (c : ℕ) → 0 < c → sum binary64 false 0 t 0 c ≡ +0
unfolding sum fits
none t c C = by t ∙ round_same binary64 false 0 c 0 1 C (lit< tt) (zero-mul 1 ∙ sym (zero-mul c)) ∙ round-self false 0 (pos 0) tt
  where
    by : (t : Bool) → sum binary64 false 0 t 0 c ≡ round binary64 false 0 c
    by false = refl
    by true = refl

zero-zero : (t : Bool) (d : ℤ) → add binary64 +0 (fin t zero d) ≡ +0
unfolding add
zero-zero t d =
    (λ i. sum binary64 false (flat (up (pos 0)) (down d) i) t (flat (up d) (down (pos 0)) i) (down (pos 0) * down d)) ∙ none t (down (pos 0) * down d) (den (pos 0) d)

-- a zero and what is none
alone : (s t : Bool) (b c : ℕ) → 0 < b → sum binary64 s 0 t b c ≡ round binary64 t b c
unfolding sum
alone false false b c h = ap (λ x. round binary64 false x c) (zero-add b)
alone true true b c h = ap (λ x. round binary64 true x c) (zero-add b)
alone false true b c h = rw (lt-ltb 0 b h, sub-zero b)
alone true false b c h = rw (lt-ltb 0 b h, sub-zero b)

zero-front : (s : Bool) (e : ℤ) (t : Bool) (n : ℕ) (d : ℤ) → T (fits binary64 (fin t (suc n) d)) → add binary64 (fin s zero e) (fin t (suc n) d) ≡ fin t (suc n) d
unfolding add
zero-front s e t n d p =
    let b = suc n * up d * down e in
    ap (λ x. sum binary64 s x t b (down e * down d)) (flat (up e) (down d))
    ∙ alone s t b (down e * down d) (more n d e)
    ∙ round_same binary64 t b (down e * down d) (suc n * up d) (down d) (den e d) (down_pos d) (mul_assoc (suc n * up d) (down e) (down d))
    ∙ round-self t (suc n) d p

pub lead : (x : Float) → T (fits binary64 x) → add binary64 +0 x ≡ nz x
unfolding add
lead nan p = refl
lead (inf s) p = refl
lead (fin t zero d) p = zero-zero t d
lead (fin t (suc n) d) p = zero-front false (pos 0) t n d p

-- ---- the first two terms

change : (x y : Float) → T (fits binary64 x) → T (fits binary64 y) → add binary64 (nz x) y ≡ add binary64 (nz y) x
unfolding add
change nan nan p q = refl
change nan (inf t) p q = refl
change nan (fin t zero d) p q = refl
change nan (fin t (suc n) d) p q = refl
change (inf s) nan p q = refl
change (inf s) (inf t) p q = plus_comm (inf s) (inf t)
change (inf s) (fin t zero d) p q = refl
change (inf s) (fin t (suc n) d) p q = refl
change (fin s zero e) nan p q = refl
change (fin s zero e) (inf t) p q = refl
change (fin s zero e) (fin t zero d) p q = zero-zero t d ∙ sym (zero-zero s e)
change (fin s zero e) (fin t (suc n) d) p q =
    zero-front false (pos 0) t n d q ∙ sym (plus_comm (fin t (suc n) d) (fin s zero e) ∙ zero-front s e t n d q)
change (fin s (suc m) e) nan p q = refl
change (fin s (suc m) e) (inf t) p q = refl
change (fin s (suc m) e) (fin t zero d) p q =
    plus_comm (fin s (suc m) e) (fin t zero d) ∙ zero-front t d s m e p ∙ sym (zero-front false (pos 0) s m e p)
change (fin s (suc m) e) (fin t (suc n) d) p q = plus_comm (fin s (suc m) e) (fin t (suc n) d)

pub first-terms : (x y : Float) → T (fits binary64 x) → T (fits binary64 y) → add binary64 (add binary64 +0 x) y ≡ add binary64 (add binary64 +0 y) x
first-terms x y p q = ap (λ z. add binary64 z y) (lead x p) ∙ change x y p q ∙ ap (λ z. add binary64 z x) (sym (lead y q))

-- so the second product of a row times a vector may stand before the first
pub dot-turned : (q v : ℕ → Float) → add binary64 (add binary64 +0 (mul binary64 (q 1) (v 1))) (mul binary64 (q 0) (v 0)) ≡ dot q v 2
unfolding dot
dot-turned q v = first-terms (mul binary64 (q 1) (v 1)) (mul binary64 (q 0) (v 0)) (mul-fits binary64 (q 1) (v 1)) (mul-fits binary64 (q 0) (v 0))
