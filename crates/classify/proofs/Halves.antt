-- Exact steps of f64: half of x + x is x where that sum is finite, a zero in front of a sum adds nothing, a zero times a finite number is a zero,
-- and factors may change places. The first since x + x has twice the value of x, so that the quotient's fraction is that of x again; the others
-- by the definition of `round`. Assumes nothing.
use mathlib.Core.Path.{◌≡◌, refl, sym, ap, ◌∙◌, subst}
use mathlib.Core.Logic.{⊎_elim}
use mathlib.Core.Bool.{Bool, true, false, cond}
use Prim.Native.Nat.{ℕ, zero, suc, ◌+◌, ◌*◌, ◌^◌, ◌<◌}
use native.Mathlib.Nat.{mul-one, zero-mul, mul_comm, mul_assoc, mul_left_comm, mul-pos, pow-suc, le_trans, le_of_eq, le_of_lt}
use native.Mathlib.Omega.{arith}
use lib.Dec.{T, eqb, lit<}
use lib.IntN.{ℤ, pos, negsuc}
use lib.Pow.{pow_pos, pow-add, shl_lt}
use lib.Ieee.{Float, nan, inf, fin, binary64, up, down, round, sum, add, mul, div, neg, le, lt, eq, unlike, fits, of_bits}
use lib.Ieee.Exact.{HasValue, round_exact}
use lib.Ieee.Fits.{down_pos}
use lib.Ieee.Order.{round_mono}
use lib.Ieee.Scale.{finite, round_same}
use Rattle.laws.specs.Zeros.{+0, nz, sg}
use Rattle.laws.specs.Dyadic.{finest}
use Rattle.std.proofs.lemmas.Bool.{cases_lt}
use Rattle.laws.proofs.Dyadic.{round-value}
use Rattle.laws.proofs.Negatives.{unlike-false, round-neg}
use Rattle.laws.proofs.Fit.{pow-back, of_fits, round-self}
use Rattle.laws.proofs.FirstTerms.{lead}
use Rattle.laws.proofs.Zeros.{nz-nz, flat, den, round-zero}
use Rattle.gate.specs.Complex.{f2}

-- ---- x + x

-- x is finite, and twice its size is below 2 ^ 1024
abbrev pub Room : Float → Type 0
Room nan = ⊥
Room (inf s) = ⊥
Room (fin s m e) = m * up e * 2 < 2 ^ 1024 * down e

pub room-sg : (b : Bool) (x : Float) → Room x → Room (sg b x)
unfolding neg
room-sg false x h = h
room-sg true nan h = h
room-sg true (inf s) h = h
room-sg true (fin s m e) h = h

-- the fraction of the sum
sum_is : (s : Bool) (m : ℕ) (e : ℤ) → add binary64 (fin s m e) (fin s m e) ≡ round binary64 s (m * up e * 2) (down e)
unfolding add sum
sum_is s m e =
    let a = m * up e * down e in
    alike s a (down e * down e)
    ∙ round_same binary64 s (a + a) (down e * down e) (m * up e * 2) (down e) (den e e) (down_pos e)
    (ap (λ (k : ℕ). k * down e) (let t : a + a ≡ a * 2 = omega arith in t) ∙ simp (mul_assoc, mul_comm, mul_left_comm))
  where
    alike : (s : Bool) (a c : ℕ) → sum binary64 s a s a c ≡ round binary64 s (a + a) c
    alike true a c = refl
    alike false a c = refl

-- a number from 2 ^ 1024 on rounds to an infinity
top-inf : round binary64 false (2 ^ 1024) 1 ≡ inf false
unfolding round
top-inf = refl

finite-neg : (x : Float) → T (finite (neg x)) → T (finite x)
unfolding neg
finite-neg nan h = h
finite-neg (inf s) h = h
finite-neg (fin s m e) h = tt

not-above : (x : Float) → T (finite x) → T (le (inf false) x) → ⊥
unfolding le lt eq
not-above nan h k = h
not-above (inf s) h k = h
not-above (fin s m e) h k = k

below_top : (a c : ℕ) → 0 < c → T (finite (round binary64 false a c)) → a < 2 ^ 1024 * c
below_top a c C h =
    ⊎_elim (λ l. l)
    (λ l. absurd (not-above (round binary64 false a c) h
    (subst (λ (z : Float). T (le z (round binary64 false a c))) top-inf
    (round_mono binary64 (2 ^ 1024) 1 a c (lit< tt) C (le_trans l (le_of_eq (sym (mul-one a)))))))
    )
    (cases_lt a (2 ^ 1024 * c))

either-sign : (s : Bool) (a c : ℕ) → T (finite (round binary64 s a c)) → T (finite (round binary64 false a c))
either-sign false a c h = h
either-sign true a c h =
    finite-neg (round binary64 false a c) (subst (λ (z : Float). T (finite z)) (round-neg binary64 false a c) h)

pub room_of : (x : Float) → T (finite (add binary64 x x)) → Room x
room_of nan h = unfold add in h
room_of (inf true) h = unfold add in h
room_of (inf false) h = unfold add in h
room_of (fin s m e) h =
    below_top (m * up e * 2) (down e) (down_pos e) (either-sign s (m * up e * 2) (down e) (subst (λ (z : Float). T (finite z)) (sum_is s m e) h))

-- ---- a half of it

-- the sum has its value
value-is : (s : Bool) (m : ℕ) (e : ℤ) → T (fits binary64 (fin s m e)) → m * up e * 2 < 2 ^ 1024 * down e
    → HasValue (round binary64 s (m * up e * 2) (down e)) s (m * up e * 2) (down e)
value-is s zero e p r =
    round_exact binary64 s (zero * up e * 2) (down e) 0 0 (down_pos e) (lit< tt) (lit< tt)
    (ap (λ (y : ℕ). y * 2 ^ finest) (flat (up e) 2) ∙ zero-mul (2 ^ finest) ∙ sym (zero-mul (down e)))
value-is s (suc m) (pos a) p r =
    let e : suc m * 2 ^ (a + suc finest) ≡ suc m * 2 ^ a * 2 * 2 ^ finest
    = ap (λ (y : ℕ). suc m * y) (pow-add 2 a (suc finest)) ∙ shift (suc m) (2 ^ a) (2 ^ finest) in
    round_exact binary64 s (suc m * 2 ^ a * 2) 1 (suc m) (a + suc finest) (lit< tt) (of_fits s m (pos a) p).0
    (subst (λ (y : ℕ). y < 2 ^ (finest + 1024)) (sym e) (shl_lt 1024 finest r))
    (sym e ∙ sym (mul-one (suc m * 2 ^ (a + suc finest))))
  where
    shift : (k x y : ℕ) → k * (x * (2 * y)) ≡ k * x * 2 * y
    shift k x y = simp (mul_assoc, mul_comm, mul_left_comm)
value-is s (suc m) (negsuc a) p r =
    round-value s (suc m * 1 * 2) (2 ^ suc a) (suc m) a (pow_pos (suc a)) (of_fits s m (negsuc a) p).0
    (le_of_lt (pow-back (suc a) finest (of_fits s m (negsuc a) p).1.0))
    (shift (suc m) (2 ^ a) ∙ ap (λ (y : ℕ). suc m * y) (sym (pow-suc 2 a)))
  where
    shift : (k x : ℕ) → k * 1 * 2 * x ≡ k * (x * 2)
    shift k x = ap (λ (y : ℕ). y * 2 * x) (mul-one k) ∙ mul_assoc k 2 x ∙ ap (λ (y : ℕ). k * y) (mul_comm 2 x)

-- what has the value of 2 a / c, over 2.0
halved : (x : Float) (s : Bool) (a c : ℕ) → 0 < c → HasValue x s (a * 2) c → div binary64 x f2 ≡ round binary64 s a c
unfolding div of_bits
halved nan s a c C v = absurd v
halved (inf t) s a c C v = absurd v
halved (fin t k d) s a c C v =
    (λ i. round binary64 (unlike-false t i) (k * up d * 1) (2 * down d))
    ∙ (λ i. round binary64 (v.0 i) (k * up d * 1) (2 * down d))
    ∙ round_same binary64 s (k * up d * 1) (2 * down d) a c (mul-pos (lit< tt) (down_pos d)) C
    (ap (λ (y : ℕ). y * c) (mul-one (k * up d)) ∙ v.1 ∙ mul_assoc a 2 (down d))

pub half : (x : Float) → T (fits binary64 x) → Room x → div binary64 (add binary64 x x) f2 ≡ x
half nan p r = absurd r
half (inf s) p r = absurd r
half (fin s m e) p r =
    ap (λ (z : Float). div binary64 z f2) (sum_is s m e)
    ∙ halved (round binary64 s (m * up e * 2) (down e)) s (m * up e) (down e) (down_pos e) (value-is s m e p r)
    ∙ round-self s m e p

-- ---- zeros

-- 0.0 + x, with no sign of a zero
pub zero-plus : (x : Float) → T (fits binary64 x) → nz (add binary64 +0 x) ≡ nz x
zero-plus x p = ap nz (lead x p) ∙ nz-nz x

-- a zero times a finite number
pub zero-times : (x : Float) → T (finite x) → nz (mul binary64 +0 x) ≡ +0
unfolding mul
zero-times nan h = absurd h
zero-times (inf s) h = absurd h
zero-times (fin t n d) h =
    ap (λ (y : ℕ). nz (round binary64 (unlike false t) y (1 * down d))) (flat 1 (n * up d))
    ∙ round-zero (unlike false t) (1 * down d) (den (pos 0) d)

-- ---- a product turned round

unlike-turned : (s t : Bool) → unlike s t ≡ unlike t s
unlike-turned true true = refl
unlike-turned true false = refl
unlike-turned false true = refl
unlike-turned false false = refl

pub mul-turned : (x y : Float) → mul binary64 x y ≡ mul binary64 y x
unfolding mul
mul-turned nan nan = refl
mul-turned nan (inf t) = refl
mul-turned nan (fin t n d) = refl
mul-turned (inf s) nan = refl
mul-turned (inf s) (inf t) = ap inf (unlike-turned s t)
mul-turned (inf s) (fin t n d) = ap (λ (b : Bool). cond (eqb n 0) nan (inf b)) (unlike-turned s t)
mul-turned (fin s m e) nan = refl
mul-turned (fin s m e) (inf t) = ap (λ (b : Bool). cond (eqb m 0) nan (inf b)) (unlike-turned s t)
mul-turned (fin s m e) (fin t n d) =
    λ i. round binary64 (unlike-turned s t i) (mul_comm (m * up e) (n * up d) i) (mul_comm (down e) (down d) i)
