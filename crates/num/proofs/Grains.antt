-- The grains of an f64: every one is n * 2 ^ k of them with an n of 53 digits, they and the sign fix it, and of two that are not below zero
-- the one with fewer is the smaller. Found through the bits, so that no case is made of the exponent. Assumes nothing.
use mathlib.Core.Path.{◌≡◌, refl, sym, ap, ◌∙◌, subst}
use Prim.Native.Nat.{ℕ, zero, suc, ◌+◌, ◌-◌, ◌*◌, ◌/◌, ◌%◌, ◌^◌, ◌≤◌, ◌<◌}
use lib.IntN.{ℤ, pos}
use native.Mathlib.Nat.{zero-mul, zero-div, le_of_suc-le-suc, mul_comm, mul_right_comm, mul_assoc, mul-pos, mul-div_cancel, mul-le-mul_right, mul-lt-mul_of_pos_right, lt_of_mul-lt-mul_right, pos_of_ne-zero, le_of_mul-le-mul_right}
use native.Mathlib.Omega.{arith}
use mathlib.Core.Bool.{Bool, true, false, cond}
use lib.Dec.{T, leb, eqb}
use lib.Pow.{pow_pos}
use lib.Ieee.{Float, nan, inf, fin, binary64, fits, is_nan, up, down, size, odd, lt, of_bits, of_fields, to_bits}
use lib.Ieee.Digits.{Equals, odd_val}
use lib.Ieee.Fits.{down_pos}
use lib.Ieee.Bits.{of_bits-to_bits}
use lib.Ieee.Scale.{finite}
use borrow.Author.Tests.{lt-ltb, le-ltb}
use Rattle.num.specs.Root.{per_one, grains, plain}

-- ---- a plain number is a number, and finite

pub plain-number : (y : Float) → T (plain y) → is_nan y ≡ false
unfolding is_nan
plain-number nan p = absurd p
plain-number (inf s) p = refl
plain-number (fin s m e) p = refl

pub plain-finite : (y : Float) → T (plain y) → T (finite y)
plain-finite nan p = p
plain-finite (inf s) p = p
plain-finite (fin s m e) p = tt

-- ---- of the value c / 2 ^ 1074

grains-of : (v : Float) (c : ℕ) → Equals v c per_one → grains v ≡ c
unfolding grains
grains-of nan c h = absurd h
grains-of (inf s) c h = absurd h
grains-of (fin s m e) c h = ap (λ (z : ℕ). z / down e) h ∙ mul-div_cancel c (down_pos e)

-- what `odd` makes of q, k and 1074 has q * 2 ^ k grains; d is how many digits q may have
pub grains-odd : (d : ℕ) (s : Bool) (q k : ℕ) → grains (odd d s q k 1074) ≡ q * 2 ^ k
grains-odd d s q k = grains-of (odd d s q k 1074) (q * 2 ^ k) (odd_val d s q k 1074)

pub plain-odd : (d q k l : ℕ) → T (plain (odd d false q k l))
unfolding odd
plain-odd d zero k l = tt
plain-odd d (suc q) k l = tt

pub zero-grains : (s : Bool) (e : ℤ) → grains (fin s zero e) ≡ 0
unfolding grains
zero-grains s e = ap (λ (z : ℕ). z * per_one / down e) (zero-mul (up e)) ∙ zero-div (down e)

-- ---- every f64 is a whole number of grains

-- a finite v is c / 2 ^ 1074
abbrev Exact : Float → ℕ → Type 0
Exact nan c = Unit {0}
Exact (inf s) c = Unit {0}
Exact (fin s m e) c = m * up e * per_one ≡ c * down e

exactly : (v : Float) (c : ℕ) → Equals v c per_one → Exact v c
exactly nan c h = absurd h
exactly (inf s) c h = absurd h
exactly (fin s m e) c h = h

-- v has n * 2 ^ k grains, with an n of at most 53 digits
pub record Grid (v : Float) : Type 0 where
  pub n : ℕ
  pub k : ℕ
  pub short : n < 2 ^ 53
  pub few : k < 2047
  pub is : grains v ≡ n * 2 ^ k
  pub exact : Exact v (n * 2 ^ k)

grid-odd : (s : Bool) (q k : ℕ) → q < 2 ^ 53 → k < 2047 → Grid (odd 53 s q k 1074)
grid-odd s q k h l = record {
  n = q;
  k = k;
  short = h;
  few = l;
  is = grains-odd 53 s q k;
  exact = exactly (odd 53 s q k 1074) (q * 2 ^ k) (odd_val 53 s q k 1074);
}

grid-none : (v : Float) → grains v ≡ 0 → Exact v 0 → Grid v
grid-none v h e = record { n = 0; k = 0; short = omega arith; few = omega arith; is = h; exact = e }

grid-fields : (s : Bool) (x t : ℕ) → t < 2 ^ 52 → x < 2048 → Grid (of_fields binary64 s x t)
unfolding of_fields grains
grid-fields s zero t h l = grid-odd s t 0 (lead t h) (omega arith)
  where
    lead : (t : ℕ) → t < 2 ^ 52 → t < 2 ^ 53
    lead t h = omega arith
grid-fields s (suc x) t h l = go (eqb (suc x) 2047) (eqb t 0)
  where
    lead : (t : ℕ) → t < 2 ^ 52 → 2 ^ 52 + t < 2 ^ 53
    lead t h = omega arith

    go : (a b : Bool) → Grid (cond a (cond b (inf s) nan) (odd 53 s (2 ^ 52 + t) x 1074))
    go true true = grid-none (inf s) refl tt
    go true false = grid-none nan refl tt
    go false b = grid-odd s (2 ^ 52 + t) x (lead t h) (le_of_suc-le-suc l)

grid-bits : (b : ℕ) → Grid (of_bits binary64 b)
unfolding of_bits
grid-bits b = grid-fields (leb (2 ^ 63) b) (b % 2 ^ 63 / 2 ^ 52) (b % 2 ^ 52) (omega arith) (omega arith)

pub grid : (v : Float) → T (fits binary64 v) → Grid v
grid v h = subst Grid (of_bits-to_bits binary64 v h) (grid-bits (to_bits binary64 v))

pub grains-exact : (s : Bool) (m : ℕ) (e : ℤ) → T (fits binary64 (fin s m e)) → m * up e * per_one ≡ grains (fin s m e) * down e
grains-exact s m e h = let d = grid (fin s m e) h in d.exact ∙ ap (λ (z : ℕ). z * down e) (sym d.is)

-- ---- grains and sign fix the value

same_bits : (s : Bool) (m : ℕ) (e : ℤ) (n : ℕ) (d : ℤ) → grains (fin s m e) ≡ grains (fin s n d)
    → to_bits binary64 (fin s m e) ≡ to_bits binary64 (fin s n d)
unfolding grains to_bits
same_bits s m e n d h = ap (λ (z : ℕ). cond s (2 ^ 63) 0 + (size z - 53) * 2 ^ 52 + z / 2 ^ (size z - 53)) h

pub by-grains : (r t : Float) → T (fits binary64 r) → T (fits binary64 t) → T (plain r) → T (plain t) → grains r ≡ grains t → r ≡ t
by-grains (fin false m e) (fin false n d) f g p q h =
    sym (of_bits-to_bits binary64 (fin false m e) f)
    ∙ ap (of_bits binary64) (same_bits false m e n d h)
    ∙ of_bits-to_bits binary64 (fin false n d) g
by-grains (fin false m e) (fin true n d) f g p q h = absurd q
by-grains (fin false m e) nan f g p q h = absurd q
by-grains (fin false m e) (inf t) f g p q h = absurd q
by-grains (fin true m e) t f g p q h = absurd p
by-grains nan t f g p q h = absurd p
by-grains (inf s) t f g p q h = absurd p

-- what is not zero has grains
pub some-grains : (m : ℕ) (e : ℤ) → T (fits binary64 (fin false (suc m) e)) → 0 < grains (fin false (suc m) e)
unfolding grains fits
some-grains m e h = pos_of_ne-zero (λ z. no (by-grains (fin false (suc m) e) (fin false 0 (pos 0)) h tt tt tt z))
  where
    no : fin false (suc m) e ≡ fin false 0 (pos 0) → ⊥
    no p = let z : suc m ≡ 0 = cc in omega arith

-- ---- the order of numbers that are not below zero

-- two fractions a / d and b / e with a * p = g * d and b * p = h * e compare as g and h do
cross : (a b g h d e p : ℕ) → 0 < p → 0 < d → 0 < e → a * p ≡ g * d → b * p ≡ h * e → (g < h → a * e < b * d) × (h ≤ g → b * d ≤ a * e)
cross a b g h d e p P D E A B = (below, back)
  where
    left : a * e * p ≡ g * (d * e)
    left = mul_right_comm a e p ∙ ap (λ (z : ℕ). z * e) A ∙ mul_assoc g d e

    right : b * d * p ≡ h * (d * e)
    right = mul_right_comm b d p ∙ ap (λ (z : ℕ). z * d) B ∙ mul_assoc h e d ∙ ap (λ (z : ℕ). h * z) (mul_comm e d)

    below : g < h → a * e < b * d
    below l = lt_of_mul-lt-mul_right p (rw (left, right) (mul-lt-mul_of_pos_right l (mul-pos D E)))

    back : h ≤ g → b * d ≤ a * e
    back k = le_of_mul-le-mul_right (rw (left, right) (mul-le-mul_right (d * e) k)) P

pub plain-lt : (a b : Float) → T (fits binary64 a) → T (fits binary64 b) → T (plain a) → T (plain b)
    → (grains a < grains b → lt a b ≡ true) × (grains b ≤ grains a → lt a b ≡ false)
unfolding lt
plain-lt (fin false m e) (fin false n d) f g p q =
    let w =
    cross (m * up e) (n * up d) (grains (fin false m e)) (grains (fin false n d)) (down e) (down d) per_one
    (pow_pos 1074) (down_pos e) (down_pos d) (grains-exact false m e f) (grains-exact false n d g) in
    ((λ l. lt-ltb _ _ (w.0 l)), (λ l. le-ltb _ _ (w.1 l)))
plain-lt (fin false m e) (fin true n d) f g p q = absurd q
plain-lt (fin false m e) nan f g p q = absurd q
plain-lt (fin false m e) (inf t) f g p q = absurd q
plain-lt (fin true m e) b f g p q = absurd p
plain-lt nan b f g p q = absurd p
plain-lt (inf s) b f g p q = absurd p
