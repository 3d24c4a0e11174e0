-- Known numbers: a small whole number, or nothing known. An operation whose result is not small gives up, so that its law has no side condition: that
-- nothing is lost on the way is found out by computing. Assumes nothing.
use mathlib.Core.Path.{◌≡◌, sym, ap, subst}
use mathlib.Core.Bool.{Bool, true, false, ◌&&◌}
use Prim.Native.Nat.{ℕ, zero, suc, ◌+◌, ◌*◌, ◌%◌, ◌<◌}
use native.Mathlib.Nat.{mul-le-mul, le_of_lt, lt_of_le_of_lt}
use native.Mathlib.Omega.{arith}
use lib.Dec.{T, eqb, ltb, ltb→lt, eqb→eq, lit<, lit≤}
use lib.IntN.{ℤ, pos, negsuc, neg_ℤ, nat_abs, ◌+ℤ◌, ◌-ℤ◌, ◌*ℤ◌, zero-*ℤ}
use lib.Signed.{quot_z}
use lib.Ieee.{Float, binary64, add, sub, mul, div, neg}
use lib.Ieee.Fits.{and_l, and_r}
use Rattle.laws.specs.Dyadic.{Dy, cap, eq_z}
use Rattle.laws.proofs.Integers.{abs_neg}
use Rattle.laws.proofs.Dyadic.{add-dy, sub-dy, mul-dy, neg-dy, quot-dy}

pub data Known : Type 0 where
  un : Known
  kn : ℤ → Known

-- what counts as small
abbrev pub bound : ℕ
bound = 1000

-- ---- operations

abbrev pub keep : Bool → ℤ → Known
keep true z = kn z
keep false z = un

-- f of the two, where the test passes and the result is small
abbrev pub lift : (ℤ → ℤ → Bool) → (ℤ → ℤ → ℤ) → Known → Known → Known
lift p f un b = un
lift p f (kn z) un = un
lift p f (kn z) (kn w) = keep (p z w && ltb (nat_abs (f z w)) bound) (f z w)

abbrev pub always : ℤ → ℤ → Bool
always z w = true

-- w is not 0 and divides z
abbrev pub divides : ℤ → ℤ → Bool
divides z w = ltb 0 (nat_abs w) && eqb (nat_abs z % nat_abs w) 0

abbrev pub add_k : Known → Known → Known
add_k = lift always ◌+ℤ◌

abbrev pub sub_k : Known → Known → Known
sub_k = lift always ◌-ℤ◌

-- a product with 0 is told at once, to save time
abbrev pub mul_k : Known → Known → Known
mul_k un b = un
mul_k (kn (pos zero)) un = un
mul_k (kn (pos zero)) (kn w) = kn (pos zero)
mul_k (kn (pos (suc n))) b = lift always ◌*ℤ◌ (kn (pos (suc n))) b
mul_k (kn (negsuc n)) b = lift always ◌*ℤ◌ (kn (negsuc n)) b

abbrev pub div_k : Known → Known → Known
div_k = lift divides quot_z

abbrev pub neg_k : Known → Known
neg_k un = un
neg_k (kn z) = kn (neg_ℤ z)

-- ---- x is what is known

abbrev pub IsKnown : Float → Known → Type 0
IsKnown x un = Unit {0}
IsKnown x (kn z) = (nat_abs z < bound) × Dy 0 z x

-- ---- the laws

module _ (p : ℤ → ℤ → Bool) (f : ℤ → ℤ → ℤ) (op : Float → Float → Float)
    (law : (z w : ℤ) (x y : Float) → nat_abs z < bound → nat_abs w < bound → T (p z w) → Dy 0 z x → Dy 0 w y → Dy 0 (f z w) (op x y)) where
  lift-known : (x y : Float) (a b : Known) → IsKnown x a → IsKnown y b → IsKnown (op x y) (lift p f a b)
  lift-known x y un b r s = tt
  lift-known x y (kn z) un r s = tt
  lift-known x y (kn z) (kn w) r s =
      kept (p z w) (ltb (nat_abs (f z w)) bound) (ltb→lt (nat_abs (f z w)) bound) (λ t. law z w x y r.0 s.0 t r.1 s.1)
    where
      kept : (b c : Bool) → (T c → nat_abs (f z w) < bound) → (T b → Dy 0 (f z w) (op x y)) → IsKnown (op x y) (keep (b && c) (f z w))
      kept true true h k = (h tt, k tt)
      kept true false h k = tt
      kept false c h k = tt

sum-small : (a b : ℕ) → a < bound → b < bound → a + b < cap
sum-small a b h k = omega arith

product_small : (a b : ℕ) → a < bound → b < bound → a * b < cap
product_small a b h k = lt_of_le_of_lt (mul-le-mul (le_of_lt h) (le_of_lt k)) (lit< tt)

small : (a : ℕ) → a < bound → a < cap
small a h = omega arith

pub add-known : (x y : Float) (a b : Known) → IsKnown x a → IsKnown y b → IsKnown (add binary64 x y) (add_k a b)
add-known = lift-known always ◌+ℤ◌ (add binary64) (λ z w x y h k t. add-dy 0 z w x y (lit≤ tt) (sum-small (nat_abs z) (nat_abs w) h k))

pub sub-known : (x y : Float) (a b : Known) → IsKnown x a → IsKnown y b → IsKnown (sub binary64 x y) (sub_k a b)
sub-known = lift-known always ◌-ℤ◌ (sub binary64) (λ z w x y h k t. sub-dy 0 z w x y (lit≤ tt) (sum-small (nat_abs z) (nat_abs w) h k))

mul-whole : (z w : ℤ) (x y : Float) → nat_abs z < bound → nat_abs w < bound → T (always z w) → Dy 0 z x → Dy 0 w y → Dy 0 (z *ℤ w) (mul binary64 x y)
mul-whole z w x y h k t = mul-dy 0 0 z w x y (lit≤ tt) (product_small (nat_abs z) (nat_abs w) h k)

pub mul-known : (x y : Float) (a b : Known) → IsKnown x a → IsKnown y b → IsKnown (mul binary64 x y) (mul_k a b)
mul-known x y un b r s = tt
mul-known x y (kn (pos zero)) un r s = tt
mul-known x y (kn (pos zero)) (kn w) r s =
    (r.0, subst (λ (v : ℤ). Dy 0 v (mul binary64 x y)) (zero-*ℤ w) (mul-whole (pos zero) w x y r.0 s.0 tt r.1 s.1))
mul-known x y (kn (pos (suc n))) b r s = lift-known always ◌*ℤ◌ (mul binary64) mul-whole x y (kn (pos (suc n))) b r s
mul-known x y (kn (negsuc n)) b r s = lift-known always ◌*ℤ◌ (mul binary64) mul-whole x y (kn (negsuc n)) b r s

pub div_known : (x y : Float) (a b : Known) → IsKnown x a → IsKnown y b → IsKnown (div binary64 x y) (div_k a b)
div_known =
    lift-known divides quot_z (div binary64)
    (λ z w x y h k t.
    quot-dy 0 0 z w x y (lit≤ tt) (small (nat_abs z) h)
    (ltb→lt 0 (nat_abs w) (and_l (ltb 0 (nat_abs w)) (eqb (nat_abs z % nat_abs w) 0) t))
    (eqb→eq (nat_abs z % nat_abs w) 0 (and_r (ltb 0 (nat_abs w)) (eqb (nat_abs z % nat_abs w) 0) t)))

pub neg-known : (x : Float) (a : Known) → IsKnown x a → IsKnown (neg x) (neg_k a)
neg-known x un r = tt
neg-known x (kn z) r = (subst (λ (n : ℕ). n < bound) (sym (abs_neg z)) r.0, neg-dy 0 z x r.1)

-- ---- what a test finds

abbrev pub is : Known → ℤ → Bool
is un w = false
is (kn z) w = eq_z z w

pub eq_z→ : (z w : ℤ) → T (eq_z z w) → z ≡ w
eq_z→ (pos a) (pos b) t = ap pos (eqb→eq a b t)
eq_z→ (pos a) (negsuc b) t = absurd t
eq_z→ (negsuc a) (pos b) t = absurd t
eq_z→ (negsuc a) (negsuc b) t = ap negsuc (eqb→eq a b t)

pub is_known : (x : Float) (a : Known) (w : ℤ) → IsKnown x a → T (is a w) → Dy 0 w x
is_known x un w r t = absurd t
is_known x (kn z) w r t = subst (λ (v : ℤ). Dy 0 v x) (eq_z→ z w t) r.1
