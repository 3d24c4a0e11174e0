-- What the operations see of a float: a function v is seen through if equal v of the operands gives equal v of the result, and equal tests.
-- The identity is, and so is `nz`, equality up to the sign of a zero; laws over any such v serve both. Assumes nothing.
use mathlib.Core.Path.{◌≡◌, refl, sym, ap, subst, ◌∙◌}
use mathlib.Core.Logic.{◌≢◌}
use mathlib.Core.Bool.{Bool, true, false, cond, false≢true}
use Prim.Native.Nat.{ℕ, zero, suc, ◌*◌, ◌≤◌, ◌<◌, zero-le}
use native.Mathlib.Nat.{mul-pos, lt_irrefl, zero-lt-suc}
use native.Mathlib.Omega.{arith}
use lib.Dec.{ltb}
use lib.IntN.{ℤ}
use lib.Ieee.{Float, nan, inf, fin, binary64, add, sub, mul, div, neg, lt, eq, le, up, down}
use lib.Ieee.Fits.{up_pos}
use borrow.Author.Tests.{ne_eqb, le-ltb}
use Rattle.laws.specs.Zeros.{+0, nz}
use Rattle.laws.specs.Matrix.{Mat}
use Rattle.laws.proofs.Zeros as zeros
use Rattle.num.specs.Order.{abs_of, clamp_of}
use Rattle.num.proofs.Alike.{abs-cong}

pub record Seen (v : Float → Float) : Type 0 where
  pub add-seen : (x y z w : Float) → v x ≡ v z → v y ≡ v w → v (add binary64 x y) ≡ v (add binary64 z w)
  pub sub-seen : (x y z w : Float) → v x ≡ v z → v y ≡ v w → v (sub binary64 x y) ≡ v (sub binary64 z w)
  pub mul-seen : (x y z w : Float) → v x ≡ v z → v y ≡ v w → v (mul binary64 x y) ≡ v (mul binary64 z w)
  pub div-seen : (x y z w : Float) → v x ≡ v z → v y ≡ v w → nz y ≢ +0 → v (div binary64 x y) ≡ v (div binary64 z w)
  pub neg-seen : (x y : Float) → v x ≡ v y → v (neg x) ≡ v (neg y)
  pub abs-seen : (x y : Float) → v x ≡ v y → v (abs_of x) ≡ v (abs_of y)
  pub lt-seen : (x y z w : Float) → v x ≡ v z → v y ≡ v w → lt x y ≡ lt z w
  pub eq-seen : (x y z w : Float) → v x ≡ v z → v y ≡ v w → eq x y ≡ eq z w
  pub le-seen : (x y z w : Float) → v x ≡ v z → v y ≡ v w → le x y ≡ le z w

-- ---- equality

pub exactly : Seen (λ x. x)
exactly = record {
  add-seen = λ x y z w h k t. add binary64 (h t) (k t);
  sub-seen = λ x y z w h k t. sub binary64 (h t) (k t);
  mul-seen = λ x y z w h k t. mul binary64 (h t) (k t);
  div-seen = λ x y z w h k n t. div binary64 (h t) (k t);
  neg-seen = λ x y h t. neg (h t);
  abs-seen = λ x y h t. abs_of (h t);
  lt-seen = λ x y z w h k t. lt (h t) (k t);
  eq-seen = λ x y z w h k t. eq (h t) (k t);
  le-seen = λ x y z w h k t. le (h t) (k t);
}

-- ---- equality up to the sign of a zero

pub up-to-zeros : Seen nz
up-to-zeros = record {
  add-seen = zeros.add_cong;
  sub-seen = zeros.sub-cong;
  mul-seen = zeros.mul-cong;
  div-seen = zeros.div-cong;
  neg-seen = zeros.neg-cong;
  abs-seen = abs-cong;
  lt-seen = zeros.lt-cong;
  eq-seen = zeros.eq-cong;
  le-seen = zeros.le-cong;
}

-- ---- a choice by equal tests, and a clamped float

module _ (v : Float → Float) where
  pub cond-seen : (b b' : Bool) (x y z w : Float) → b ≡ b' → v x ≡ v z → v y ≡ v w → v (cond b x y) ≡ v (cond b' z w)
  cond-seen b b' x y z w e h k = ap (λ (t : Bool). v (cond t x y)) e ∙ by b'
    where
      by : (t : Bool) → v (cond t x y) ≡ v (cond t z w)
      by true = h
      by false = k

  pub clamp-seen : Seen v → (x y lo hi : Float) → v x ≡ v y → v (clamp_of x lo hi) ≡ v (clamp_of y lo hi)
  unfolding clamp_of
  clamp-seen see x y lo hi h =
      let raised : v (cond (lt x lo) lo x) ≡ v (cond (lt y lo) lo y) =
      cond-seen (lt x lo) (lt y lo) lo x lo y (see.lt-seen x lo y lo h refl) refl h in
      cond-seen (lt hi (cond (lt x lo) lo x)) (lt hi (cond (lt y lo) lo y)) hi (cond (lt x lo) lo x) hi (cond (lt y lo) lo y)
      (see.lt-seen hi (cond (lt x lo) lo x) hi (cond (lt y lo) lo y) refl raised) refl raised

-- ---- absolute values beside zero

-- what is a zero has no absolute value but zero
pub abs-zero : (x : Float) → nz x ≡ +0 → eq (abs_of x) +0 ≡ true
unfolding abs_of eq
abs-zero x h = zeros.eq-cong (abs_of x) +0 +0 +0 (abs-cong x +0 h) refl

-- a significand above zero makes no zero
pub not-zero : (s : Bool) (m : ℕ) (e : ℤ) → eq (abs_of (fin s (suc m) e)) +0 ≡ false
unfolding eq abs_of
not-zero s m e = rw (ne_eqb (suc m * up e * 1) (0 * 1 * down e) (λ h. lt_irrefl 0 (subst (λ (x : ℕ). 0 < x) (h ∙ none (down e)) above)))
  where
    above : 0 < suc m * up e * 1
    above = mul-pos (mul-pos (zero-lt-suc m) (up_pos e)) (omega arith)

    none : (d : ℕ) → 0 * 1 * d ≡ 0
    none d = omega arith

pub zero-abs : (x : Float) → eq (abs_of x) +0 ≡ true → nz x ≡ +0
unfolding eq abs_of
zero-abs nan h = absurd (false≢true h)
zero-abs (inf s) h = absurd (false≢true h)
zero-abs (fin s zero e) h = refl
zero-abs (fin s (suc m) e) h = absurd (false≢true (sym (not-zero s m e) ∙ h))

-- what is above a zero is above 0.0
pub above-zero : (x y : Float) → nz x ≡ +0 → lt (abs_of x) y ≡ lt +0 y
unfolding abs_of
above-zero x y h = zeros.lt-cong (abs_of x) y +0 y (abs-cong x +0 h) refl

-- what is above an absolute value is no zero
pub above-some : (x y : Float) → lt (abs_of x) (abs_of y) ≡ true → eq (abs_of y) +0 ≡ false
unfolding lt eq abs_of
above-some x nan h = refl
above-some x (inf s) h = refl
above-some x (fin s (suc m) e) h = not-zero s m e
above-some nan (fin s zero e) h = absurd (false≢true h)
above-some (inf t) (fin s zero e) h = absurd (false≢true h)
above-some (fin t m d) (fin s zero e) h = absurd (false≢true (sym none ∙ h))
  where
    none : ltb (m * up d * down e) (0 * up e * down d) ≡ false
    none = rw (zeros.flat (up e) (down d)) (le-ltb (m * up d * down e) 0 zero-le)

-- ---- matrices seen alike: the rows and columns from k on, below dim

abbrev pub Alike : (Float → Float) → ℕ → ℕ → Mat → Mat → Type 0
Alike v k dim a b = (i j : ℕ) → k ≤ i → i < dim → k ≤ j → j < dim → v (a i j) ≡ v (b i j)
