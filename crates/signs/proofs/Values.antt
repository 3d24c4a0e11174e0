-- The values 0, 1 and -1: their signs and products, and the same in floats, up to the sign of a zero. A row of a signed permutation against such
-- floats gives one of them, with its sign. Assumes nothing.
use mathlib.Core.Path.{◌≡◌, refl, sym, ap, ◌∙◌}
use mathlib.Core.Logic.{◌⊎◌, inl, inr, ◌≢◌}
use mathlib.Core.Bool.{Bool, true, false, xor, cond, true≢false}
use Prim.Native.Nat.{ℕ, zero, suc, ◌≤◌, ◌<◌}
use native.Mathlib.Omega.{arith}
use lib.Dec.{eqb, ltb, leb-suc-zero}
use lib.Ieee.{Float, nan, inf, fin, binary64, add, mul, neg}
use borrow.Author.Tests.{lt-ltb, le-ltb, eq-eqb, ne_eqb}
use Rattle.laws.specs.Zeros.{+0, +1, sg, nz}
use Rattle.laws.specs.Maps.{dot}
use Rattle.laws.specs.Phase.{Phase, i0, i1, i2, i3, ◌⊕◌}
use Rattle.std.proofs.lemmas.Bool.{cases_lt, cases_eq}
use Rattle.laws.proofs.Zeros.{add_cong, mul-cong}
use Rattle.laws.proofs.Negatives.{sg-cong}
use Rattle.signs.specs.Paulis.{sgn, Value, nought, plus, minus, turn, float, real}

-- ---- three values

abbrev is_plus : Value → Bool
is_plus nought = false
is_plus plus = true
is_plus minus = false

abbrev is_minus : Value → Bool
is_minus nought = false
is_minus plus = false
is_minus minus = true

pub plus≢nought : plus ≢ nought
plus≢nought e = true≢false (ap is_plus e)

pub minus≢nought : minus ≢ nought
minus≢nought e = true≢false (ap is_minus e)

pub plus≢minus : plus ≢ minus
plus≢minus e = true≢false (ap is_plus e)

-- ---- signs

pub turn-turn : (b : Bool) (v : Value) → turn b (turn b v) ≡ v
turn-turn false v = refl
turn-turn true nought = refl
turn-turn true plus = refl
turn-turn true minus = refl

pub turn-nought : (b : Bool) → turn b nought ≡ nought
turn-nought false = refl
turn-nought true = refl

pub turn-comm : (a b : Bool) (v : Value) → turn a (turn b v) ≡ turn b (turn a v)
turn-comm false b v = refl
turn-comm true false v = refl
turn-comm true true v = refl

pub turn-xor : (a b : Bool) (v : Value) → turn (xor a b) v ≡ turn a (turn b v)
unfolding xor
turn-xor false false v = refl
turn-xor false true v = refl
turn-xor true false v = refl
turn-xor true true v = sym (turn-turn true v)

pub real-sgn : (b : Bool) (k : Phase) → real (sgn b ⊕ k) ≡ turn b (real k)
real-sgn false k = refl
real-sgn true i0 = refl
real-sgn true i1 = refl
real-sgn true i2 = refl
real-sgn true i3 = refl

-- ---- products

infixl 70 ◌×ᵥ◌
abbrev pub ◌×ᵥ◌ : Value → Value → Value
nought ×ᵥ w = nought
plus ×ᵥ w = w
minus ×ᵥ w = turn true w

pub mul-plus : (v : Value) → v ×ᵥ plus ≡ v
mul-plus nought = refl
mul-plus plus = refl
mul-plus minus = refl

pub mul-nought : (v : Value) → v ×ᵥ nought ≡ nought
mul-nought nought = refl
mul-nought plus = refl
mul-nought minus = refl

pub turn-left : (b : Bool) (v w : Value) → turn b v ×ᵥ w ≡ turn b (v ×ᵥ w)
turn-left false v w = refl
turn-left true nought w = refl
turn-left true plus w = refl
turn-left true minus w = sym (turn-turn true w)

pub turn-right : (b : Bool) (v w : Value) → v ×ᵥ turn b w ≡ turn b (v ×ᵥ w)
turn-right false v w = refl
turn-right true nought w = refl
turn-right true plus w = refl
turn-right true minus w = refl

pub mul_assoc : (u v w : Value) → u ×ᵥ v ×ᵥ w ≡ u ×ᵥ (v ×ᵥ w)
mul_assoc nought v w = refl
mul_assoc plus v w = refl
mul_assoc minus v w = turn-left true v w

-- ---- floats

pub float-nz : (v : Value) → nz (float v) ≡ float v
float-nz nought = refl
float-nz plus = refl
float-nz minus = refl

pub sg-one : (b : Bool) → nz (sg b +1) ≡ float (turn b plus)
unfolding neg
sg-one false = refl
sg-one true = refl

sg-float : (b : Bool) (v : Value) → nz (sg b (float v)) ≡ float (turn b v)
unfolding neg
sg-float false v = float-nz v
sg-float true nought = refl
sg-float true plus = refl
sg-float true minus = refl

mul-float : (v w : Value) → nz (mul binary64 (float v) (float w)) ≡ float (v ×ᵥ w)
unfolding mul
mul-float nought nought = refl
mul-float nought plus = refl
mul-float nought minus = refl
mul-float plus nought = refl
mul-float plus plus = refl
mul-float plus minus = refl
mul-float minus nought = refl
mul-float minus plus = refl
mul-float minus minus = refl

add_right : (v : Value) → nz (add binary64 (float v) +0) ≡ float v
unfolding add
add_right nought = refl
add_right plus = refl
add_right minus = refl

add_left : (v : Value) → nz (add binary64 +0 (float v)) ≡ float v
unfolding add
add_left nought = refl
add_left plus = refl
add_left minus = refl

-- different values are different floats
abbrev value_of : Float → Value
value_of nan = nought
value_of (inf s) = nought
value_of (fin s zero e) = nought
value_of (fin false (suc m) e) = plus
value_of (fin true (suc m) e) = minus

value-of : (v : Value) → value_of (float v) ≡ v
value-of nought = refl
value-of plus = refl
value-of minus = refl

pub float_one : (v w : Value) → float v ≡ float w → v ≡ w
float_one v w e = sym (value-of v) ∙ ap value_of e ∙ value-of w

-- the same for floats that are such values up to the sign of a zero
module _ (x y : Float) (v w : Value) (h : nz x ≡ float v) (k : nz y ≡ float w) where
  pub mul-value : nz (mul binary64 x y) ≡ float (v ×ᵥ w)
  mul-value = mul-cong x y (float v) (float w) (h ∙ sym (float-nz v)) (k ∙ sym (float-nz w)) ∙ mul-float v w

  pub add-none-left : v ≡ nought → nz (add binary64 x y) ≡ float w
  add-none-left e = add_cong x y +0 (float w) (h ∙ ap float e) (k ∙ sym (float-nz w)) ∙ add_left w

  pub add-none-right : w ≡ nought → nz (add binary64 x y) ≡ float v
  add-none-right e = add_cong x y (float v) +0 (h ∙ sym (float-nz v)) (k ∙ ap float e) ∙ add_right v

pub sg-value : (b : Bool) (x : Float) (v : Value) → nz x ≡ float v → nz (sg b x) ≡ float (turn b v)
sg-value b x v h = sg-cong b x (float v) (h ∙ sym (float-nz v)) ∙ sg-float b v

-- ---- a row with one entry 1 or -1, at p, against k values

module _ (q v : ℕ → Float) (s : Bool) (p : ℕ) (val : ℕ → Value) where
  unit-part : (k : ℕ) → ((j : ℕ) → j < k → nz (q j) ≡ nz (cond (eqb j p) (sg s +1) +0)) → ((j : ℕ) → j < k → nz (v j) ≡ float (val j))
      → nz (dot q v k) ≡ float (cond (ltb p k) (turn s (val p)) nought)
  unfolding dot
  unit-part zero hq hv = rw (leb-suc-zero p)
  unit-part (suc k) hq hv = by (cases_eq k p) (unit-part k (λ j l. hq j (omega arith)) (λ j l. hv j (omega arith)))
    where
      by : (k ≡ p) ⊎ (k ≢ p) → nz (dot q v k) ≡ float (cond (ltb p k) (turn s (val p)) nought)
          → nz (add binary64 (dot q v k) (mul binary64 (q k) (v k))) ≡ float (cond (ltb p (suc k)) (turn s (val p)) nought)
      by (inl e) ih =
          let here : nz (q k) ≡ float (turn s plus) = hq k (omega arith) ∙ rw (eq-eqb k p e) (sg-one s) in
          add-none-left (dot q v k) (mul binary64 (q k) (v k)) (cond (ltb p k) (turn s (val p)) nought) (turn s (val k)) ih
          (mul-value (q k) (v k) (turn s plus) (val k) here (hv k (omega arith)) ∙ ap float (turn-left s plus (val k)))
          (rw (le-ltb p k (omega arith)))
          ∙ rw (lt-ltb p (suc k) (omega arith), e)
      by (inr d) ih =
          let away : nz (q k) ≡ +0 = hq k (omega arith) ∙ rw (ne_eqb k p d) in
          add-none-right (dot q v k) (mul binary64 (q k) (v k)) (cond (ltb p k) (turn s (val p)) nought) nought ih
          (mul-value (q k) (v k) nought (val k) away (hv k (omega arith))) refl
          ∙ ap (λ b. float (cond b (turn s (val p)) nought)) (same (cases_lt p k))
        where
          same : (p < k) ⊎ (k ≤ p) → ltb p k ≡ ltb p (suc k)
          same (inl l) = rw (lt-ltb p k l, lt-ltb p (suc k) (omega arith))
          same (inr l) = rw (le-ltb p k l, le-ltb p (suc k) (omega arith))

  pub dot-unit : (k : ℕ) → p < k → ((j : ℕ) → j < k → nz (q j) ≡ nz (cond (eqb j p) (sg s +1) +0)) → ((j : ℕ) → j < k → nz (v j) ≡ float (val j))
      → nz (dot q v k) ≡ float (turn s (val p))
  dot-unit k l hq hv = unit-part k hq hv ∙ rw (lt-ltb p k l)
