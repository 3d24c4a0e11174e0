-- Signs on the covariance of a basis state. A sign that is the same for both indices of a mode changes nothing there: an entry within a mode gets it
-- twice, and any other entry is a zero, of either sign. So postponed signs that go by modes may be settled or read with the entry. Assumes nothing.
use mathlib.Core.Path.{◌≡◌, refl, sym, ap, ◌∙◌, subst}
use mathlib.Core.Logic.{◌⊎◌, inl, inr, ◌≢◌, ⊎_map}
use mathlib.Core.Bool.{Bool, true, false, cond, ◌&&◌}
use Prim.Native.Nat.{ℕ, ◌+◌, ◌*◌, ◌/◌, ◌%◌, ◌≤◌, ◌<◌}
use native.Mathlib.Nat.{mul-one}
use native.Mathlib.Omega.{arith}
use lib.Dec.{lit≤}
use lib.IntN.{ℤ, pos, one, nat_abs, neg_ℤ-neg_ℤ, *ℤ-one}
use lib.Ieee.{Float, binary64, mul, neg, lt}
use borrow.Author.Tests.{le-leb, lt-leb}
use Rattle.laws.proofs.Zeros.{lt-sign}
use Rattle.laws.specs.Zeros.{+0, +1, sg}
use Rattle.laws.specs.Dyadic.{Dy, cap}
use Rattle.laws.specs.Matrix.{Mat}
use Rattle.laws.specs.Maps.{Local, inside, rows, cols}
use Rattle.std.proofs.lemmas.Bool.{cases_lt, cases_eq}
use Rattle.laws.proofs.Integers.{abs_neg}
use Rattle.laws.proofs.Negatives.{mul-sg}
use Rattle.laws.proofs.Dyadic.{neg-dy, mul-dy}
use Rattle.laws.proofs.Maps.{inside-yes, inside-below, inside-above}
use Rattle.monomial.specs.Basis.{basis, IsBasis, signed}
use Rattle.monomial.proofs.Moves.{basis-small}
use Rattle.monomial.proofs.States.{modes_at, basis-apart}
use Rattle.local.specs.State.{State, get}
use Rattle.local.specs.Apply.{later, unsettled, settled, step}
use Rattle.state.specs.Bounds.{dim_of}
use Rattle.basis.specs.Holds.{HoldsBits}

-- ---- two signs that go by modes

-- an entry is within a mode, or a zero
mode-or-zero : (b : ℕ → Bool) (r c : ℕ) → (r / 2 ≡ c / 2) ⊎ (basis b r c ≡ pos 0)
mode-or-zero b r c = ⊎_map (λ e. e) (basis-apart b r c) (cases_eq (r / 2) (c / 2))

signed-twice : (x : Bool) (z : ℤ) → signed x (signed x z) ≡ z
signed-twice false z = refl
signed-twice true z = neg_ℤ-neg_ℤ z

signed-zero : (x : Bool) → signed x (pos 0) ≡ pos 0
signed-zero false = refl
signed-zero true = refl

signed-basis : (b : ℕ → Bool) (r c : ℕ) (x y : Bool) → (r / 2 ≡ c / 2 → x ≡ y) → signed x (signed y (basis b r c)) ≡ basis b r c
signed-basis b r c x y e = by (mode-or-zero b r c)
  where
    by : (r / 2 ≡ c / 2) ⊎ (basis b r c ≡ pos 0) → signed x (signed y (basis b r c)) ≡ basis b r c
    by (inl h) = ap (λ (s : Bool). signed s (signed y (basis b r c))) (e h) ∙ signed-twice y (basis b r c)
    by (inr h) = ap (λ (z : ℤ). signed x (signed y z)) h ∙ ap (signed x) (signed-zero y) ∙ signed-zero x ∙ sym h

-- ---- a sign in front of a float, and a factor 1.0 or -1.0

sg-dy : (s : Bool) (z : ℤ) (x : Float) → Dy 0 z x → Dy 0 (signed s z) (sg s x)
sg-dy false z x p = p
sg-dy true z x p = neg-dy 0 z x p

signed-small : (s : Bool) (z : ℤ) → nat_abs z < cap → nat_abs (signed s z) < cap
signed-small false z h = h
signed-small true z h = subst (λ (a : ℕ). a < cap) (sym (abs_neg z)) h

times-dy : (s : Bool) (z : ℤ) (x : Float) → nat_abs z < cap → Dy 0 z x → Dy 0 (signed s z) (mul binary64 x (sg s +1))
unfolding one
times-dy s z x h p =
    subst (Dy 0 (signed s z)) (sym (mul-sg s x +1))
    (sg-dy s z (mul binary64 x +1)
    (subst (λ (w : ℤ). Dy 0 w (mul binary64 x +1)) (*ℤ-one z)
    (mul-dy 0 0 z (pos 1) x +1 (lit≤ tt) (subst (λ (a : ℕ). a < cap) (sym (mul-one (nat_abs z))) h) p (1, refl, refl))))

-- ---- the indices of a mode are on the same side of a map

module _ (k w : ℕ) (q : Mat) (r c : ℕ) (e : r / 2 ≡ c / 2) where
  abbrev o : Local
  o = modes_at k w q

  inside-mode : inside o r ≡ inside o c
  inside-mode = by (cases_lt r (2 * k)) (cases_lt r (2 * k + 2 * w))
    where
      by : (r < 2 * k) ⊎ (2 * k ≤ r) → (r < 2 * k + 2 * w) ⊎ (2 * k + 2 * w ≤ r) → inside o r ≡ inside o c
      by (inl h) g = inside-below o r h ∙ sym (inside-below o c (omega arith))
      by (inr h) (inl g) = inside-yes o r h g ∙ sym (inside-yes o c (omega arith) (omega arith))
      by (inr h) (inr g) = inside-above o r g ∙ sym (inside-above o c (omega arith))

  later-mode : later o r ≡ later o c
  later-mode = by (cases_lt r (2 * k + 2 * w))
    where
      by : (r < 2 * k + 2 * w) ⊎ (2 * k + 2 * w ≤ r) → later o r ≡ later o c
      by (inl h) = lt-leb (2 * k + 2 * w) r h ∙ sym (lt-leb (2 * k + 2 * w) c (omega arith))
      by (inr h) = le-leb (2 * k + 2 * w) r h ∙ sym (le-leb (2 * k + 2 * w) c (omega arith))

-- ---- a sign of d

-- after a step, of an index in the map or not, that is turned or not
abbrev stepped : Bool → Bool → Float → Float
stepped own turn x = cond turn (neg (cond (own && lt x +0) +1 x)) (cond (own && lt x +0) +1 x)

-- it is 1.0 or -1.0 still
stepped-one : (own turn s : Bool) → (s' : Bool) × (stepped own turn (sg s +1) ≡ sg s' +1)
unfolding lt neg
stepped-one false false s = (s, refl)
stepped-one false true false = (true, refl)
stepped-one false true true = (false, refl)
stepped-one true false false = (false, refl)
stepped-one true false true = (false, refl)
stepped-one true true false = (true, refl)
stepped-one true true true = (true, refl)

-- ---- a state that holds a basis state

module _ (n : ℕ) (b : ℕ → Bool) (t : State) (H : HoldsBits n b t) where
  sign-in : (k i : ℕ) (h : k < n) → i / 2 ≡ k → t.d i ≡ sg (H.signs k h).0 +1
  sign-in k i h e = by (cases_eq (i % 2) 0)
    where
      even : i % 2 ≡ 0 → i ≡ 2 * k
      even z = omega arith

      odd : i % 2 ≢ 0 → i ≡ 2 * k + 1
      odd z = omega arith

      by : (i % 2 ≡ 0) ⊎ (i % 2 ≢ 0) → t.d i ≡ sg (H.signs k h).0 +1
      by (inl z) = ap t.d (even z) ∙ (H.signs k h).1
      by (inr z) = ap t.d (odd z) ∙ (H.signs k h).2

  sign-mode : (r c : ℕ) → r < dim_of n → r / 2 ≡ c / 2 → t.d r ≡ t.d c
  sign-mode r c h e =
      let g : c / 2 < n = omega arith in
      sign-in (c / 2) r g e ∙ sym (sign-in (c / 2) c g refl)

  -- the sign of i is below zero
  abbrev minus : ℕ → Bool
  minus i = lt (t.d i) +0

  sign-is : (i : ℕ) → i < dim_of n → t.d i ≡ sg (minus i) +1
  sign-is i h =
      let g : i / 2 < n = omega arith in
      let e = sign-in (i / 2) i g refl in
      e ∙ ap (λ (s : Bool). sg s +1) (sym (ap (λ (x : Float). lt x +0) e ∙ lt-sign (H.signs (i / 2) g).0))

  -- as it is read: "m times its row's d, then its column's"
  pub get-basis : IsBasis (dim_of n) b (get t)
  get-basis r c h g =
      let z = basis b r c in
      subst (Dy 0 z) (λ i. mul binary64 (mul binary64 (t.m r c) (sym (sign-is r h) i)) (sym (sign-is c g) i))
      (subst (λ (v : ℤ). Dy 0 v (mul binary64 (mul binary64 (t.m r c) (sg (minus r) +1)) (sg (minus c) +1)))
      (signed-basis b r c (minus c) (minus r) (λ e. ap (λ (x : Float). lt x +0) (sym (sign-mode r c h e))))
      (times-dy (minus c) (signed (minus r) z) (mul binary64 (t.m r c) (sg (minus r) +1)) (signed-small (minus r) z (basis-small b r c))
      (times-dy (minus r) z (t.m r c) (basis-small b r c) (H.matrix r c h g))))

  -- with the signs settled on the rows of a map of w modes, from k on
  settled-basis : (k w : ℕ) (q : Mat) → IsBasis (dim_of n) b (settled (modes_at k w q) t)
  settled-basis k w q r c h g =
      let u = unsettled (modes_at k w q) t.d in
      subst (λ (v : ℤ). Dy 0 v (settled (modes_at k w q) t r c))
      (signed-basis b r c (u r) (u c) (λ e. λ i. inside-mode k w q r c e i && lt (sign-mode r c h e i) +0))
      (sg-dy (u r) (signed (u c) (basis b r c)) (sg (u c) (t.m r c)) (sg-dy (u c) (basis b r c) (t.m r c) (H.matrix r c h g)))

  -- a step by a map that moves the covariance of b to that of b', whatever the determinant
  pub step-holds : (is_odd : Local → Bool) (k w : ℕ) (q : Mat) (b' : ℕ → Bool)
      → ((m : Mat) → IsBasis (dim_of n) b m → IsBasis (dim_of n) b' (cols (modes_at k w q) (rows (modes_at k w q) m)))
      → HoldsBits n b' (step is_odd (modes_at k w q) t)
  step-holds is_odd k w q b' moves = record { matrix = moves (settled o t) (settled-basis k w q); signs = signs }
    where
      o : Local
      o = modes_at k w q

      after : ℕ → Float
      after = (step is_odd o t).d

      one-mode : (j : ℕ) → (2 * j + 1) / 2 ≡ 2 * j / 2
      one-mode j = omega arith

      second : (j : ℕ) → j < n → after (2 * j + 1) ≡ after (2 * j)
      second j h =
          let e = one-mode j in
          λ i. stepped (inside-mode k w q (2 * j + 1) (2 * j) e i) (is_odd o && later-mode k w q (2 * j + 1) (2 * j) e i)
          (sign-mode (2 * j + 1) (2 * j) (omega arith) e i)

      signs : (j : ℕ) → j < n → (s : Bool) × (after (2 * j) ≡ sg s +1) × (after (2 * j + 1) ≡ sg s +1)
      signs j h =
          let one = stepped-one (inside o (2 * j)) (is_odd o && later o (2 * j)) (H.signs j h).0 in
          let first = ap (stepped (inside o (2 * j)) (is_odd o && later o (2 * j))) (H.signs j h).1 ∙ one.1 in
          (one.0, first, second j h ∙ first)
