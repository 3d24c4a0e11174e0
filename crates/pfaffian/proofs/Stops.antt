-- Laws of the Pfaffian's stop: the number is what it was; the search ends at zero exactly where no candidate is above zero; a row is even and below the
-- dimension. Assumes nothing. A public promise rests on this.
use mathlib.Core.Path.{◌≡◌, refl, sym, subst, ◌∙◌}
use mathlib.Core.Logic.{inl, inr}
use mathlib.Core.Bool.{Bool, true, false, cond, false≢true}
use Prim.Native.Nat.{ℕ, zero, suc, ◌+◌, ◌-◌, ◌*◌, ◌/◌, ◌%◌, ◌≤◌, ◌<◌}
use native.Mathlib.Nat.{le_refl}
use native.Mathlib.Omega.{arith}
use lib.Dec.{eqb}
use lib.Ieee.{Float, binary64, mul, neg, lt, eq}
use borrow.Author.Tests.{eqb-true}
use Rattle.std.specs.Prelude.{Some}
use Rattle.std.proofs.lemmas.Bool.{cases_eq}
use Rattle.std.proofs.lemmas.Option.{none-some, same_Some}
use Rattle.laws.specs.Zeros.{+0, +1, nz}
use Rattle.laws.specs.Matrix.{Mat}
use Rattle.num.specs.Order.{abs_of}
use Rattle.pfaffian.specs.declared.pairs.End.{End}
use Rattle.pfaffian.specs.declared.pairs.End.TheVariants.{Stopped}
use Rattle.pfaffian.specs.Pfaffian.{search, pivot_of, pivoted, less, ended, pfaffian_of}
use Rattle.pfaffian.proofs.Number.{number_of, row_of, pf, pfaffian_number}
use Rattle.pfaffian.proofs.Seen.{abs-zero, zero-abs, above-zero, above-some}

-- ---- the number

stop-number : (b : Bool) (k : ℕ) (p : End) (x : Float) → number_of p ≡ x → number_of (cond b (Stopped k) p) ≡ cond b +0 x
stop-number true k p x h = refl
stop-number false k p x h = h

pub ended-number : (a : Mat) (p k dim : ℕ) (acc : Float) → number_of (ended a p k dim acc) ≡ pf a p k dim acc
unfolding ended pf
ended-number a zero k dim acc = refl
ended-number a (suc p) k dim acc =
    let s = pivot_of (a k) k dim in
    let b = pivoted s.1 (suc k) a in
    stop-number (eq s.0 +0) k _ _ (ended-number (less k b) p (suc (suc k)) dim (mul binary64 (cond (eqb s.1 (suc k)) acc (neg acc)) (b k (suc k))))

-- it is 001's
pub end-number : (dim : ℕ) (a : Mat) → number_of (pfaffian_of dim a) ≡ pfaffian_number dim a
unfolding pfaffian_of pfaffian_number
end-number dim a = stop-number (eqb (dim % 2) 1) 0 _ _ (ended-number a (dim / 2) 0 dim +1)

-- ---- where the search ends at zero

-- row k has no candidate above zero: the first, in column k + 1, is a zero of either sign, and each of the others is a zero or a NaN
pub record Empty (row : ℕ → Float) (k dim : ℕ) : Type 0 where
  pub first : nz (row (suc k)) ≡ +0
  pub later : (j : ℕ) → suc (suc k) ≤ j → j < dim → lt +0 (abs_of (row j)) ≡ false

-- the best so far is the absolute value of x: n candidates from column j on are none better
abbrev None-above : (ℕ → Float) → Float → ℕ → ℕ → Type 0
None-above row x j n = (nz x ≡ +0) × ((i : ℕ) → j ≤ i → i < j + n → lt +0 (abs_of (row i)) ≡ false)

-- the rest of the search, by whether candidate j is the better one
abbrev taken : (ℕ → Float) → ℕ → ℕ → Float → ℕ → Bool → Float × ℕ
taken row n j x piv t = elim t [ true ↦ search row n (suc j) (abs_of (row j)) j | false ↦ search row n (suc j) (abs_of x) piv ]

ends-empty : (row : ℕ → Float) (n j : ℕ) (x : Float) (piv : ℕ) → eq (search row n j (abs_of x) piv).0 +0 ≡ true → None-above row x j n
unfolding search
ends-empty row zero j x piv h = (zero-abs x h, λ i l b. absurd (omega arith))
ends-empty row (suc n) j x piv h =
    by (lt (abs_of x) (abs_of (row j))) refl h (ends-empty row n (suc j) (row j) j) (ends-empty row n (suc j) x piv)
  where
    by : (t : Bool) → lt (abs_of x) (abs_of (row j)) ≡ t → eq (taken row n j x piv t).0 +0 ≡ true
        → (eq (taken row n j x piv true).0 +0 ≡ true → None-above row (row j) (suc j) n)
        → (eq (taken row n j x piv false).0 +0 ≡ true → None-above row x (suc j) n)
        → None-above row x j (suc n)
    by true e h u v = absurd (false≢true (sym (above-some x (row j) e) ∙ abs-zero (row j) (u h).0))
    by false e h u v =
        let w = v h in (
          w.0,
          λ i l b. elim (cases_eq j i) [
            | inl q ↦ subst (λ (i : ℕ). lt +0 (abs_of (row i)) ≡ false) q (sym (above-zero x (abs_of (row j)) w.0) ∙ e)
            | inr q ↦ w.1 i (omega (arith, q)) (omega arith)
          ],
        )

empty-ends : (row : ℕ → Float) (n j : ℕ) (x : Float) (piv : ℕ) → None-above row x j n → eq (search row n j (abs_of x) piv).0 +0 ≡ true
unfolding search
empty-ends row zero j x piv h = abs-zero x h.0
empty-ends row (suc n) j x piv h =
    subst (λ (t : Bool). eq (taken row n j x piv t).0 +0 ≡ true) (sym (above-zero x (abs_of (row j)) h.0 ∙ h.1 j (le_refl j) (omega arith)))
    (empty-ends row n (suc j) x piv (h.0, λ i l b. h.1 i (omega arith) (omega arith)))

-- "a stop with the row .. where the pivot search ended at zero": exactly where the row, as it is by then, has no candidate above zero
pub stops-empty : (row : ℕ → Float) (k dim : ℕ) → k + 2 ≤ dim → eq (pivot_of row k dim).0 +0 ≡ true → Empty row k dim
stops-empty row k dim room h =
    let w = ends-empty row (dim - suc (suc k)) (suc (suc k)) (row (suc k)) (suc k) h in
    record { first = w.0; later = λ j l b. w.1 j l (omega arith) }

pub empty-stops : (row : ℕ → Float) (k dim : ℕ) → Empty row k dim → eq (pivot_of row k dim).0 +0 ≡ true
empty-stops row k dim e = empty-ends row (dim - suc (suc k)) (suc (suc k)) (row (suc k)) (suc k) (e.first, λ j l b. e.later j l (omega arith))

-- ---- which rows there are

-- the first of a pair, so even, and below the dimension. Of an odd dimension it is 0
pub record Row (dim k : ℕ) : Type 0 where
  pub even : k % 2 ≡ 0
  pub below : k < dim

stop-row : (b : Bool) (k i : ℕ) (p : End) (R : ℕ → Type 0) → (b ≡ true → R k) → (row_of p ≡ Some i → R i) → row_of (cond b (Stopped k) p) ≡ Some i → R i
stop-row true k i p R f g e = subst R (same_Some k i e) (f refl)
stop-row false k i p R f g e = g e

ended-row : (a : Mat) (p k dim : ℕ) (acc : Float) (i : ℕ) → k % 2 ≡ 0 → k + 2 * p ≤ dim → row_of (ended a p k dim acc) ≡ Some i → Row dim i
unfolding ended
ended-row a zero k dim acc i even room e = absurd (none-some i e)
ended-row a (suc p) k dim acc i even room e =
    let s = pivot_of (a k) k dim in
    let b = pivoted s.1 (suc k) a in
    stop-row (eq s.0 +0) k i _ (Row dim) (λ _. record { even = even; below = omega arith })
    (ended-row (less k b) p (suc (suc k)) dim (mul binary64 (cond (eqb s.1 (suc k)) acc (neg acc)) (b k (suc k))) i (omega arith) (omega arith)) e

pub row-is : (dim : ℕ) (a : Mat) (i : ℕ) → row_of (pfaffian_of dim a) ≡ Some i → Row dim i
unfolding pfaffian_of
row-is dim a i =
    stop-row (eqb (dim % 2) 1) 0 i _ (Row dim)
    (λ odd. let q = eqb-true (dim % 2) 1 odd in record { even = refl; below = omega arith })
    (ended-row a (dim / 2) 0 dim +1 i refl (omega arith))
