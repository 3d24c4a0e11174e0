-- Totals of a function over a list of wires: what no step of the cover changes. How often a wire stands in a list is such a total, and so is the
-- list's length. By induction on the list. Assumes nothing.
use mathlib.Core.Path.{◌≡◌, refl, ap, subst}
use mathlib.Core.Bool.{Bool, true, false, cond}
use mathlib.Core.List.{List, [], ◌∷◌, ◌++◌}
use Prim.Native.Nat.{ℕ, zero, suc, ◌+◌, ◌≤◌, ◌<◌}
use native.Mathlib.Nat.{not-suc-le-zero, le_of_suc-le-suc, add-zero}
use native.Mathlib.Omega.{arith}
use lib.Dec.{eqb}
use lib.ListN.{length, get_or}
use borrow.Author.Tests.{eq-eqb, ne_eqb, eqb-true, eqb-false}
use Rattle.laws.specs.Views.{up_from}
use Rattle.laws.proofs.Views.{length_up}
use Rattle.order.specs.Cover.{wires, onto}
use Rattle.order.specs.Arrangement.{find}

unfoldable pub total : (ℕ → ℕ) → List ℕ → ℕ
total f [] = 0
total f (x ∷ l) = f x + total f l

pub total-append : (f : ℕ → ℕ) (l m : List ℕ) → total f (l ++ m) ≡ total f l + total f m
unfolding total
total-append f [] m = omega arith
total-append f (x ∷ l) m = omega (arith, total-append f l m)

pub total-onto : (f : ℕ → ℕ) (l m : List ℕ) → total f (onto l m) ≡ total f l + total f m
unfolding total onto
total-onto f [] m = omega arith
total-onto f (x ∷ l) m = omega (arith, total-onto f l (x ∷ m))

pub total-turned : (f : ℕ → ℕ) (l : List ℕ) → total f (onto l []) ≡ total f l
unfolding total
total-turned f l = omega (arith, total-onto f l [])

pub total-ones : (l : List ℕ) → total (λ x. 1) l ≡ length l
unfolding total
total-ones [] = refl
total-ones (x ∷ l) = omega (arith, total-ones l)

-- ---- how often a wire stands in a list

abbrev pub bit : Bool → ℕ
bit b = cond b 1 0

abbrev pub times : ℕ → List ℕ → ℕ
times w l = total (λ x. bit (eqb x w)) l

abbrev range : ℕ → ℕ → List ℕ
range k n = up_from (λ w. w) k n

-- in a range: not if below its start, once inside, not from its end on
range-below : (k n w : ℕ) → w < k → times w (range k n) ≡ 0
unfolding up_from total
range-below k zero w h = refl
range-below k (suc n) w h = rw (ne_eqb k w (λ e. omega (arith, e))) (omega (arith, range-below (suc k) n w (omega arith)))

range-above : (k n w : ℕ) → k + n ≤ w → times w (range k n) ≡ 0
unfolding up_from total
range-above k zero w h = refl
range-above k (suc n) w h = rw (ne_eqb k w (λ e. omega (arith, e))) (omega (arith, range-above (suc k) n w (omega arith)))

range-within : (k n w : ℕ) → k ≤ w → w < k + n → times w (range k n) ≡ 1
unfolding up_from total
range-within k zero w h l = omega arith
range-within k (suc n) w h l = go (eqb k w) refl (λ g. range-within (suc k) n w g (omega arith))
  where
    go : (t : Bool) → eqb k w ≡ t → (suc k ≤ w → times w (range (suc k) n) ≡ 1) → bit t + times w (range (suc k) n) ≡ 1
    go true e r = omega (arith, range-below (suc k) n w (omega (arith, eqb-true k w e)))
    go false e r = omega (arith, r (less (λ q. eqb-false k w e q)))
      where
        less : (k ≡ w → ⊥) → suc k ≤ w
        less q = omega (arith, q)

pub times-wires : (n w : ℕ) → w < n → times w (wires n) ≡ 1
unfolding wires
times-wires n w h = range-within 0 n w (omega arith) (omega arith)

pub times_none : (n w : ℕ) → n ≤ w → times w (wires n) ≡ 0
unfolding wires
times_none n w h = range-above 0 n w (omega arith)

pub length-wires : (n : ℕ) → length (wires n) ≡ n
unfolding wires
length-wires n = length_up (λ w. w) 0 n

-- the last of a range
range_last : (f : ℕ → ℕ) (k n : ℕ) → total f (range k (suc n)) ≡ f (k + n) + total f (range k n)
unfolding total up_from
range_last f k zero = rw (add-zero k)
range_last f k (suc n) =
    omega (arith, subst (λ (m : ℕ). total f (range (suc k) (suc n)) ≡ f m + total f (range (suc k) n)) same (range_last f (suc k) n))
  where
    same : suc k + n ≡ k + suc n
    same = omega arith

pub total-none : (f : ℕ → ℕ) → total f (wires 0) ≡ 0
unfolding wires up_from total
total-none f = refl

pub total-last : (f : ℕ → ℕ) (n : ℕ) → total f (wires (suc n)) ≡ f n + total f (wires n)
unfolding wires
total-last f n = subst (λ (m : ℕ). total f (range 0 (suc n)) ≡ f m + total f (range 0 n)) same (range_last f 0 n)
  where
    same : 0 + n ≡ n
    same = omega arith

-- ---- places

-- a wire that is there is found
pub find-there : (w : ℕ) (l : List ℕ) → 0 < times w l → (find w l < length l) × (get_or l (find w l) 0 ≡ w)
unfolding total find
find-there w [] h = absurd (not-suc-le-zero h)
find-there w (x ∷ l) h = go (eqb x w) refl h (find-there w l)
  where
    go : (t : Bool) → eqb x w ≡ t → 0 < bit t + times w l → (0 < times w l → (find w l < length l) × (get_or l (find w l) 0 ≡ w))
        → (cond t 0 (suc (find w l)) < suc (length l)) × (get_or (x ∷ l) (cond t 0 (suc (find w l))) 0 ≡ w)
    go true e g r = (omega arith, eqb-true x w e)
    go false e g r = let k = r (omega arith) in (omega (arith, k.0), k.1)

pub times-at : (l : List ℕ) (k : ℕ) → k < length l → 0 < times (get_or l k 0) l
unfolding total
times-at [] k h = absurd (not-suc-le-zero h)
times-at (x ∷ l) zero h = rw (eq-eqb x x refl) (omega arith)
times-at (x ∷ l) (suc k) h = omega (arith, times-at l k (le_of_suc-le-suc h))

-- a wire that is there once is found where it is
pub find_at : (l : List ℕ) (k : ℕ) → k < length l → times (get_or l k 0) l ≤ 1 → find (get_or l k 0) l ≡ k
unfolding total find
find_at [] k h g = absurd (not-suc-le-zero h)
find_at (x ∷ l) zero h g = rw (eq-eqb x x refl)
find_at (x ∷ l) (suc k) h g = go (eqb x (get_or l k 0)) g (times-at l k (le_of_suc-le-suc h)) (find_at l k (le_of_suc-le-suc h))
  where
    go : (t : Bool) → bit t + times (get_or l k 0) l ≤ 1 → 0 < times (get_or l k 0) l → (times (get_or l k 0) l ≤ 1 → find (get_or l k 0) l ≡ k)
        → cond t 0 (suc (find (get_or l k 0) l)) ≡ suc k
    go true u v r = omega arith
    go false u v r = ap suc (r (omega arith))
