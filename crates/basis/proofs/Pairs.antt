-- The engine's Pfaffian of a matrix that is zero but for pairs: the value 0, 1 or -1 of pair j at (2j, 2j + 1), and some such value at (2j + 1, 2j).
-- It is the product of the pairs' values: every pivot stands in its place already, and nothing is taken off the rest. A pair of value 0 ends it with
-- 0. Up to the signs of zeros. Assumes nothing.
use mathlib.Core.Path.{◌≡◌, refl, sym, ap, ◌∙◌, subst}
use mathlib.Core.Logic.{◌⊎◌, inl, inr, ◌≢◌}
use mathlib.Core.Bool.{Bool, true, false, not, cond, ◌&&◌}
use Prim.Native.Nat.{ℕ, zero, suc, ◌+◌, ◌-◌, ◌*◌, ◌/◌, ◌%◌, ◌≤◌, ◌<◌}
use native.Mathlib.Nat.{le_refl, add-zero, zero-add, mul-le-mul, lt_of_le_of_lt, eq-zero-or-pos, not-suc-le-zero}
use native.Mathlib.Omega.{arith}
use lib.Dec.{T, eqb, lit<, lit≤}
use lib.IntN.{ℤ, pos, nat_abs, ◌*ℤ◌, +ℤ_idr, zero-*ℤ, *ℤ-zero}
use lib.Ieee.{Float, binary64, unlike, add, mul, div, neg, eq, fits}
use lib.Ieee.Fits.{mul-fits, cond-fits}
use borrow.Author.Tests.{eq-eqb, ne_eqb, le-ltb}
use Rattle.laws.proofs.Tests.{no-pair}
use Rattle.laws.specs.Zeros.{+0, +1, sg}
use Rattle.laws.specs.Dyadic.{Dy, with_sign, cap}
use Rattle.laws.specs.Matrix.{Mat}
use Rattle.std.proofs.lemmas.Bool.{cases_eq}
use Rattle.laws.proofs.Integers.{sign_of, sign-abs, sign_zero, sign-mul, abs-sign}
use Rattle.laws.proofs.Dyadic.{neg-dy, add-dy, mul-dy, zero-div-dy}
use Rattle.laws.proofs.DyadicOrder.{lt-dy, eq-dy}
use Rattle.laws.proofs.DyadicFloat.{is-float}
use Rattle.laws.proofs.Fit.{sg-fits}
use Rattle.num.specs.Order.{abs_of}
use Rattle.num.proofs.Alike.{abs-dy}
use Rattle.pfaffian.specs.Pfaffian.{search, pivot_of, pivoted, less}
use Rattle.pfaffian.proofs.Number.{pf, pfaffian_number}
use Rattle.queries.specs.Lists.{oddly}

-- ---- whole numbers of size 0 or 1

-- 0, 1 or -1 each
abbrev pub Units : (ℕ → ℤ) → Type 0
Units v = (j : ℕ) → nat_abs (v j) ≤ 1

-- of the first p
abbrev pub product : (ℕ → ℤ) → ℕ → ℤ
product v zero = pos 1
product v (suc p) = product v p *ℤ v p

abs-mul : (z w : ℤ) → nat_abs (z *ℤ w) ≡ nat_abs z * nat_abs w
abs-mul z w =
    (λ i. nat_abs (sym (sign-abs z) i *ℤ sym (sign-abs w) i)) ∙ ap nat_abs (sym (sign-mul (sign_of z) (sign_of w) (nat_abs z) (nat_abs w)))
    ∙ abs-sign (unlike (sign_of z) (sign_of w)) (nat_abs z * nat_abs w)

abs-zero : (z : ℤ) → nat_abs z ≡ 0 → z ≡ pos 0
abs-zero z h = sym (sign-abs z) ∙ ap (with_sign (sign_of z)) h ∙ sign_zero (sign_of z)

small : (z : ℤ) → nat_abs z ≤ 1 → nat_abs z + 0 < cap
small z h = rw (add-zero (nat_abs z)) (lt_of_le_of_lt h (lit< tt))

module _ (v : ℕ → ℤ) (units : Units v) where
  product-unit : (p : ℕ) → nat_abs (product v p) ≤ 1
  product-unit zero = le_refl 1
  product-unit (suc p) = rw (abs-mul (product v p) (v p)) (mul-le-mul (product-unit p) (units p))

  next_small : (p : ℕ) → nat_abs (product v p) * nat_abs (v p) < cap
  next_small p = lt_of_le_of_lt (mul-le-mul (product-unit p) (units p)) (lit< tt)

pub product-zero : (v : ℕ → ℤ) (p j : ℕ) → j < p → v j ≡ pos 0 → product v p ≡ pos 0
product-zero v zero j h e = absurd (not-suc-le-zero h)
product-zero v (suc p) j h e = by (cases_eq j p) (product-zero v p j)
  where
    by : (j ≡ p) ⊎ (j ≢ p) → (j < p → v j ≡ pos 0 → product v p ≡ pos 0) → product v p *ℤ v p ≡ pos 0
    by (inl q) rest = ap (λ (z : ℤ). product v p *ℤ z) (ap v (sym q) ∙ e) ∙ *ℤ-zero (product v p)
    by (inr q) rest = ap (λ (z : ℤ). z *ℤ v p) (rest (omega arith) e) ∙ zero-*ℤ (v p)

pub product-signs : (v : ℕ → ℤ) (s : ℕ → Bool) (p : ℕ) → ((j : ℕ) → j < p → v j ≡ with_sign (s j) 1) → product v p ≡ with_sign (oddly s p) 1
unfolding oddly
product-signs v s zero h = refl
product-signs v s (suc p) h =
    (λ i. product-signs v s p (λ j l. h j (omega arith)) i *ℤ h p (le_refl (suc p)) i) ∙ turned (oddly s p) (s p)
  where
    turned : (o t : Bool) → with_sign o 1 *ℤ with_sign t 1 ≡ with_sign (cond t (not o) o) 1
    turned false false = refl
    turned false true = refl
    turned true false = refl
    turned true true = refl

-- ---- the matrix

-- v j at (2j, 2j + 1), w j at (2j + 1, 2j); 0 elsewhere
abbrev pub pairs : (ℕ → ℤ) → (ℕ → ℤ) → ℕ → ℕ → ℤ
pairs v w r c = cond (eqb (r % 2) 0 && eqb c (r + 1)) (v (r / 2)) (cond (eqb (c % 2) 0 && eqb r (c + 1)) (w (c / 2)) (pos 0))

-- the first dim rows and columns of a are these pairs
abbrev pub IsPairs : ℕ → (ℕ → ℤ) → (ℕ → ℤ) → Mat → Type 0
IsPairs dim v w a = (r c : ℕ) → r < dim → c < dim → Dy 0 (pairs v w r c) (a r c)

-- r and c are no pair
not-pair : (r c : ℕ) → r / 2 ≢ c / 2 → (eqb (r % 2) 0 && eqb c (r + 1)) ≡ false
not-pair r c n = no-pair r c (λ h k. n (omega arith))

module _ (v w : ℕ → ℤ) where
  pub pairs-apart : (r c : ℕ) → r / 2 ≢ c / 2 → pairs v w r c ≡ pos 0
  pairs-apart r c n = rw (not-pair r c n, not-pair c r (λ e. n (sym e)))

  pub pairs_first : (k i : ℕ) → i ≡ 2 * k → pairs v w i (suc i) ≡ v k
  pairs_first k i e = rw (eq-eqb (i % 2) 0 (omega arith), eq-eqb (suc i) (i + 1) (omega arith)) (ap v (omega arith))

  pairs-unit : Units v → Units w → (r c : ℕ) → nat_abs (pairs v w r c) ≤ 1
  pairs-unit hv hw r c = by (eqb (r % 2) 0 && eqb c (r + 1)) (eqb (c % 2) 0 && eqb r (c + 1))
    where
      by : (s t : Bool) → nat_abs (cond s (v (r / 2)) (cond t (w (c / 2)) (pos 0))) ≤ 1
      by true t = hv (r / 2)
      by false true = hw (c / 2)
      by false false = omega arith

-- ---- one pair

abbrev Zero : Float → Type 0
Zero x = Dy 0 (pos 0) x

zero_is : Zero +0
zero_is = (0, refl, refl)

-- nothing in the row is larger than what stands in the pivot's place
search-stays : (row : ℕ → Float) (best : Float) (z piv : ℕ) → Dy 0 (pos z) best → (n j : ℕ) → ((i : ℕ) → j ≤ i → i < j + n → Zero (row i))
    → search row n j best piv ≡ (best, piv)
unfolding search
search-stays row best z piv h zero j k = refl
search-stays row best z piv h (suc n) j k =
    rw (lt-dy 0 (pos z) (pos 0) best (abs_of (row j)) h (abs-dy 0 (pos 0) (row j) (k j (le_refl j) (omega arith))) ∙ le-ltb z 0 (omega arith), search)
    (search-stays row best z piv h n (suc j) (λ i a b. k i (omega arith) (omega arith)))

zero-mul : (x y : Float) → Zero x → Zero y → Zero (mul binary64 x y)
zero-mul x y h k = mul-dy 0 0 (pos 0) (pos 0) x y (lit≤ tt) (lit< tt) h k

-- what is taken off is 0
less-keeps : (a : Mat) (k i j : ℕ) (z w : ℤ) → nat_abs z ≤ 1 → 0 < nat_abs w → Dy 0 z (a i j) → Dy 0 w (a k (suc k))
    → Zero (a k i) → Zero (a k j) → Zero (a (suc k) i) → Zero (a (suc k) j) → Dy 0 z (less k a i j)
less-keeps a k i j z w l g h d ki kj li lj =
    let ti = div binary64 (a k i) (a k (suc k)) in
    let tj = div binary64 (a k j) (a k (suc k)) in
    let x = mul binary64 (neg ti) (a (suc k) j) in
    let y = mul binary64 tj (a (suc k) i) in
    let hx : Zero x = zero-mul (neg ti) (a (suc k) j) (neg-dy 0 (pos 0) ti (zero-div-dy 0 0 0 w (a k i) (a k (suc k)) g ki d)) lj in
    let hy : Zero y = zero-mul tj (a (suc k) i) (zero-div-dy 0 0 0 w (a k j) (a k (suc k)) g kj d) li in
    let sum : Zero (add binary64 x y) = add-dy 0 (pos 0) (pos 0) x y (lit≤ tt) (lit< tt) hx hy in
    subst (λ (u : ℤ). Dy 0 u (less k a i j)) (+ℤ_idr z) (add-dy 0 z (pos 0) (a i j) (add binary64 x y) (lit≤ tt) (small z l) h sum)

-- ---- all pairs

module _ (v w : ℕ → ℤ) (hv : Units v) (hw : Units w) where
  -- the entries from row and column i on
  abbrev From : ℕ → ℕ → Mat → Type 0
  From i dim a = (r c : ℕ) → i ≤ r → r < dim → i ≤ c → c < dim → Dy 0 (pairs v w r c) (a r c)

  -- what is to be shown of p pairs from the pair k on, in the rows from i on
  abbrev Value : ℕ → ℕ → ℕ → ℕ → Type 0
  Value p k i dim = (acc : Float) (a : Mat) → Dy 0 (product v k) acc → From i dim a → Dy 0 (product v (k + p)) (pf a p i dim acc)

  from : (p k i dim : ℕ) → i ≡ 2 * k → dim ≡ 2 * (k + p) → Value p k i dim
  unfolding pf
  from zero k i dim e d acc a h m = subst (λ (n : ℕ). Dy 0 (product v n) acc) (sym (add-zero k)) h
  from (suc p) k i dim e d acc a h m =
      rw (stay, eq-eqb (suc i) (suc i) refl)
      (subst (λ (n : ℕ). Dy 0 (product v n) all) shift
      (by (eq-zero-or-pos (nat_abs (v k))) (from p (suc k) (suc (suc i)) dim (omega arith) (omega arith))))
    where
      shift : suc k + p ≡ k + suc p
      shift = omega arith

      best : Float
      best = abs_of (a i (suc i))

      all : Float
      all = cond (eq best +0) +0 (pf (less i a) p (suc (suc i)) dim (mul binary64 acc (a i (suc i))))

      pivot : Dy 0 (v k) (a i (suc i))
      pivot = subst (λ (z : ℤ). Dy 0 z (a i (suc i))) (pairs_first v w k i e) (m i (suc i) (le_refl i) (omega arith) (omega arith) (omega arith))

      size : Dy 0 (pos (nat_abs (v k))) best
      size = abs-dy 0 (v k) (a i (suc i)) pivot

      none : (r c : ℕ) → i ≤ r → r ≤ suc i → suc (suc i) ≤ c → c < dim → Zero (a r c)
      none r c l g o b =
          subst (λ (z : ℤ). Dy 0 z (a r c)) (pairs-apart v w r c (λ q. omega arith)) (m r c l (omega arith) (omega arith) b)

      stay : pivot_of (a i) i dim ≡ (best, suc i)
      stay =
          search-stays (a i) best (nat_abs (v k)) (suc i) size (dim - suc (suc i)) (suc (suc i))
          (λ c o b. none i c (le_refl i) (omega arith) o (omega arith))

      by : (nat_abs (v k) ≡ 0) ⊎ (0 < nat_abs (v k)) → Value p (suc k) (suc (suc i)) dim → Dy 0 (product v (suc k + p)) all
      by (inl o) rest =
          rw (
            eq-dy 0 (pos (nat_abs (v k))) (pos 0) best +0 size zero_is ∙ eq-eqb (nat_abs (v k)) 0 o,
            product-zero v (suc k + p) k (omega arith) (abs-zero (v k) o),
          )
          zero_is
      by (inr g) rest =
          rw (eq-dy 0 (pos (nat_abs (v k))) (pos 0) best +0 size zero_is ∙ ne_eqb (nat_abs (v k)) 0 (λ q. omega arith))
          (rest (mul binary64 acc (a i (suc i))) (less i a)
          (mul-dy 0 0 (product v k) (v k) acc (a i (suc i)) (lit≤ tt) (next_small v hv k) h pivot)
          (λ r c l b o q. less-keeps a i r c (pairs v w r c) (v k) (pairs-unit v w hv hw r c) g
          (m r c (omega arith) b (omega arith) q) pivot
          (none i r (le_refl i) (omega arith) l b) (none i c (le_refl i) (omega arith) o q)
          (none (suc i) r (omega arith) (le_refl (suc i)) l b) (none (suc i) c (omega arith) (le_refl (suc i)) o q)))

  pub pf-pairs : (p : ℕ) (a : Mat) → IsPairs (2 * p) v w a → Dy 0 (product v p) (pfaffian_number (2 * p) a)
  unfolding pfaffian_number
  pf-pairs p a m =
      rw (ne_eqb (2 * p % 2) 1 (λ e. omega arith), half)
      (subst (λ (n : ℕ). Dy 0 (product v n) (pf a p 0 (2 * p) +1)) (zero-add p)
      (from p 0 0 (2 * p) refl (omega arith) +1 a (1, refl, refl) (λ r c _ h _ g. m r c h g)))
    where
      half : 2 * p / 2 ≡ p
      half = omega arith

  -- one of the pairs is 0
  pub pf-zero : (p : ℕ) (a : Mat) → IsPairs (2 * p) v w a → (j : ℕ) → j < p → v j ≡ pos 0 → Dy 0 (pos 0) (pfaffian_number (2 * p) a)
  pf-zero p a m j h e = subst (λ (z : ℤ). Dy 0 z (pfaffian_number (2 * p) a)) (product-zero v p j h e) (pf-pairs p a m)

-- ---- as a float

-- of any matrix
pub pf-fits : (dim : ℕ) (a : Mat) → T (fits binary64 (pfaffian_number dim a))
unfolding pfaffian_number pf fits
pf-fits dim a = cond-fits binary64 (eqb (dim % 2) 1) +0 (pf a (dim / 2) 0 dim +1) tt (each (dim / 2) 0 a +1 tt)
  where
    each : (p k : ℕ) (a : Mat) (acc : Float) → T (fits binary64 acc) → T (fits binary64 (pf a p k dim acc))
    each zero k a acc h = h
    each (suc p) k a acc h =
        let s = pivot_of (a k) k dim in
        let b = pivoted s.1 (suc k) a in
        let x = cond (eqb s.1 (suc k)) acc (neg acc) in
        cond-fits binary64 (eq s.0 +0) +0 _ tt
        (each p (suc (suc k)) (less k b) (mul binary64 x (b k (suc k))) (mul-fits binary64 x (b k (suc k))))

-- 1.0 or -1.0
pub sign-dy : (s : Bool) → Dy 0 (with_sign s 1) (sg s +1)
sign-dy false = (1, refl, refl)
sign-dy true = neg-dy 0 (pos 1) +1 (1, refl, refl)

pub sign-float : (s : Bool) (x : Float) → T (fits binary64 x) → Dy 0 (with_sign s 1) x → x ≡ sg s +1
unfolding fits
sign-float s x f d =
    is-float 0 (with_sign s 1) x (sg s +1) (rw (abs-sign s 1) (lit< tt)) f (sg-fits s +1 tt) d (sign-dy s)

-- no pair is 0
pub pf-signs : (v w : ℕ → ℤ) → Units v → Units w → (p : ℕ) (a : Mat) → IsPairs (2 * p) v w a → (s : ℕ → Bool)
    → ((j : ℕ) → j < p → v j ≡ with_sign (s j) 1) → pfaffian_number (2 * p) a ≡ sg (oddly s p) +1
pf-signs v w hv hw p a m s h =
    sign-float (oddly s p) (pfaffian_number (2 * p) a) (pf-fits (2 * p) a)
    (subst (λ (z : ℤ). Dy 0 z (pfaffian_number (2 * p) a)) (product-signs v s p h) (pf-pairs v w hv hw p a m))
