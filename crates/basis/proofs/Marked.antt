-- The probability that modes of a basis state read the bits that their marks ask for: 1.0 if each has its bit, else +0.0. Half the covariance with half
-- a spin is 1 or -1 for a mode that has the bit asked, 0 for one that has not; and the Pfaffian has the sign of the ones. Assumes nothing.
use mathlib.Core.Path.{◌≡◌, refl, sym, ap, ◌∙◌}
use mathlib.Core.Bool.{Bool, true, false, not, cond, ◌&&◌, false≢true}
use Prim.Native.Nat.{ℕ, zero, suc, ◌+◌, ◌*◌, ◌/◌, ◌%◌, ◌≤◌, ◌<◌}
use native.Mathlib.Omega.{arith}
use lib.Dec.{eqb, ltb, lit<, lit≤}
use lib.IntN.{ℤ, pos, negsuc, nat_abs, ◌+ℤ◌}
use lib.ListN.{length, get_or}
use lib.Ieee.{Float, binary64, add, sub, mul, neg, lt, fits}
use borrow.Author.Tests.{eqb-true, not-false, lt-ltb}
use Rattle.std.proofs.lemmas.Bool.{and_parts}
use Rattle.laws.specs.Zeros.{+0, +1, sg}
use Rattle.laws.specs.Dyadic.{Dy, with_sign}
use Rattle.laws.specs.Matrix.{Mat}
use Rattle.laws.proofs.Integers.{abs-sign}
use Rattle.laws.proofs.Dyadic.{neg-dy, add-dy, mul-dy, lower-dy, zero-dy}
use Rattle.laws.proofs.DyadicOrder.{lt-dy}
use Rattle.laws.proofs.Fit.{times-sign, sg-fits}
use Rattle.monomial.specs.Basis.{IsBasis}
use Rattle.pfaffian.proofs.Number.{pfaffian_number}
use Rattle.pfaffian.specs.Shot.{half, bit}
use Rattle.state.specs.Bounds.{dim_of}
use Rattle.queries.specs.Lists.{oddly, conflicts_of, noted_modes}
use Rattle.queries.specs.Products.{dim_left, restricted}
use Rattle.queries.specs.Marginals.{is_one, shifted, halved, asked_matrix, sign_of, at_least_zero_of, marked_of}
use Rattle.queries.proofs.Searches.{odd-same, passing-ascends, passing-all}
use Rattle.queries.proofs.Rows.{marked-number}
use Rattle.basis.proofs.Pairs.{IsPairs, Units, pf-zero, sign-dy, pf-signs}
use Rattle.basis.proofs.Listed.{listed-basis, odd-listed}

-- ---- one pair

-- of a mode with the bit x that is asked for y
abbrev pair_of : Bool → Bool → ℤ
pair_of false false = pos 1
pair_of true true = negsuc 0
pair_of false true = pos 0
pair_of true false = pos 0

half-dy : Dy 1 (pos 1) half
half-dy = (1, refl, refl)

spin-dy : (y : Bool) → Dy 1 (with_sign y 1) (sg y half)
spin-dy false = half-dy
spin-dy true = neg-dy 1 (pos 1) half half-dy

halved-dy : (x : Bool) (z : Float) → Dy 0 (with_sign x 1) z → Dy 1 (with_sign x 1) (mul binary64 half z)
halved-dy false z h = mul-dy 1 0 (pos 1) (pos 1) half z (lit≤ tt) (lit< tt) half-dy h
halved-dy true z h = mul-dy 1 0 (pos 1) (negsuc 0) half z (lit≤ tt) (lit< tt) half-dy h

halved-zero : (z : Float) → Dy 0 (pos 0) z → Dy 0 (pos 0) (mul binary64 half z)
halved-zero z h = zero-dy 1 0 (mul binary64 half z) (mul-dy 1 0 (pos 1) (pos 0) half z (lit≤ tt) (lit< tt) half-dy h)

-- two halves
halves-dy : (x y : Bool) (z : Float) → Dy 1 (with_sign x 1 +ℤ with_sign y 1) z → Dy 0 (pair_of x y) z
halves-dy false false z h = lower-dy 1 0 (pos 1) z h
halves-dy true true z h = lower-dy 1 0 (negsuc 0) z h
halves-dy false true z h = zero-dy 1 0 z h
halves-dy true false z h = zero-dy 1 0 z h

upper-pair : (x y : Bool) (z : Float) → Dy 0 (with_sign x 1) z → Dy 0 (pair_of x y) (add binary64 (mul binary64 half z) (sg y half))
upper-pair x y z h =
    halves-dy x y (add binary64 (mul binary64 half z) (sg y half))
    (add-dy 1 (with_sign x 1) (with_sign y 1) (mul binary64 half z) (sg y half) (lit≤ tt) (rw (abs-sign x 1, abs-sign y 1) (lit< tt))
    (halved-dy x z h) (spin-dy y))

-- across the diagonal both signs are turned
lower-pair : (x y : Bool) (z : Float) → Dy 0 (with_sign (not x) 1) z
    → Dy 0 (pair_of (not x) (not y)) (sub binary64 (mul binary64 half z) (sg y half))
unfolding sub neg
lower-pair x false z h = upper-pair (not x) true z h
lower-pair x true z h = upper-pair (not x) false z h

pair_small : (x y : Bool) → nat_abs (pair_of x y) ≤ 1
pair_small false false = lit≤ tt
pair_small true true = lit≤ tt
pair_small false true = lit≤ tt
pair_small true false = lit≤ tt

-- ---- the matrix

shifted-pairs : (dim : ℕ) (x y : ℕ → Bool) (a : Mat) → IsBasis dim x a
    → IsPairs dim (λ j. pair_of (x j) (y j)) (λ j. pair_of (not (x j)) (not (y j))) (shifted (λ j. sg (y j) half) (halved a))
shifted-pairs dim x y a A r c hr hc = by (eqb (r % 2) 0 && eqb c (r + 1)) (eqb (c % 2) 0 && eqb r (c + 1)) refl (A r c hr hc)
  where
    one-mode : (eqb (c % 2) 0 && eqb r (c + 1)) ≡ true → c / 2 ≡ r / 2
    one-mode e =
        let even : c % 2 ≡ 0 = eqb-true (c % 2) 0 (and_parts (eqb (c % 2) 0) (eqb r (c + 1)) e).0 in
        let next : r ≡ c + 1 = eqb-true r (c + 1) (and_parts (eqb (c % 2) 0) (eqb r (c + 1)) e).1 in
        omega arith

    by : (s t : Bool) → (eqb (c % 2) 0 && eqb r (c + 1)) ≡ t
        → Dy 0 (cond s (with_sign (x (r / 2)) 1) (cond t (with_sign (not (x (c / 2))) 1) (pos 0))) (a r c)
        → Dy 0 (cond s (pair_of (x (r / 2)) (y (r / 2))) (cond t (pair_of (not (x (c / 2))) (not (y (c / 2)))) (pos 0)))
        (cond s (add binary64 (mul binary64 half (a r c)) (sg (y (r / 2)) half))
        (cond t (sub binary64 (mul binary64 half (a r c)) (sg (y (r / 2)) half)) (mul binary64 half (a r c))))
    by true t e h = upper-pair (x (r / 2)) (y (r / 2)) (a r c) h
    by false true e h = rw (← one-mode e) (lower-pair (x (c / 2)) (y (c / 2)) (a r c) h)
    by false false e h = halved-zero (a r c) h

-- ---- what the marks ask

-- the bit x is the one asked
one-is : (x : Bool) (mark : ℕ) → ltb 0 mark ≡ true → conflicts_of mark (suc (bit x)) ≡ false → is_one mark ≡ x
one-is x mark h c =
    ap is_one (eqb-true mark (suc (bit x)) (not-false (eqb mark (suc (bit x))) (ap (λ t. t && not (eqb mark (suc (bit x)))) (sym h) ∙ c))) ∙ same x
  where
    same : (x : Bool) → is_one (suc (bit x)) ≡ x
    same true = refl
    same false = refl

-- it is the other one
one-not : (x : Bool) (mark : ℕ) → mark ≤ 2 → conflicts_of mark (suc (bit x)) ≡ true → pair_of x (is_one mark) ≡ pos 0
one-not x zero h c = absurd (false≢true c)
one-not false (suc zero) h c = absurd (false≢true c)
one-not true (suc zero) h c = refl
one-not false (suc (suc zero)) h c = refl
one-not true (suc (suc zero)) h c = absurd (false≢true c)
one-not x (suc (suc (suc mark))) h c = absurd (omega arith)

-- a one is asked only where something is
noted_one : (mark : ℕ) → (ltb 0 mark && is_one mark) ≡ is_one mark
noted_one zero = refl
noted_one (suc mark) =
    let above : ltb 0 (suc mark) ≡ true = lt-ltb 0 (suc mark) (omega arith) in
    rw above

-- ---- the number: never below zero

sign-square : (s : Bool) → at_least_zero_of (mul binary64 (sg s +1) (sg s +1)) ≡ +1
unfolding neg lt fits
sign-square s = ap at_least_zero_of (times-sign s (sg s +1) (sg-fits s +1 tt)) ∙ by s
  where
    by : (s : Bool) → at_least_zero_of (sg s (sg s +1)) ≡ +1
    by false = refl
    by true = refl

zero-stays : (s : Bool) (x : Float) → Dy 0 (pos 0) x → at_least_zero_of (mul binary64 (sg s +1) x) ≡ +0
zero-stays s x h = ap (λ t. cond t (mul binary64 (sg s +1) x) +0) (lt-dy 0 (pos 0) (pos 0) +0 (mul binary64 (sg s +1) x) (0, refl, refl) (by s))
  where
    by : (s : Bool) → Dy 0 (pos 0) (mul binary64 (sg s +1) x)
    by false = mul-dy 0 0 (pos 1) (pos 0) +1 x (lit≤ tt) (lit< tt) (sign-dy false) h
    by true = mul-dy 0 0 (negsuc 0) (pos 0) (neg +1) x (lit≤ tt) (lit< tt) (sign-dy true) h

-- ---- the modes that have a mark, on the basis state of the bits b

module _ (n : ℕ) (b : ℕ → Bool) (e : Mat) (E : IsBasis (dim_of n) b e) (mark : ℕ → ℕ) where
  abbrev p : ℕ → Bool
  p k = ltb 0 (mark k)

  abbrev at : ℕ → ℕ
  at j = get_or (noted_modes n mark) j 0

  abbrev size : ℕ
  size = length (noted_modes n mark)

  abbrev x : ℕ → Bool
  x j = b (at j)

  abbrev y : ℕ → Bool
  y j = is_one (mark (at j))

  abbrev v : ℕ → ℤ
  v j = pair_of (x j) (y j)

  abbrev w : ℕ → ℤ
  w j = pair_of (not (x j)) (not (y j))

  abbrev a : Mat
  a = asked_matrix e mark (noted_modes n mark)

  asked-pairs : IsPairs (2 * size) v w a
  asked-pairs =
      shifted-pairs (dim_left (noted_modes n mark)) x y (restricted e (noted_modes n mark))
      (listed-basis p n (noted_modes n mark) (passing-ascends p n) b e E)

  small-v : Units v
  small-v j = pair_small (x j) (y j)

  small-w : Units w
  small-w j = pair_small (not (x j)) (not (y j))

  -- the ones in the list are all there are
  ones : oddly y size ≡ oddly (λ k. is_one (mark k)) n
  ones = odd-listed p (λ k. is_one (mark k)) n ∙ odd-same (λ k. p k && is_one (mark k)) (λ k. is_one (mark k)) n (λ k h. noted_one (mark k))

  -- every mode has the bit asked of it
  pub marked-agrees : ((k : ℕ) → k < n → conflicts_of (mark k) (suc (bit (b k))) ≡ false) → (marked_of e n mark).value ≡ +1
  marked-agrees h =
      marked-number e n mark
      ∙ ap (λ f. at_least_zero_of (mul binary64 (sign_of n mark) f))
      (pf-signs v w small-v small-w size a asked-pairs y sign ∙ ap (λ s. sg s +1) ones)
      ∙ sign-square (oddly (λ k. is_one (mark k)) n)
    where
      equal : (x : Bool) → pair_of x x ≡ with_sign x 1
      equal true = refl
      equal false = refl

      sign : (j : ℕ) → j < size → v j ≡ with_sign (y j) 1
      sign j g =
          let l = passing-ascends p n in
          let s : y j ≡ x j = one-is (x j) (mark (at j)) (l.passes j g) (h (at j) (l.below j g)) in
          ap (λ t. pair_of t (y j)) (sym s) ∙ equal (y j)

  -- a mode has the other bit
  pub marked_differs : (k : ℕ) → k < n → mark k ≤ 2 → conflicts_of (mark k) (suc (bit (b k))) ≡ true → (marked_of e n mark).value ≡ +0
  marked_differs k h small c =
      let l = passing-all p n k h ((and_parts (ltb 0 (mark k)) (not (eqb (mark k) (suc (bit (b k))))) c).0) in
      let zero : v l.0 ≡ pos 0 = ap (λ k. pair_of (b k) (is_one (mark k))) l.1.1 ∙ one-not (b k) (mark k) small c in
      marked-number e n mark
      ∙ zero-stays (oddly (λ k. is_one (mark k)) n) (pfaffian_number (2 * size) a)
      (pf-zero v w small-v small-w size a asked-pairs l.0 l.1.0 zero)
