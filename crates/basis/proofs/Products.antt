-- Z products on a basis state: where a query answers, it answers as the register does. The modes left of a list are those that it
-- has an odd number of times. Their rows and columns are the covariance of their bits, so the Pfaffian is -1.0 if an odd number of ones is left, and
-- that is so if an odd number of ones is listed. Assumes nothing.
use mathlib.Core.Path.{◌≡◌, refl, ap, ◌∙◌}
use mathlib.Core.Bool.{Bool, true, false, not, cond}
use mathlib.Core.List.{List, [], ◌∷◌}
use Prim.Native.Nat.{ℕ, ◌≤◌, ◌<◌}
use native.Mathlib.Nat.{le_refl}
use native.Mathlib.Omega.{arith}
use lib.Dec.{ltb}
use lib.IntN.{nat_abs}
use lib.ListN.{length, get_or}
use lib.Ieee.{Float}
use borrow.Author.Tests.{ltb-false, leb-false}
use Rattle.laws.specs.Zeros.{+1, sg}
use Rattle.laws.specs.Dyadic.{with_sign}
use Rattle.laws.specs.Matrix.{Mat}
use Rattle.laws.proofs.Integers.{abs-sign}
use Rattle.monomial.specs.Monomial.{flip}
use Rattle.state.specs.Questions.{state_ok}
use Rattle.state.specs.Answers.{Told, accepted, refused}
use Rattle.state.proofs.Permutations.{mode-below}
use Rattle.queries.specs.Answers.{Number, Answered, without_row, given}
use Rattle.queries.specs.Lists.{oddly, passing, mode_listed, outside, bad_place, odd_mode, odd_modes}
use Rattle.queries.specs.Products.{dim_left, restricted, product_of}
use Rattle.queries.specs.Calls.{covariance_of, work_ok, worked, expectation_z_product_of}
use Rattle.queries.proofs.Searches.{odd-same, passing-ascends}
use Rattle.queries.proofs.Rows.{product-number}
use Rattle.basis.specs.Holds.{Reads}
use Rattle.basis.specs.Answers.{odd_ones, register_product}
use Rattle.basis.proofs.Pairs.{pf-signs}
use Rattle.queries.proofs.First.{none_passes}
use Rattle.basis.proofs.Listed.{listed-basis, odd-first, odd-listed, odd-counted}

-- ---- products

odd-ones : (r : ℕ → Bool) (qs : List ℕ) → oddly (λ j. r (get_or qs j 0)) (length qs) ≡ odd_ones r qs
unfolding odd_ones oddly
odd-ones r [] = refl
odd-ones r (q ∷ qs) = odd-first (λ j. r (get_or (q ∷ qs) j 0)) (length qs) ∙ by (r q) ∙ ap (flip (r q)) (odd-ones r qs)
  where
    by : (t : Bool) → cond t (not (oddly (λ j. r (get_or qs j 0)) (length qs))) (oddly (λ j. r (get_or qs j 0)) (length qs))
        ≡ flip t (oddly (λ j. r (get_or qs j 0)) (length qs))
    by false = refl
    by true = refl

module _ (n : ℕ) (b r : ℕ → Bool) (e : Mat) (modes : List ℕ) (h : Reads n b r e modes) (qs : List ℕ)
    (below : (j : ℕ) → j < length qs → get_or qs j 0 < n) where
  -- the ones that are left are odd in number if those listed are
  odd-left : (l : List ℕ) → l ≡ odd_modes n modes qs → oddly (λ j. b (get_or l j 0)) (length l) ≡ odd_ones r qs
  unfolding odd_modes
  odd-left l e =
      rw e (odd-listed (odd_mode modes qs (length qs)) b n)
      ∙ odd-counted (mode_listed modes qs) b n (length qs) (λ j g. mode-below n modes h.table (get_or qs j 0) (below j g))
      ∙ odd-same (λ j. b (mode_listed modes qs j)) (λ j. r (get_or qs j 0)) (length qs) (λ j g. h.bits (get_or qs j 0) (below j g))
      ∙ odd-ones r qs

  product_is : (product_of e (odd_modes n modes qs)).value ≡ register_product r qs
  unfolding odd_modes
  product_is =
      product-number e l
      ∙ pf-signs (λ j. with_sign (bit j) 1) (λ j. with_sign (not (bit j)) 1) (λ j. unit (bit j)) (λ j. unit (not (bit j))) (length l) (restricted e l)
      (listed-basis (odd_mode modes qs (length qs)) n l (passing-ascends (odd_mode modes qs (length qs)) n) b e h.covariance)
      bit (λ j g. refl)
      ∙ ap (λ (t : Bool). sg t +1) (odd-left l refl)
    where
      l : List ℕ
      l = passing (odd_mode modes qs (length qs)) n

      bit : ℕ → Bool
      bit j = b (get_or l j 0)

      unit : (s : Bool) → nat_abs (with_sign s 1) ≤ 1
      unit s = rw (abs-sign s 1) (le_refl 1)

-- what an answer to a product query says: its qubits are below n, and its number is the product over the modes left
module _ (n : ℕ) (s : List Float) (modes qs : List ℕ) (w : List Float) (e : (expectation_z_product_of n s modes qs w).told.number ≡ 0) where
  abbrev left : List ℕ
  left = odd_modes n modes qs

  abbrev z : Number
  z = product_of (covariance_of n s) left

  abbrev Answers : Told → Type 0
  Answers t = ((j : ℕ) → j < length qs → get_or qs j 0 < n) × (t ≡ accepted z.value)

  pub product-answered : Answers (expectation_z_product_of n s modes qs w).told
  unfolding expectation_z_product_of worked bad_place
  product-answered = by (state_ok n s modes) (ltb (bad_place n qs) (length qs)) (work_ok (dim_left left) w) refl e
    where
      answer : Bool → Bool → Bool → Answered
      answer t u v =
          cond t (cond u (without_row (refused 19 (bad_place n qs))) (cond v (given z) (without_row (refused 20 0)))) (without_row (refused 16 0))

      by : (t u v : Bool) → ltb (bad_place n qs) (length qs) ≡ u → (answer t u v).told.number ≡ 0 → Answers (answer t u v).told
      by true false true f e =
          (λ j g. leb-false n (get_or qs j 0) (none_passes (outside n qs) (length qs) (ltb-false (bad_place n qs) (length qs) f) j g), refl)
      by true false false f e = absurd (omega arith)
      by true true v f e = absurd (omega arith)
      by false u v f e = absurd (omega arith)

pub product-told : (n : ℕ) (b r : ℕ → Bool) (s : List Float) (modes : List ℕ) → Reads n b r (covariance_of n s) modes → (qs : List ℕ) (w : List Float)
    → (expectation_z_product_of n s modes qs w).told.number ≡ 0 → (expectation_z_product_of n s modes qs w).told ≡ accepted (register_product r qs)
product-told n b r s modes h qs w e =
    let answered = product-answered n s modes qs w e in
    answered.1 ∙ ap accepted (product_is n b r (covariance_of n s) modes h qs answered.0)
