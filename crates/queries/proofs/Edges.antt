-- The edges of the queries, rows under one theorem: no qubits, a qubit listed twice, a contradiction whatever follows it, and no modes at all.
-- Assumes nothing.
use mathlib.Core.Path.{◌≡◌, refl, ap, ◌∙◌}
use mathlib.Core.Logic.{◌≢◌}
use mathlib.Core.Bool.{Bool, true, false, not, cond}
use mathlib.Core.List.{List, [], ◌∷◌}
use Prim.Native.Nat.{ℕ, suc, ◌<◌, zero-le}
use native.Mathlib.Omega.{arith}
use lib.Count.{count_trailing_zeros}
use lib.Dec.{eqb, ltb}
use lib.ListN.{length}
use lib.Ieee.{Float, binary64, mul, sum, round, units, odd, size, climb, span, lt}
use borrow.Author.Tests.{le-leb, lt-leb, lt-ltb, eq-eqb, ne_eqb}
use Rattle.laws.specs.Zeros.{+0, +1, sg}
use Rattle.laws.specs.Matrix.{Mat}
use Rattle.laws.specs.Tests.{all_below}
use Rattle.laws.specs.Tables.{mode_at}
use Rattle.pfaffian.specs.Pfaffian.{pfaffian_of}
use Rattle.pfaffian.proofs.Examples as pfaffian
use Rattle.state.specs.Questions.{state_ok}
use Rattle.queries.specs.Answers.{Number, Answered, rowless, taken_apart, without_row, given}
use Rattle.queries.specs.Lists.{first_from, oddly, bad_place, odd_modes, noted, bits_ok, stop_place, asked, noted_modes}
use Rattle.queries.specs.Products.{dim_left, restricted, product_of}
use Rattle.queries.specs.Marginals.{asked_matrix, at_least_zero_of, marked_of}
use Rattle.queries.specs.Basis.{basis_mark}
use Rattle.queries.specs.Calls.{covariance_of, worked, marked_answer, stopped_of, expectation_z_product_of, marginal_probability_of, probability_of}
use Rattle.queries.proofs.Searches.{odd-none, passing-none}

-- ---- the table

-- what a query asks
pub data Query : Type 0 where
  product : List ℕ → Query
  marginal : List ℕ → List ℕ → Query
  basis : ℕ → ℕ → Query

-- as it is answered, a basis index without a row
abbrev pub answer_of : ℕ → List Float → List ℕ → List Float → Query → Answered
answer_of n s modes w (product qs) = expectation_z_product_of n s modes qs w
answer_of n s modes w (marginal qs bits) = marginal_probability_of n s modes qs bits w
answer_of n s modes w (basis low high) = without_row (probability_of n s modes low high w)

-- a query on n qubits, and its number, which has no row
pub data Edge : ℕ → Query → Float → Type 0 where
  no-qubits : (n : ℕ) → Edge n (product []) +1
  twice : (n q : ℕ) → q < n → Edge n (product (q ∷ q ∷ [])) +1
  no_bits : (n : ℕ) → Edge n (marginal [] []) +1
  against : (n q b b' : ℕ) (qs bits : List ℕ) → q < n → b ≢ b' → bits_ok (q ∷ q ∷ qs) (b ∷ b' ∷ bits) ≡ true
      → Edge n (marginal (q ∷ q ∷ qs) (b ∷ b' ∷ bits)) +0
  no-modes : (low high : ℕ) → Edge 0 (basis low high) +1

-- ---- nothing left

nothing-worked : (x : Number) (l : List ℕ) (w : List Float) → l ≡ [] → worked (dim_left l) x w ≡ given x
unfolding worked
nothing-worked x l w e = ap (λ l. worked (dim_left l) x w) e ∙ rw (le-leb 0 (length w) zero-le)

product-nothing : (e : Mat) (l : List ℕ) → l ≡ [] → product_of e l ≡ rowless +1
unfolding product_of
product-nothing e l q =
    ap (taken_apart (λ x. x)) (ap (λ l. pfaffian_of (dim_left l) (restricted e l)) q ∙ pfaffian.pfaffian-edge pfaffian.none (restricted e []))

left-nothing : (e : Mat) (l : List ℕ) (w : List Float) → l ≡ [] → worked (dim_left l) (product_of e l) w ≡ given (rowless +1)
left-nothing e l w q = nothing-worked (product_of e l) l w q ∙ ap given (product-nothing e l q)

one-one : at_least_zero_of (mul binary64 +1 +1) ≡ +1
unfolding mul sum round units odd size climb span lt count_trailing_zeros
one-one = refl

module _ (e : Mat) (n : ℕ) (mark : ℕ → ℕ) (none : (k : ℕ) → k < n → mark k ≡ 0) where
  unmarked : noted_modes n mark ≡ []
  unmarked = passing-none (λ k. ltb 0 (mark k)) n (λ k h. ap (ltb 0) (none k h))

  no_ones : oddly (λ k. eqb (mark k) 2) n ≡ false
  no_ones = odd-none (λ k. eqb (mark k) 2) n (λ k h. ap (λ x. eqb x 2) (none k h))

  marked-nothing : marked_of e n mark ≡ rowless +1
  unfolding marked_of
  marked-nothing =
      (λ t.
      taken_apart (λ x. at_least_zero_of (mul binary64 (sg (no_ones t) +1) x)) (pfaffian_of (dim_left (unmarked t)) (asked_matrix e mark (unmarked t))))
      ∙ ap (taken_apart (λ x. at_least_zero_of (mul binary64 +1 x))) (pfaffian.pfaffian-edge pfaffian.none (asked_matrix e mark []))
      ∙ ap rowless one-one

  unasked : (w : List Float) → marked_answer e n mark w ≡ given (rowless +1)
  unasked w = nothing-worked (marked_of e n mark) (noted_modes n mark) w unmarked ∙ ap given marked-nothing

-- ---- a qubit listed twice

module _ (n q : ℕ) (modes : List ℕ) (h : q < n) where
  twice-none : odd_modes n modes (q ∷ q ∷ []) ≡ []
  unfolding odd_modes oddly
  twice-none = passing-none _ n (λ k g. by (eqb (mode_at modes q) k))
    where
      by : (t : Bool) → cond t (not (cond t (not false) false)) (cond t (not false) false) ≡ false
      by true = refl
      by false = refl

  twice-good : ltb (bad_place n (q ∷ q ∷ [])) 2 ≡ false
  unfolding bad_place first_from
  twice-good = rw (lt-leb n q h)

-- ---- a contradiction

module _ (n q b b' : ℕ) (modes qs bits : List ℕ) (h : q < n) (ne : b ≢ b') where
  against-place : stop_place n modes (q ∷ q ∷ qs) (b ∷ b' ∷ bits) ≡ 1
  unfolding stop_place first_from noted
  against-place =
      let other : suc b ≢ suc b' = λ e. ne (omega arith) in
      let above : ltb 0 (suc b) ≡ true = lt-ltb 0 (suc b) (omega arith) in
      rw (lt-leb n q h, eq-eqb (mode_at modes q) (mode_at modes q) refl, above, ne_eqb (suc b) (suc b') other)

  against-within : ltb 1 (length (q ∷ q ∷ qs)) ≡ true
  against-within = lt-ltb 1 (length (q ∷ q ∷ qs)) (omega arith)

-- ---- the theorem

pub edge : {n : ℕ} {a : Query} {x : Float} → Edge n a x → (s : List Float) (modes : List ℕ) (w : List Float) → state_ok n s modes ≡ true
    → answer_of n s modes w a ≡ given (rowless x)
unfolding expectation_z_product_of marginal_probability_of probability_of bad_place stop_place first_from bits_ok all_below odd_modes oddly noted stopped_of
edge (no-qubits n) s modes w ok = rw ok (left-nothing (covariance_of n s) (odd_modes n modes []) w (passing-none _ n (λ k h. refl)))
edge (twice n q h) s modes w ok =
    rw (ok, twice-good n q modes h) (left-nothing (covariance_of n s) (odd_modes n modes (q ∷ q ∷ [])) w (twice-none n q modes h))
edge (no_bits n) s modes w ok = rw ok (unasked (covariance_of n s) n (asked modes [] []) (λ k h. refl) w)
edge (against n q b b' qs bits h ne fine) s modes w ok =
    rw (ok, fine, against-place n q b b' modes qs bits h ne, against-within n q b b' modes qs bits h ne, lt-leb n q h)
edge (no-modes low high) s modes w ok = rw ok (ap (λ a. without_row a.told) (unasked (covariance_of 0 s) 0 (basis_mark 0 modes low high) (λ k h. refl) w))

-- ---- the scope's own rows: [0, 0], and a contradiction before a qubit that is not below n

pub zero-zero : (n : ℕ) → Edge (suc n) (product (0 ∷ 0 ∷ [])) +1
zero-zero n = twice (suc n) 0 (omega arith)

pub later-bad : Edge 1 (marginal (0 ∷ 0 ∷ 7 ∷ []) (0 ∷ 1 ∷ 0 ∷ [])) +0
unfolding bits_ok all_below
later-bad = against 1 0 0 1 (7 ∷ []) (0 ∷ []) (omega arith) (λ e. omega arith) refl
