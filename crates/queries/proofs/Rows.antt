-- Laws of the row beside a number. The numbers are what they were: 001's Pfaffian, of a marginal with its sign and not below zero. Where there is a row the
-- answer is 0.0, and the row is even and below twice the modes left. Assumes nothing. A public promise rests on this.
use mathlib.Core.Path.{◌≡◌, refl, sym, ap, ◌∙◌}
use mathlib.Core.Bool.{Bool, true, false, cond}
use mathlib.Core.List.{List, [], ◌∷◌}
use Prim.Native.Nat.{ℕ, ◌*◌, ◌≤◌, ◌<◌}
use native.Mathlib.Omega.{arith}
use lib.Dec.{ltb}
use lib.ListN.{length, replicate}
use lib.Count.{count_trailing_zeros}
use lib.Ieee.{Float, binary64, add, sub, mul, div, neg, sum, round, units, odd, size, climb, span, lt, eq}
use Rattle.std.specs.Prelude.{Some, None}
use borrow.Author.Tests.{lt-ltb}
use Rattle.std.proofs.lemmas.Option.{none-some}
use Rattle.laws.specs.Zeros.{+0, +1, sg}
use Rattle.laws.specs.Matrix.{Mat}
use Rattle.laws.specs.Tests.{all_below}
use Rattle.laws.proofs.Tests.{count-le}
use Rattle.num.specs.Order.{abs_of}
use Rattle.pfaffian.specs.declared.pairs.End.{End}
use Rattle.pfaffian.specs.declared.pairs.End.TheVariants.{Value, Stopped}
use Rattle.pfaffian.specs.Pfaffian.{search, ended, pfaffian_of}
use Rattle.pfaffian.proofs.Number.{number_of, row_of, pfaffian_number}
use Rattle.pfaffian.proofs.Stops.{Row, end-number, row-is}
use Rattle.state.specs.Modes.{is_permutation}
use Rattle.state.specs.Questions.{state_ok}
use Rattle.state.specs.Answers.{Told, accepted, refused}
use Rattle.queries.specs.Answers.{Answered, stopped, taken_apart, without_row, given}
use Rattle.queries.specs.Lists.{first_from, oddly, passing, bad_place, odd_modes, bits_ok, stop_place, noted, asked, noted_modes}
use Rattle.queries.specs.Products.{restricted, dim_left, product_of}
use Rattle.queries.specs.Marginals.{is_one, asked_matrix, sign_of, at_least_zero_of, marked_of}
use Rattle.queries.specs.Calls.{covariance_of, work_ok, worked, stopped_of, product_answer, marked_answer, expectation_z_product_of, marginal_probability_of}
use Rattle.queries.proofs.Searches.{passing-count}

-- ---- the number

pub product-number : (e : Mat) (l : List ℕ) → (product_of e l).value ≡ pfaffian_number (dim_left l) (restricted e l)
unfolding product_of
product-number e l = value (pfaffian_of (dim_left l) (restricted e l)) ∙ end-number (dim_left l) (restricted e l)
  where
    value : (p : End) → (taken_apart (λ x. x) p).value ≡ number_of p
    value (Value x) = refl
    value (Stopped k) = refl

-- a zero has no marginal but 0.0, whatever its sign
marginal-zero : (s : Bool) → at_least_zero_of (mul binary64 (sg s +1) +0) ≡ +0
unfolding mul neg sum round units odd size climb span lt count_trailing_zeros
marginal-zero false = refl
marginal-zero true = refl

pub marked-number : (e : Mat) (n : ℕ) (mark : ℕ → ℕ)
    → let l = noted_modes n mark in
    (marked_of e n mark).value ≡ at_least_zero_of (mul binary64 (sign_of n mark) (pfaffian_number (dim_left l) (asked_matrix e mark l)))
unfolding marked_of
marked-number e n mark =
    let l = noted_modes n mark in
    let s = sign_of n mark in
    value (pfaffian_of (dim_left l) (asked_matrix e mark l)) ∙ ap (λ x. at_least_zero_of (mul binary64 s x)) (end-number (dim_left l) (asked_matrix e mark l))
  where
    value : (p : End) → (taken_apart (λ x. at_least_zero_of (mul binary64 (sign_of n mark) x)) p).value
        ≡ at_least_zero_of (mul binary64 (sign_of n mark) (number_of p))
    value (Value x) = refl
    value (Stopped k) = sym (marginal-zero (oddly (λ k. is_one (mark k)) n))

-- ---- the row

-- what the row k says beside the answer a to a call on this state whose matrix has the dimension dim: 16 has passed, the answer is 0.0, and k is a row of
-- the matrix
pub record Stop (n : ℕ) (s : List Float) (modes : List ℕ) (dim : ℕ) (a : Answered) (k : ℕ) : Type 0 where
  pub asked : state_ok n s modes ≡ true
  pub zero : a.told ≡ accepted +0
  pub row : Row dim k

module _ (n : ℕ) (s : List Float) (modes : List ℕ) (w : List Float) (k : ℕ) where
  -- a number that is taken apart, under question 20
  worked-stop : (dim : ℕ) (f : Float → Float) (m : Mat) → state_ok n s modes ≡ true
      → let a = worked dim (taken_apart f (pfaffian_of dim m)) w in a.row ≡ Some k → Stop n s modes dim a k
  unfolding worked
  worked-stop dim f m ok = by (pfaffian_of dim m) (row-is dim m k) (work_ok dim w)
    where
      by : (q : End) → (row_of q ≡ Some k → Row dim k) → (b : Bool)
          → let a = cond b (given (taken_apart f q)) (without_row (refused 20 0)) in a.row ≡ Some k → Stop n s modes dim a k
      by q r false e = absurd (none-some k e)
      by (Value x) r true e = absurd (none-some k e)
      by (Stopped j) r true e = record { asked = ok; zero = refl; row = r e }

  -- the same beside an answer without a row, which a test gives where it is false, or where it is true
  module _ (dim : ℕ) (a : Answered) (t : Told) where
    under : (b : Bool) → (b ≡ true → a.row ≡ Some k → Stop n s modes dim a k)
        → (cond b a (without_row t)).row ≡ Some k → Stop n s modes dim (cond b a (without_row t)) k
    under true h e = h refl e
    under false h e = absurd (none-some k e)

    beside : (b : Bool) → (a.row ≡ Some k → Stop n s modes dim a k)
        → (cond b (without_row t) a).row ≡ Some k → Stop n s modes dim (cond b (without_row t) a) k
    beside false h e = h e
    beside true h e = absurd (none-some k e)

  pub product-stop : (qs : List ℕ)
      → let a = expectation_z_product_of n s modes qs w in a.row ≡ Some k → Stop n s modes (dim_left (odd_modes n modes qs)) a k
  unfolding expectation_z_product_of product_of
  product-stop qs =
      let place = bad_place n qs in
      let l = odd_modes n modes qs in
      let a = product_answer (covariance_of n s) l w in
      under (dim_left l) (cond (ltb place (length qs)) (without_row (refused 19 place)) a) (refused 16 0) (state_ok n s modes) (λ ok.
      beside (dim_left l) a (refused 19 place) (ltb place (length qs)) (worked-stop (dim_left l) (λ x. x) (restricted (covariance_of n s) l) ok))

  pub marginal-stop : (qs bits : List ℕ)
      → let a = marginal_probability_of n s modes qs bits w in a.row ≡ Some k → Stop n s modes (dim_left (noted_modes n (asked modes qs bits))) a k
  unfolding marginal_probability_of marked_of
  marginal-stop qs bits =
      let place = stop_place n modes qs bits in
      let mark = asked modes qs bits in
      let dim = dim_left (noted_modes n mark) in
      let a = marked_answer (covariance_of n s) n mark w in
      let read = cond (ltb place (length qs)) (without_row (stopped_of n qs place)) a in
      under dim (cond (bits_ok qs bits) read (without_row (refused 18 0))) (refused 16 0) (state_ok n s modes) (λ ok.
      under dim read (refused 18 0) (bits_ok qs bits) (λ _.
      beside dim a (stopped_of n qs place) (ltb place (length qs))
      (worked-stop dim (λ x. at_least_zero_of (mul binary64 (sign_of n mark) x)) (asked_matrix (covariance_of n s) mark (noted_modes n mark)) ok)))

-- "A marginal's contradiction is the value 0.0, with no row": nor has a bad qubit
pub stopped-rowless : (n : ℕ) (s : List Float) (modes qs bits : List ℕ) (w : List Float) → stop_place n modes qs bits < length qs
    → (marginal_probability_of n s modes qs bits w).row ≡ None
unfolding marginal_probability_of
stopped-rowless n s modes qs bits w h = by (state_ok n s modes) (bits_ok qs bits)
  where
    by : (t u : Bool)
        → (cond t
        (cond u
        (cond (ltb (stop_place n modes qs bits) (length qs)) (without_row (stopped_of n qs (stop_place n modes qs bits)))
        (marked_answer (covariance_of n s) n (asked modes qs bits) w))
        (without_row (refused 18 0)))
        (without_row (refused 16 0))).row
        ≡ None
    by true true = rw (lt-ltb (stop_place n modes qs bits) (length qs) h) refl
    by true false = refl
    by false u = refl

-- a mode has two rows, so a row is one of all modes' matrix
pub rows-few : (p : ℕ → Bool) (n : ℕ) → dim_left (passing p n) ≤ 2 * n
rows-few p n = omega (arith, passing-count p n, count-le p n)

-- ---- a row that a bit register does not know

-- the slice of the state that the register 0 1 has: the matrix by rows, and the signs
abbrev pub register : List Float
register =
    +0 ∷ +1 ∷ +0 ∷ +0 ∷ neg +1 ∷ +0 ∷ +0 ∷ +0 ∷ +0 ∷ +0 ∷ +0 ∷ neg +1 ∷ +0 ∷ +0 ∷ +1 ∷ +0 ∷ +1 ∷ +1 ∷ +1 ∷ +1 ∷ []

-- the marginal that asks for 0 0 is 0.0, as the register's, and stops in row 2
pub register-stops : marginal_probability_of 2 register (0 ∷ 1 ∷ []) (0 ∷ 1 ∷ []) (0 ∷ 0 ∷ []) (replicate 16 +0) ≡ given (stopped 2)
unfolding marginal_probability_of state_ok is_permutation bits_ok all_below stop_place first_from worked marked_of noted passing pfaffian_of ended search abs_of
    add sub mul div neg sum round units odd size climb span lt eq count_trailing_zeros
register-stops = refl
