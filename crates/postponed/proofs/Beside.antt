-- THE ENGINE BESIDE THE PLAIN ONE: after any calls both have the same covariance and answer every query alike (specs/Beside.antt). Assumes nothing.
use mathlib.Core.Path.{◌≡◌, refl, sym, ap, ◌∙◌}
use mathlib.Core.Bool.{Bool, true, false, cond}
use mathlib.Core.List.{List}
use Prim.Native.Nat.{ℕ, ◌*◌, ◌<◌}
use lib.Dec.{ltb}
use lib.ListN.{length}
use lib.Ieee.{Float, binary64, mul}
use Rattle.laws.specs.Zeros.{+1, nz}
use Rattle.laws.specs.Matrix.{at, matrix}
use Rattle.laws.proofs.Fit.{times-one}
use Rattle.local.specs.State.{State, state_at, stored, vacuum}
use Rattle.local.proofs.Stored.{stored_is}
use Rattle.state.specs.Bounds.{dim_of}
use Rattle.state.specs.Questions.{state_ok}
use Rattle.state.specs.Answers.{refused}
use Rattle.state.proofs.Questions.{asked, stored_ok}
use Rattle.pfaffian.proofs.Seen.{Alike}
use Rattle.queries.specs.Answers.{Number, Answered, without_row, given}
use Rattle.queries.specs.Lists.{bad_place, odd_modes, bits_ok, stop_place, noted_modes}
use Rattle.queries.specs.Lists as lists
use Rattle.queries.specs.Products.{dim_left, product_of}
use Rattle.queries.specs.Basis.{basis_mark}
use Rattle.queries.specs.Samples.{shots_ok, bad_draw_of}
use Rattle.queries.specs.Calls.{covariance_of, work_ok, worked, stopped_of, marked_answer, expectation_z_product_of, expectation_z_product_work}
use Rattle.queries.specs.Calls.{marginal_probability_of, marginal_probability_work, probability_of, probability_work}
use Rattle.queries.specs.Calls.{shots_out, sample_of, sample_work, sample_out}
use Rattle.queries.proofs.Same.{odd-product-cong, marked-cong, sampled-cong}
use Rattle.postponed.specs.Beside.{laid, SameAnswer, SameAnswers, SameByCalls}
use Rattle.postponed.proofs.Steps.{get-same}
use Rattle.postponed.proofs.Operations.{Both, calls-same, question-same, vacuum-both}

-- ---- answers that are the same

own_answer : (a : Answered) → SameAnswer a a
own_answer a = record { number = refl; place = refl; value = refl; row = refl }

either_answer : (t : Bool) (a b c d : Answered) → SameAnswer a c → SameAnswer b d → SameAnswer (cond t a b) (cond t c d)
either_answer true a b c d h g = h
either_answer false a b c d h g = g

-- of numbers that are so
worked_answer : (dim : ℕ) (x y : Number) (w : List Float) → nz x.value ≡ nz y.value → x.row ≡ y.row → SameAnswer (worked dim x w) (worked dim y w)
unfolding worked
worked_answer dim x y w v r =
    either_answer (work_ok dim w) (given x) (without_row (refused 20 0)) (given y) (without_row (refused 20 0))
    (record { number = refl; place = refl; value = v; row = r }) (own_answer _)

-- ---- the answers

module _ (n : ℕ) (modes : List ℕ) (s p : List Float) (b : Both n modes s p) where
  -- the plain engine's matrix, and 1.0 for every sign
  abbrev t : State
  t = record { m = at (dim_of n) p; d = λ i. +1 }

  abbrev q : List Float
  q = laid n p s

  passes : state_ok n q modes ≡ true
  passes = stored_ok n modes t s b.engine

  -- a query reads what the plain engine holds
  read : (r c : ℕ) → r < dim_of n → c < dim_of n → covariance_of n q r c ≡ at (dim_of n) p r c
  read r c hr hc =
      let w = stored_is (dim_of n) s t q (asked n s modes b.engine).room refl in
      let once = times-one (at (dim_of n) p r c) (b.same.plain_fit r c hr hc) in
      (λ i. mul binary64 (mul binary64 (w.entry r c hr hc i) (w.sign r hr i)) (w.sign c hc i)) ∙ ap (λ x. mul binary64 x +1) once ∙ once

  entries : (r c : ℕ) → r < dim_of n → c < dim_of n → nz (covariance_of n s r c) ≡ nz (at (dim_of n) p r c)
  entries = get-same n (at (dim_of n) p) (state_at (dim_of n) s) b.same

  alike : Alike nz 0 (2 * n) (covariance_of n s) (covariance_of n q)
  alike r c lr hr lc hc = entries r c hr hc ∙ ap nz (sym (read r c hr hc))

  product : (qs : List ℕ) (w : List Float) → SameAnswer (expectation_z_product_of n s modes qs w) (expectation_z_product_of n q modes qs w)
  unfolding expectation_z_product_of
  product qs w =
      let same = odd-product-cong (covariance_of n s) (covariance_of n q) n alike modes qs in
      let l = odd_modes n modes qs in
      rw (b.engine, passes)
      (either_answer (ltb (bad_place n qs) (length qs)) _ _ _ _ (own_answer _)
      (worked_answer (dim_left l) (product_of (covariance_of n s) l) (product_of (covariance_of n q) l) w same.0 same.1))

  marked : (mark : ℕ → ℕ) (w : List Float) → marked_answer (covariance_of n s) n mark w ≡ marked_answer (covariance_of n q) n mark w
  marked mark w = ap (λ x. worked (dim_left (noted_modes n mark)) x w) (marked-cong (covariance_of n s) (covariance_of n q) n alike mark)

  marginal : (qs bits : List ℕ) (w : List Float) → marginal_probability_of n s modes qs bits w ≡ marginal_probability_of n q modes qs bits w
  unfolding marginal_probability_of
  marginal qs bits w =
      let place = stop_place n modes qs bits in
      rw (b.engine, passes)
      (ap (λ x. cond (bits_ok qs bits) (cond (ltb place (length qs)) (without_row (stopped_of n qs place)) x) (without_row (refused 18 0)))
      (marked (lists.asked modes qs bits) w))

  index : (low high : ℕ) (w : List Float) → probability_of n s modes low high w ≡ probability_of n q modes low high w
  unfolding probability_of
  index low high w = rw (b.engine, passes) (ap (λ a. a.told) (marked (basis_mark n modes low high) w))

  sample : (shots : ℕ) (draws w : List Float) (out : List ℕ) → sample_of n s modes shots draws w out ≡ sample_of n q modes shots draws w out
  unfolding sample_of
  sample shots draws w out = rw (b.engine, passes) refl

  shots_same : (shots : ℕ) (draws w : List Float) (out : List ℕ) → sample_out n s modes shots draws w out ≡ sample_out n q modes shots draws w out
  unfolding sample_out shots_out
  shots_same shots draws w out =
      rw (b.engine, passes)
      (ap (λ x. cond (work_ok (dim_of n) w) (cond (shots_ok n shots draws out) (cond (ltb (bad_draw_of (n * shots) draws) (n * shots)) out x) out) out)
      (sampled-cong (covariance_of n s) (covariance_of n q) n alike modes shots draws out))

  -- work is left by what is asked, not by the covariance
  product_work : (qs : List ℕ) (w : List Float) → expectation_z_product_work n s modes qs w ≡ expectation_z_product_work n q modes qs w
  unfolding expectation_z_product_work
  product_work qs w = rw (b.engine, passes) refl

  marginal_work : (qs bits : List ℕ) (w : List Float) → marginal_probability_work n s modes qs bits w ≡ marginal_probability_work n q modes qs bits w
  unfolding marginal_probability_work
  marginal_work qs bits w = rw (b.engine, passes) refl

  index_work : (low high : ℕ) (w : List Float) → probability_work n s modes low high w ≡ probability_work n q modes low high w
  unfolding probability_work
  index_work low high w = rw (b.engine, passes) refl

  work_of_sample : (w : List Float) → sample_work n s modes w ≡ sample_work n q modes w
  unfolding sample_work
  work_of_sample w = rw (b.engine, passes) refl

  pub same-answers : SameAnswers n modes s p
  same-answers = record {
    entries = entries;
    question = λ op. question-same n modes op s p b;
    read = read;
    product = product;
    marginal = marginal;
    index = index;
    sample = sample;
    shots = shots_same;
    work_of_product = product_work;
    work_of_marginal = marginal_work;
    work_of_index = index_work;
    work_of_sample = work_of_sample;
  }

pub same-by-calls : SameByCalls
same-by-calls n ops modes slice own ok fits =
    same-answers n modes _ _
    (calls-same n modes ops (stored (dim_of n) vacuum slice) (matrix (dim_of n) vacuum.m own) (vacuum-both n modes slice own ok fits))
