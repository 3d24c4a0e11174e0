-- The engine's own questions, 18 to 22, come to those of the paper, which know of qubits only: on a state that passes 16 a query is answered exactly where each
-- of its questions has yes for an answer. Assumes nothing. A public promise rests on this.
use mathlib.Core.Path.{◌≡◌, refl, sym, ap, ◌∙◌}
use mathlib.Core.Logic.{◌⊎◌, inl, inr}
use mathlib.Core.Bool.{Bool, true, false, not, cond, ◌&&◌, ◌||◌}
use mathlib.Core.List.{List}
use Prim.Native.Nat.{ℕ, ◌*◌, ◌≤◌, ◌<◌}
use native.Mathlib.Omega.{arith}
use lib.Dec.{eqb, leb, ltb}
use lib.ListN.{get_or, length}
use lib.Ieee.{Float, nan}
use borrow.Author.Tests.{le-leb, lt-leb, lt-ltb, le-ltb, ltb-true, ltb-false, not-true, not-false}
use Rattle.std.proofs.lemmas.Bool.{cases_lt}
use Rattle.laws.specs.Zeros.{+0}
use Rattle.laws.specs.Tests.{all_below}
use Rattle.laws.proofs.Tests.{all-each, all_of, all-fails}
use Rattle.state.specs.Modes.{is_permutation}
use Rattle.queries.specs.Answers.{Number, without_row, given}
use Rattle.queries.specs.Lists.{first, outside, bad_place, odd_modes, bits_ok, stop_place, asked, noted_modes}
use Rattle.queries.specs.Basis.{basis_mark}
use Rattle.queries.proofs.First.{first_passes, none_passes}
use Rattle.state.specs.Questions.{state_ok}
use Rattle.state.specs.Answers.{accepted, refused}
use Rattle.state.proofs.Questions as questions
use Rattle.queries.specs.Products.{dim_left, product_of}
use Rattle.queries.specs.Marginals.{marked_of}
use Rattle.queries.specs.Samples.{shots_ok, draw_ok_of, bad_draw_of}
use Rattle.queries.specs.Calls.{covariance_of, work_ok, worked, product_answer, marked_answer, stopped_of, shots_of}
use Rattle.queries.specs.Calls.{expectation_z_product_of, marginal_probability_of, probability_of, sample_of}
use Rattle.claim.specs.Queries.{Query, product, marginal, probability, sample, answer, passes}
use Rattle.claim.specs.Questions.{product_passes, marginal_passes, probability_passes, shots_fit, draws_fit, sample_passes}
use Rattle.claim.specs.Questions.{has_places, left_of_marginal, qubits_exist, agree, read_qubits_exist, bits_match}
use Rattle.claim.proofs.Left.{product-left, all-left}
use Rattle.claim.proofs.Stops.{marginal-asked}

below-test : (a n : ℕ) → leb n a ≡ not (ltb a n)
below-test a n = by (cases_lt a n)
  where
    by : (a < n) ⊎ (n ≤ a) → leb n a ≡ not (ltb a n)
    by (inl h) = rw (lt-leb n a h, lt-ltb a n h) refl
    by (inr h) = rw (le-leb n a h, le-ltb a n h) refl

-- "the first that fails is none of the n" is "all pass"
first-fails : (p f : ℕ → Bool) (n : ℕ) → ((j : ℕ) → j < n → p j ≡ not (f j)) → not (ltb (first p n) n) ≡ all_below f n
first-fails p f n h = by (ltb (first p n) n) refl
  where
    by : (t : Bool) → ltb (first p n) n ≡ t → not t ≡ all_below f n
    by true e = all-fails f n (first p n) l (not-true (f (first p n)) (sym (h (first p n) l) ∙ first_passes p n 0 (omega (arith, l))))
      where
        l : first p n < n
        l = ltb-true (first p n) n e
    by false e = sym (all_of f n (λ j l. not-false (f j) (sym (h j l) ∙ none_passes p n (ltb-false (first p n) n e) j l)))

-- ---- a query is answered exactly where its questions pass

module _ (n : ℕ) (s : List Float) (modes : List ℕ) (ok : state_ok n s modes ≡ true) where
  p : is_permutation n modes ≡ true
  p = (questions.asked n s modes ok).permutation

  -- a number that needs work
  worked-exactly : (dim : ℕ) (x : Number) (w : List Float) → eqb (worked dim x w).told.number 0 ≡ work_ok dim w
  unfolding worked
  worked-exactly dim x w = by (work_ok dim w)
    where
      by : (t : Bool) → eqb (cond t (given x) (without_row (refused 20 0))).told.number 0 ≡ t
      by true = refl
      by false = refl

  product-exactly : (qs : List ℕ) (w : List Float) → eqb (expectation_z_product_of n s modes qs w).told.number 0 ≡ product_passes n qs w
  unfolding expectation_z_product_of bad_place
  product-exactly qs w = rw ok (by (ltb (bad_place n qs) (length qs)) refl)
    where
      exist : not (ltb (bad_place n qs) (length qs)) ≡ qubits_exist n qs
      exist = first-fails (outside n qs) (λ j. ltb (get_or qs j 0) n) (length qs) (λ j h. below-test (get_or qs j 0) n)

      listed : qubits_exist n qs ≡ true → (j : ℕ) → j < length qs → get_or qs j 0 < n
      listed all j h = ltb-true (get_or qs j 0) n (all-each (λ j. ltb (get_or qs j 0) n) (length qs) j all h)

      by : (t : Bool) → ltb (bad_place n qs) (length qs) ≡ t
          → eqb (cond t (without_row (refused 19 (bad_place n qs))) (product_answer (covariance_of n s) (odd_modes n modes qs) w)).told.number 0
          ≡ product_passes n qs w
      by true e = sym (rw (sym exist, e) refl)
      by false e =
          let all : qubits_exist n qs ≡ true = sym exist ∙ ap not e in
          worked-exactly (dim_left (odd_modes n modes qs)) (product_of (covariance_of n s) (odd_modes n modes qs)) w
          ∙ ap (λ k. has_places k w) (product-left n modes p qs (listed all))
          ∙ sym (rw all refl)

  marginal-exactly : (qs xs : List ℕ) (w : List Float) → eqb (marginal_probability_of n s modes qs xs w).told.number 0 ≡ marginal_passes n qs xs w
  unfolding marginal_probability_of bits_ok stopped_of
  marginal-exactly qs xs w = rw ok (ask (bits_match qs xs))
    where
      place : ℕ
      place = stop_place n modes qs xs

      of_list : (t u : Bool)
          → eqb (cond t (without_row (cond u (refused 19 place) (accepted +0))) (marked_answer (covariance_of n s) n (asked modes qs xs) w)).told.number 0
          ≡ cond t (not u) (work_ok (dim_left (noted_modes n (asked modes qs xs))) w)
      of_list true true = refl
      of_list true false = refl
      of_list false u = worked-exactly (dim_left (noted_modes n (asked modes qs xs))) (marked_of (covariance_of n s) n (asked modes qs xs)) w

      ask : (t : Bool)
          → eqb (cond t
          (cond (ltb place (length qs)) (without_row (cond (leb n (get_or qs place 0)) (refused 19 place) (accepted +0)))
          (marked_answer (covariance_of n s) n (asked modes qs xs) w))
          (without_row (refused 18 0))).told.number 0
          ≡ (t && (read_qubits_exist n qs xs && (not (agree qs xs (length qs)) || has_places (left_of_marginal n qs) w)))
      ask true = of_list (ltb place (length qs)) (leb n (get_or qs place 0)) ∙ marginal-asked n modes p qs xs w
      ask false = refl

  probability-exactly : (low high : ℕ) (w : List Float) → eqb (probability_of n s modes low high w).number 0 ≡ probability_passes n w
  unfolding probability_of
  probability-exactly low high w =
      rw ok
      (worked-exactly (dim_left (noted_modes n (basis_mark n modes low high))) (marked_of (covariance_of n s) n (basis_mark n modes low high)) w
      ∙ ap (λ k. has_places k w) (all-left n modes p low high))

  sample-exactly : (shots : ℕ) (draws w : List Float) (out : List ℕ)
      → eqb (sample_of n s modes shots draws w out).number 0 ≡ sample_passes n shots draws w out
  unfolding sample_of shots_of shots_ok bad_draw_of
  sample-exactly shots draws w out = rw ok (by (has_places n w) (shots_fit n shots draws out) (ltb place (n * shots)) refl)
    where
      place : ℕ
      place = bad_draw_of (n * shots) draws

      fit : not (ltb place (n * shots)) ≡ draws_fit (n * shots) draws
      fit = first-fails (λ i. not (draw_ok_of (get_or draws i nan))) (λ i. draw_ok_of (get_or draws i nan)) (n * shots) (λ j h. refl)

      by : (t u v : Bool) → ltb place (n * shots) ≡ v
          → eqb (cond t (cond u (cond v (refused 22 place) (accepted +0)) (refused 21 0)) (refused 20 0)).number 0
          ≡ (t && (u && draws_fit (n * shots) draws))
      by true true true e = rw e at fit
      by true true false e = rw e at fit
      by true false v e = refl
      by false u v e = refl

  pub answered-exactly : (q : Query) → eqb (answer n s modes q).told.number 0 ≡ passes n q
  answered-exactly (product qs w) = product-exactly qs w
  answered-exactly (marginal qs xs w) = marginal-exactly qs xs w
  answered-exactly (probability low high w) = probability-exactly low high w
  answered-exactly (sample shots draws w out) = sample-exactly shots draws w out
