-- The engine is the formula at binary64, by calls (specs/Calls.antt): the state after the calls, and each query on it. Assumes nothing.
use mathlib.Core.Path.{◌≡◌, refl, ap, ◌∙◌}
use mathlib.Core.Bool.{Bool, true, false, cond}
use mathlib.Core.List.{List, [], ◌∷◌}
use Prim.Native.Nat.{ℕ, zero, suc, ◌+◌, ◌*◌, ◌<◌}
use native.Mathlib.Omega.{arith}
use lib.Dec.{ltb, leb}
use lib.ListN.{get_or, length}
use lib.Ieee.{Float, binary64, mul, lt}
use Rattle.std.proofs.Common.{Option, Some, None}
use Rattle.std.specs.List.{cons_option, filter_map}
use Rattle.laws.specs.Lists.{in_order}
use Rattle.laws.specs.Zeros.{+0, nz}
use Rattle.laws.specs.Matrix.{Mat}
use Rattle.laws.specs.Tables.{mode_at}
use Rattle.local.specs.State.{State, stored, vacuum}
use Rattle.local.proofs.Stored.{stored_is}
use Rattle.pfaffian.specs.Shot.{half, draw_from, qubit_bit, word_of, shot}
use Rattle.pfaffian.proofs.Seen.{Alike}
use Rattle.state.specs.Bounds.{dim_of}
use Rattle.state.specs.Answers.{Told, accepted, refused}
use Rattle.state.specs.Operation.{decode_of, effect, Fits}
use Rattle.state.specs.Questions.{state_ok}
use Rattle.state.specs.Calls.{decoded_state, apply_state, called}
use Rattle.state.specs.declared.operation.Operation.{Operation}
use Rattle.state.proofs.Operations.{decode-fits}
use Rattle.state.proofs.Questions.{asked, stored_ok}
use Rattle.state.proofs.Steps.{applied-more}
use Rattle.queries.specs.Answers.{Number, Answered, without_row, given}
use Rattle.queries.specs.Lists.{bad_place, odd_modes, bits_ok, stop_place, noted_modes}
use Rattle.queries.specs.Lists as lists
use Rattle.queries.specs.Products.{dim_left, product_of}
use Rattle.queries.specs.Marginals.{at_least_zero_of, marked_of}
use Rattle.queries.specs.Basis.{basis_mark}
use Rattle.queries.specs.Samples.{word_at}
use Rattle.queries.specs.Calls.{covariance_of, work_ok, worked, stopped_of, marked_answer, expectation_z_product_of, marginal_probability_of, probability_of}
use Rattle.queries.specs.Calls.{sample_of, sample_out}
use Rattle.queries.proofs.Same.{product-same, marked-cong, shot-at-cong}
use Rattle.queries.proofs.Draws.{words-are}
use Rattle.formulas.specs.Engine.{Local as Local', Item, get as get'}
use Rattle.answers.specs.Products.{product_of as product'}
use Rattle.answers.specs.Marginals.{marked_of as marked'}
use Rattle.answers.specs.Asked.{product_answer, marginal_answer, index_answer}
use Rattle.answers.specs.Shots.{shot as shot'}
use Rattle.rounded.specs.Floats.{floats, float_tests, float_draws}
use Rattle.rounded.specs.Operations.{items_in}
use Rattle.rounded.specs.Calls.{covariance_after, Tells, Rounds, RoundedByCalls}
use Rattle.rounded.proofs.Operations.{rounded-operations}
use Rattle.rounded.proofs.Products.{rounded-products}
use Rattle.rounded.proofs.Marginals.{rounded-marginals}
use Rattle.rounded.proofs.Shots.{rounded-shots}

-- ---- the state after the calls

-- the operations that are read from slices
abbrev read : ℕ → List (List Float) → List Operation
read n ops = filter_map (decode_of n) ops

module _ (n : ℕ) (modes : List ℕ) (s₀ : List Float) (ok : state_ok n s₀ modes ≡ true) where
  -- s holds the state t, in the place of what s₀ holds
  abbrev Has : State → List Float → Type 0
  Has t s = s ≡ stored (dim_of n) t s₀

  passes : (t : State) (s : List Float) → Has t s → state_ok n s modes ≡ true
  passes t s e = ap (λ l. state_ok n l modes) e ∙ stored_ok n modes t s₀ ok

  -- an operation, if there is one, and then others
  operation-has : (t : State) (s : List Float) (os : List Operation) (next : List Float → List Float) (o : Option Operation)
      → ((x : Operation) → o ≡ Some x → Fits n x) → ((t : State) (s : List Float) → Has t s → Has (in_order effect os t) (next s))
      → Has t s → Has (in_order effect (cons_option o os) t) (next (decoded_state n s o))
  unfolding in_order decoded_state
  operation-has t s os next None fits after e = after t s e
  operation-has t s os next (Some o) fits after e =
      after (effect o t) _ (applied-more n o t s₀ s (asked n s₀ modes ok).room (fits o refl) e)

  called-has : (ops : List (List Float)) (t : State) (s : List Float) → Has t s → Has (in_order effect (read n ops) t) (called n modes ops s)
  unfolding in_order apply_state
  called-has [] t s e = e
  called-has (op ∷ ops) t s e =
      rw (passes t s e)
      (operation-has t s (read n ops) (called n modes ops) (decode_of n op) (λ x d. decode-fits n op x d) (λ t s e. called-has ops t s e) e)

-- ---- an answer by its tests

-- beside a row
abbrev told_of : Answered → Told
told_of a = a.told

-- of either kind, beside a row or without
either : {A : Type 0} (told : A → Told) (x : Float) (a b : A) (t : Bool) → Tells (told a) x → Tells (told b) x → Tells (told (cond t a b)) x
either told x a b true h g = h
either told x a b false h g = g

refuses : (x : Float) (k place : ℕ) → Tells (refused (suc k) place) x
refuses x k place e = absurd (omega (arith, e))

worked-tells : (dim : ℕ) (a : Number) (w : List Float) (x : Float) → a.value ≡ x → Tells (worked dim a w).told x
unfolding worked
worked-tells dim a w x h = either told_of x (given a) (without_row (refused 20 0)) (work_ok dim w) (λ _. h) (refuses x 19 0)

-- ---- the answers of a state that has these entries

module _ (n : ℕ) (modes : List ℕ) (os : List (Item (Local' floats))) (s : List Float)
    (same : (r c : ℕ) → r < dim_of n → c < dim_of n → covariance_of n s r c ≡ covariance_after os r c) where
  abbrev has : Mat
  has = covariance_of n s

  abbrev e : Mat
  e = covariance_after os

  equal : Alike (λ x. x) 0 (2 * n) has e
  equal r c lr hr lc hc = same r c hr hc

  alike : Alike nz 0 (2 * n) has e
  alike r c lr hr lc hc = ap nz (same r c hr hc)

  product : (qs : List ℕ) (w : List Float) → Tells (expectation_z_product_of n s modes qs w).told (product_answer floats float_tests half e n modes qs)
  unfolding expectation_z_product_of
  product qs w =
      let l = odd_modes n modes qs in
      let x = product' floats float_tests e l in
      let value = ap (λ a. a.value) (product-same has e n equal modes qs) ∙ rounded-products.product e l in
      either told_of x _ _ (state_ok n s modes)
      (either told_of x _ _ (ltb (bad_place n qs) (length qs)) (refuses x 18 (bad_place n qs))
      (worked-tells (dim_left l) (product_of has l) w x value)) (refuses x 15 0)

  marked : (mark : ℕ → ℕ) (w : List Float) → Tells (marked_answer has n mark w).told (at_least_zero_of (marked' floats half float_tests e n mark))
  marked mark w =
      worked-tells (dim_left (noted_modes n mark)) (marked_of has n mark) w _
      (ap (λ a. a.value) (marked-cong has e n alike mark) ∙ rounded-marginals e n mark)

  marginal : (qs bits : List ℕ) (w : List Float)
      → Tells (marginal_probability_of n s modes qs bits w).told (at_least_zero_of (marginal_answer floats float_tests half e n modes qs bits))
  unfolding marginal_probability_of stopped_of lt
  marginal qs bits w =
      let x = at_least_zero_of (marginal_answer floats float_tests half e n modes qs bits) in
      either told_of x _ _ (state_ok n s modes)
      (either told_of x _ _ (bits_ok qs bits) (by (ltb place (length qs))) (refuses x 17 0)) (refuses x 15 0)
    where
      place : ℕ
      place = stop_place n modes qs bits

      mark : ℕ → ℕ
      mark = lists.asked modes qs bits

      -- a contradiction, or marks
      by : (t : Bool) → Tells (cond t (without_row (stopped_of n qs place)) (marked_answer has n mark w)).told
          (at_least_zero_of (cond t +0 (marked' floats half float_tests e n mark)))
      by true = either (λ t. t) +0 (refused 19 place) (accepted +0) (leb n (get_or qs place 0)) (refuses +0 18 place) (λ _. refl)
      by false = marked mark w

  index : (low high : ℕ) (w : List Float)
      → Tells (probability_of n s modes low high w) (at_least_zero_of (index_answer floats float_tests half e n modes low high))
  unfolding probability_of
  index low high w = either (λ t. t) _ _ (refused 16 0) (state_ok n s modes) (marked (basis_mark n modes low high) w) (refuses _ 15 0)

  -- the words of the outcomes o
  words : (o : List Bool) (j : ℕ) → j < 2
      → let f = qubit_bit (mode_at modes) n o in word_at (record { low = word_of f 0 64; high = word_of f 64 64 }) j ≡ word_of f (64 * j) 64
  words o zero h = refl
  words o (suc zero) h = refl
  words o (suc (suc j)) h = absurd (omega arith)

  word : (shots : ℕ) (draws w : List Float) (out : List ℕ) → (sample_of n s modes shots draws w out).number ≡ 0
      → (i j : ℕ) → i < shots → j < 2
      → get_or (sample_out n s modes shots draws w out) (2 * i + j) 0
      ≡ word_of (qubit_bit (mode_at modes) n (shot' floats half float_tests float_draws e 0 n (draw_from draws (i * n)))) (64 * j) 64
  word shots draws w out told i j hi hj =
      words-are n s modes shots draws w out told i j hi hj
      ∙ ap (λ x. word_at x j) (shot-at-cong has e n alike modes draws i)
      ∙ words (shot e 0 n (draw_from draws (i * n))) j hj
      ∙ ap (λ o. word_of (qubit_bit (mode_at modes) n o) (64 * j) 64) (rounded-shots e 0 n (draw_from draws (i * n)))

  rounds : Rounds n modes os s
  rounds = record { entry = same; product = product; marginal = marginal; index = index; word = word }

-- ---- after the calls

module _ (n : ℕ) (ops : List (List Float)) (modes : List ℕ) (slice : List Float) (ok : state_ok n slice modes ≡ true) where
  -- the slice that the calls leave
  abbrev left : List Float
  left = called n modes ops (stored (dim_of n) vacuum slice)

  entry : (r c : ℕ) → r < dim_of n → c < dim_of n → covariance_of n left r c ≡ covariance_after (items_in n ops) r c
  entry r c hr hc =
      let t = in_order effect (read n ops) vacuum in
      let has = called-has n modes slice ok ops vacuum (stored (dim_of n) vacuum slice) refl in
      let w = stored_is (dim_of n) slice t left (asked n slice modes ok).room has in
      (λ i. mul binary64 (mul binary64 (w.entry r c hr hc i) (w.sign r hr i)) (w.sign c hc i))
      ∙ (λ i. get' floats (rounded-operations.engine (read n ops) vacuum i) r c)

pub rounded-by-calls : RoundedByCalls
rounded-by-calls n ops modes slice ok = rounds n modes (items_in n ops) (left n ops modes slice ok) (entry n ops modes slice ok)
