-- What the public calls answer, by their questions in order, and what they leave in work and output. Every query is a function of the matrix `get`;
-- the state is only read. Definitions only. A public promise rests on this.
use Rattle.std.specs.Prelude.{Bool, cond, List, ℕ, ◌*◌, leb, ltb, get_or, length, Float}
use Rattle.laws.specs.Zeros.{+0}
use Rattle.laws.specs.Slices.{filled}
use Rattle.laws.specs.Matrix.{Mat}
use Rattle.local.specs.State.{state_at, get}
use Rattle.state.specs.Bounds.{dim_of}
use Rattle.state.specs.Questions.{state_ok}
use Rattle.state.specs.Answers.{Told, accepted, refused}
use Rattle.queries.specs.Answers.{Number, Answered, without_row, given}
use Rattle.queries.specs.Lists.{bad_place, odd_modes, bits_ok, stop_place, asked, noted_modes}
use Rattle.queries.specs.Products.{dim_left, product_of}
use Rattle.queries.specs.Marginals.{marked_of}
use Rattle.queries.specs.Basis.{basis_mark}
use Rattle.queries.specs.Samples.{shots_ok, bad_draw_of, sampled}

-- the covariance of a state of n qubits
abbrev pub covariance_of : ℕ → List Float → Mat
covariance_of n s = get (state_at (dim_of n) s)

-- ---- question 20

-- "has work dim² places?"
abbrev pub work_ok : ℕ → List Float → Bool
work_ok dim w = leb (dim * dim) (length w)

-- "once this passes they are zero after every answer"
abbrev pub cleared : ℕ → List Float → List Float
cleared dim w = filled (dim * dim) +0 w

-- of a number that needs work
unfoldable pub worked : ℕ → Number → List Float → Answered
worked dim x w = cond (work_ok dim w) (given x) (without_row (refused 20 0))

unfoldable pub worked_work : ℕ → List Float → List Float
worked_work dim w = cond (work_ok dim w) (cleared dim w) w

-- ---- products: questions 16, 19 and 20

-- of the modes left: question 20
abbrev pub product_answer : Mat → List ℕ → List Float → Answered
product_answer e l w = worked (dim_left l) (product_of e l) w

abbrev pub product_work : List ℕ → List Float → List Float
product_work l w = worked_work (dim_left l) w

unfoldable pub expectation_z_product_of : ℕ → List Float → List ℕ → List ℕ → List Float → Answered
expectation_z_product_of n s modes qs w =
    let place = bad_place n qs in
    let l = odd_modes n modes qs in
    cond (state_ok n s modes)
    (cond (ltb place (length qs)) (without_row (refused 19 place)) (product_answer (covariance_of n s) l w))
    (without_row (refused 16 0))

unfoldable pub expectation_z_product_work : ℕ → List Float → List ℕ → List ℕ → List Float → List Float
expectation_z_product_work n s modes qs w =
    cond (state_ok n s modes) (cond (ltb (bad_place n qs) (length qs)) w (product_work (odd_modes n modes qs) w)) w

-- ---- a marginal: questions 16, 18, 19 and 20

-- "a marginal stops with 0.0 at the first contradiction, later qubits and 20 unread": "the value 0.0, with no row"
unfoldable pub stopped_of : ℕ → List ℕ → ℕ → Told
stopped_of n qs place = cond (leb n (get_or qs place 0)) (refused 19 place) (accepted +0)

-- of modes with their marks: question 20
abbrev pub marked_answer : Mat → ℕ → (ℕ → ℕ) → List Float → Answered
marked_answer e n mark w = worked (dim_left (noted_modes n mark)) (marked_of e n mark) w

abbrev pub marked_work : ℕ → (ℕ → ℕ) → List Float → List Float
marked_work n mark w = worked_work (dim_left (noted_modes n mark)) w

unfoldable pub marginal_probability_of : ℕ → List Float → List ℕ → List ℕ → List ℕ → List Float → Answered
marginal_probability_of n s modes qs bits w =
    let place = stop_place n modes qs bits in
    cond (state_ok n s modes)
    (cond (bits_ok qs bits)
    (cond (ltb place (length qs)) (without_row (stopped_of n qs place)) (marked_answer (covariance_of n s) n (asked modes qs bits) w))
    (without_row (refused 18 0)))
    (without_row (refused 16 0))

unfoldable pub marginal_probability_work : ℕ → List Float → List ℕ → List ℕ → List ℕ → List Float → List Float
marginal_probability_work n s modes qs bits w =
    cond (state_ok n s modes)
    (cond (bits_ok qs bits) (cond (ltb (stop_place n modes qs bits) (length qs)) w (marked_work n (asked modes qs bits) w)) w)
    w

-- ---- a basis index: questions 16 and 20. It has no row, though it is a marginal

unfoldable pub probability_of : ℕ → List Float → List ℕ → ℕ → ℕ → List Float → Told
probability_of n s modes low high w =
    cond (state_ok n s modes) (marked_answer (covariance_of n s) n (basis_mark n modes low high) w).told (refused 16 0)

unfoldable pub probability_work : ℕ → List Float → List ℕ → ℕ → ℕ → List Float → List Float
probability_work n s modes low high w = cond (state_ok n s modes) (marked_work n (basis_mark n modes low high) w) w

-- ---- a sample: questions 16, 20, 21 and 22

-- 21 and 22
unfoldable pub shots_of : ℕ → ℕ → List Float → List ℕ → Told
shots_of n shots draws out =
    let place = bad_draw_of (n * shots) draws in
    cond (shots_ok n shots draws out) (cond (ltb place (n * shots)) (refused 22 place) (accepted +0)) (refused 21 0)

unfoldable pub shots_out : Mat → ℕ → List ℕ → ℕ → List Float → List ℕ → List ℕ
shots_out e n modes shots draws out =
    cond (shots_ok n shots draws out) (cond (ltb (bad_draw_of (n * shots) draws) (n * shots)) out (sampled e n modes shots draws out)) out

unfoldable pub sample_of : ℕ → List Float → List ℕ → ℕ → List Float → List Float → List ℕ → Told
sample_of n s modes shots draws w out =
    cond (state_ok n s modes) (cond (work_ok (dim_of n) w) (shots_of n shots draws out) (refused 20 0)) (refused 16 0)

unfoldable pub sample_work : ℕ → List Float → List ℕ → List Float → List Float
sample_work n s modes w = cond (state_ok n s modes) (worked_work (dim_of n) w) w

unfoldable pub sample_out : ℕ → List Float → List ℕ → ℕ → List Float → List Float → List ℕ → List ℕ
sample_out n s modes shots draws w out =
    cond (state_ok n s modes) (cond (work_ok (dim_of n) w) (shots_out (covariance_of n s) n modes shots draws out) out) out
