-- WHAT THE PLAIN ENGINE SAYS OF THE ENGINE. Both are put the same operations, from the vacuum: the engine, which postpones the turns of signs, and the plain
-- one, which makes each at once on all later rows and columns. "Each covariance entry, product and marginal, and each shot from equal draws, is the same number
-- in both, zero signs aside, all NaNs being one." Any maps are meant: odd ones, NaN, infinities. What the two share is not tested by it: how an operation is
-- read, the vacuum, what a map does to rows and columns, whether a determinant is below zero, and the queries. That all later modes turn stands in each by
-- itself, so that only the same error in both would pass. Of signed permutations the sign theorem says that both are right; of other maps they are the
-- definition, and the plain one's formula is, in exact numbers, quantum mechanics (crate `angles`). Assumes nothing. A public promise rests on this.
use Rattle.std.specs.Prelude.{◌≡◌, true, List, ℕ, ◌<◌, Float}
use Rattle.laws.specs.Lists.{All, in_order}
use Rattle.laws.specs.Zeros.{+1, nz}
use Rattle.laws.specs.Matrix.{Mat, at, matrix}
use Rattle.local.specs.State.{stored, vacuum, get}
use Rattle.state.specs.Bounds.{dim_of}
use Rattle.state.specs.Operation.{Engine, Fits}
use Rattle.state.specs.Questions.{state_ok}
use Rattle.state.specs.Calls.{apply_answer, called}
use Rattle.state.specs.declared.operation.Operation.{Operation}
use Rattle.queries.specs.Answers.{Answered}
use Rattle.queries.specs.Calls.{covariance_of, expectation_z_product_of, expectation_z_product_work, marginal_probability_of, marginal_probability_work}
use Rattle.queries.specs.Calls.{probability_of, probability_work, sample_of, sample_work, sample_out}
use Rattle.plain.specs.Calls.{matrix_ok, plain_answer, plain_matrix}

-- ---- of operations

-- the n modes have the same covariance, "zero signs aside"
abbrev pub SameEntries : ℕ → Mat → Mat → Type 0
SameEntries n e p = (r c : ℕ) → r < dim_of n → c < dim_of n → nz (e r c) ≡ nz (p r c)

-- an engine and a plain one, by what an operation does to a state and to a matrix: after every list of operations on n modes, from the vacuum, both have the
-- same covariance. The engine's own is `effect` of crate `state`, the plain one's `plain` of crate `plain`
abbrev pub AlwaysSame : Engine → (Operation → Mat → Mat) → Type 0
AlwaysSame e p = (n : ℕ) (os : List Operation) → All (Fits n) os → SameEntries n (get (in_order e os vacuum)) (in_order p os vacuum.m)

-- ---- by calls, in the callers' slices

-- the plain engine's slice after a call for each of the operations' slices
abbrev pub plainly_called : ℕ → List (List Float) → List Float → List Float
plainly_called n ops s = in_order (λ op s. plain_matrix n s op) ops s

-- the state slice s with the plain engine's matrix, from its slice p, in the place of its own, and 1.0 for every sign: so queries can be put to it
abbrev pub laid : ℕ → List Float → List Float → List Float
laid n p s = stored (dim_of n) (record { m = at (dim_of n) p; d = λ i. +1 }) s

-- answers of products: question, place and row are equal, and so is the number, "zero signs aside"
pub record SameAnswer (a b : Answered) : Type 0 where
  pub number : a.told.number ≡ b.told.number
  pub place : a.told.place ≡ b.told.place
  pub value : nz a.told.value ≡ nz b.told.value
  pub row : a.row ≡ b.row

-- the engine's slice s and the plain engine's p, for a mode table
pub record SameAnswers (n : ℕ) (modes : List ℕ) (s p : List Float) : Type 0 where
  pub entries : SameEntries n (covariance_of n s) (at (dim_of n) p)
  -- the next operation gets the same answer from both: number, place and value
  pub question : (op : List Float) → apply_answer n s modes op ≡ plain_answer n p op
  -- what a query reads of the plain engine's matrix is what that holds
  pub read : (r c : ℕ) → r < dim_of n → c < dim_of n → covariance_of n (laid n p s) r c ≡ at (dim_of n) p r c
  -- every query, with whatever is lent to it: its answer,
  pub product : (qs : List ℕ) (w : List Float)
      → SameAnswer (expectation_z_product_of n s modes qs w) (expectation_z_product_of n (laid n p s) modes qs w)
  pub marginal : (qs bits : List ℕ) (w : List Float)
      → marginal_probability_of n s modes qs bits w ≡ marginal_probability_of n (laid n p s) modes qs bits w
  pub index : (low high : ℕ) (w : List Float) → probability_of n s modes low high w ≡ probability_of n (laid n p s) modes low high w
  pub sample : (shots : ℕ) (draws w : List Float) (out : List ℕ)
      → sample_of n s modes shots draws w out ≡ sample_of n (laid n p s) modes shots draws w out
  -- the shots,
  pub shots : (shots : ℕ) (draws w : List Float) (out : List ℕ)
      → sample_out n s modes shots draws w out ≡ sample_out n (laid n p s) modes shots draws w out
  -- and what is left in work
  pub work_of_product : (qs : List ℕ) (w : List Float)
      → expectation_z_product_work n s modes qs w ≡ expectation_z_product_work n (laid n p s) modes qs w
  pub work_of_marginal : (qs bits : List ℕ) (w : List Float)
      → marginal_probability_work n s modes qs bits w ≡ marginal_probability_work n (laid n p s) modes qs bits w
  pub work_of_index : (low high : ℕ) (w : List Float) → probability_work n s modes low high w ≡ probability_work n (laid n p s) modes low high w
  pub work_of_sample : (w : List Float) → sample_work n s modes w ≡ sample_work n (laid n p s) modes w

-- THE STATEMENT. A state slice and a mode table that pass question 16, and a slice of the plain engine's own that passes its question, each with the vacuum;
-- then any operations, called one by one, of which one that 17 turns down does nothing in either
abbrev pub SameByCalls : Type 0
SameByCalls = (n : ℕ) (ops : List (List Float)) (modes : List ℕ) (slice own : List Float) → state_ok n slice modes ≡ true → matrix_ok n own ≡ true
    → SameAnswers n modes (called n modes ops (stored (dim_of n) vacuum slice)) (plainly_called n ops (matrix (dim_of n) vacuum.m own))
