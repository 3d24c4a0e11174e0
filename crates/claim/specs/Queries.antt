-- The queries of demand 3, "the calls just listed", each with what it asks and is lent; what the engine answers to a list of them, and what the bit
-- register answers. Definitions only. A public promise rests on this.
use Rattle.std.specs.Prelude.{◌≡◌, Bool, true, List, [], ◌∷◌, ℕ, ◌≤◌, ◌<◌, length, Float}
use Rattle.laws.specs.Zeros.{+0}
use Rattle.laws.specs.Tables.{mode_at}
use Rattle.state.specs.Answers.{Told, accepted}
use Rattle.queries.specs.Calls.{expectation_z_product_of, marginal_probability_of, probability_of, sample_of, sample_out}
use Rattle.basis.specs.Answers.{register_product, register_marginal, register_probability, register_shots}
use Rattle.claim.specs.Questions.{product_passes, marginal_passes, probability_passes, sample_passes}

pub data Query : Type 0 where
  -- `expectation_z_product`: qubits; work
  product : List ℕ → List Float → Query
  -- `marginal_probability`: qubits, bits; work
  marginal : List ℕ → List ℕ → List Float → Query
  -- `probability`: the low and the high word of a basis index; work
  probability : ℕ → ℕ → List Float → Query
  -- `sample`: shots, draws; work, output
  sample : ℕ → List Float → List Float → List ℕ → Query

-- what a call gives: its answer, and its output afterwards, where it has one. The row beside a product's or marginal's number is left out: a register knows
-- none, and the marginal of 0 1 that asks for 0 0 stops in row 2 (law `register-stops`, crate `queries`, proofs/Rows.antt)
pub record Given : Type 0 where
  pub told : Told
  pub out : List ℕ

abbrev pub number : Told → Given
number x = record { told = x; out = [] }

-- ---- the engine: the definitions that the calls are proved against

-- on the state of n qubits in the slice s, with this mode table
abbrev pub answer : ℕ → List Float → List ℕ → Query → Given
answer n s modes (product qs w) = number (expectation_z_product_of n s modes qs w).told
answer n s modes (marginal qs bits w) = number (marginal_probability_of n s modes qs bits w).told
answer n s modes (probability low high w) = number (probability_of n s modes low high w)
answer n s modes (sample shots draws w out) = record { told = sample_of n s modes shots draws w out; out = sample_out n s modes shots draws w out }

-- how a query is put to n qubits, a state slice and a mode table, and what it is given: `answer`, or another engine's
abbrev pub Ask : Type 0
Ask = ℕ → List Float → List ℕ → Query → Given

-- "Each query, answered or refused, leaves that state as it was for the next": the calls are lent the state to read only, so every one finds s
unfoldable pub answers : Ask → ℕ → List Float → List ℕ → List Query → List Given
answers ask n s modes [] = []
answers ask n s modes (q ∷ qs) = ask n s modes q ∷ answers ask n s modes qs

-- the mode table `modes` is lent for `table`: it has n entries or more, and the first n are those of `table`
pub record Begins (n : ℕ) (table modes : List ℕ) : Type 0 where
  pub long : n ≤ length modes
  pub same : (q : ℕ) → q < n → mode_at modes q ≡ mode_at table q

-- ---- the bit register, with its n and its last bits

abbrev pub register_answer : ℕ → (ℕ → Bool) → Query → Given
register_answer n bits (product qs w) = number (accepted (register_product bits qs))
register_answer n bits (marginal qs xs w) = number (accepted (register_marginal n bits qs xs))
register_answer n bits (probability low high w) = number (accepted (register_probability n bits low high))
register_answer n bits (sample shots draws w out) = record { told = accepted +0; out = register_shots n bits shots out }

-- ---- a query's own questions: 18 to 22

-- each has yes for an answer
abbrev pub passes : ℕ → Query → Bool
passes n (product qs w) = product_passes n qs w
passes n (marginal qs xs w) = marginal_passes n qs xs w
passes n (probability low high w) = probability_passes n w
passes n (sample shots draws w out) = sample_passes n shots draws w out

-- ---- beside each other

-- what is given to a query, on a state of n qubits, where the register has these bits
pub record RightAnswer (n : ℕ) (bits : ℕ → Bool) (q : Query) (g : Given) : Type 0 where
  -- "refused only where one of its own questions has no for an answer"
  pub answered : passes n q ≡ true → g.told.number ≡ 0
  -- an answer, which gives no number, is the register's
  pub right : g.told.number ≡ 0 → g ≡ register_answer n bits q

-- something is given to each query of the list, and it is right
abbrev pub RightAnswers : ℕ → (ℕ → Bool) → List Query → List Given → Type 0
RightAnswers n bits [] [] = Unit {0}
RightAnswers n bits [] (g ∷ gs) = ⊥
RightAnswers n bits (q ∷ qs) [] = ⊥
RightAnswers n bits (q ∷ qs) (g ∷ gs) = RightAnswer n bits q g × RightAnswers n bits qs gs
