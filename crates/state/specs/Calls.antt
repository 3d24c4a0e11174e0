-- What `apply` answers, by its questions in order, and what it leaves in the state slice. Definitions only. A public promise rests on this.
use Rattle.std.specs.Prelude.{ℕ, cond, List, Option, Some, None, Float}
use Rattle.laws.specs.Lists.{in_order}
use Rattle.laws.specs.Zeros.{+0}
use Rattle.state.specs.Operation.{decode_of, applied}
use Rattle.state.specs.Questions.{state_ok}
use Rattle.state.specs.Answers.{Told, accepted, refused}
use Rattle.state.specs.declared.operation.Operation.{Operation}

-- ---- apply: questions 16 and 17

unfoldable pub decoded_answer : Option Operation → Told
decoded_answer (Some o) = accepted +0
decoded_answer None = refused 17 0

-- a refusal changes nothing
unfoldable pub decoded_state : ℕ → List Float → Option Operation → List Float
decoded_state n s (Some o) = applied n o s
decoded_state n s None = s

unfoldable pub apply_answer : ℕ → List Float → List ℕ → List Float → Told
apply_answer n s modes op = cond (state_ok n s modes) (decoded_answer (decode_of n op)) (refused 16 0)

unfoldable pub apply_state : ℕ → List Float → List ℕ → List Float → List Float
apply_state n s modes op = cond (state_ok n s modes) (decoded_state n s (decode_of n op)) s

-- the state slice after a call for each of the operations' slices
abbrev pub called : ℕ → List ℕ → List (List Float) → List Float → List Float
called n modes ops s = in_order (λ op s. apply_state n s modes op) ops s
