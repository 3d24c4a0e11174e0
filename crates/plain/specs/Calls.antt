-- What the plain engine's `apply` answers, and what it leaves in its matrix: 17 is asked as by the engine's. Definitions only.
-- A public promise rests on this.
use Rattle.std.specs.Prelude.{ℕ, ◌*◌, Bool, cond, ◌&&◌, List, length, Option, Some, None, nat_le, Float}
use Rattle.laws.specs.Bounds.{max_qubits}
use Rattle.laws.specs.Matrix.{at, matrix}
use Rattle.state.specs.Bounds.{dim_of}
use Rattle.state.specs.Operation.{decode_of}
use Rattle.state.specs.Calls.{decoded_answer}
use Rattle.state.specs.Answers.{Told, refused}
use Rattle.state.specs.declared.operation.Operation.{Operation}
use Rattle.plain.specs.Plain.{plain}

-- in place of question 16, and told by its number: is n at most 128, and has the slice the matrix's places? There is no mode table
unfoldable pub matrix_ok : ℕ → List Float → Bool
matrix_ok n s = nat_le n max_qubits && nat_le (dim_of n * dim_of n) (length s)

unfoldable pub plain_answer : ℕ → List Float → List Float → Told
plain_answer n s op = cond (matrix_ok n s) (decoded_answer (decode_of n op)) (refused 16 0)

-- a refusal changes nothing
unfoldable pub decoded_matrix : ℕ → List Float → Option Operation → List Float
decoded_matrix n s (Some o) = matrix (dim_of n) (plain o (at (dim_of n) s)) s
decoded_matrix n s None = s

unfoldable pub plain_matrix : ℕ → List Float → List Float → List Float
plain_matrix n s op = cond (matrix_ok n s) (decoded_matrix n s (decode_of n op)) s
