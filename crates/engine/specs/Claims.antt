-- What the claims of `jozkeral_run` speak of: what its caller has in hand, the number returned and the slices; and its register claim. Definitions only.
-- A public promise rests on this.
use Rattle.std.specs.Prelude.{◌≡◌, Bool, true, List, ℕ, ◌*◌, length, get_or, drop, Float}
use Rattle.laws.specs.Bounds.{max_qubits}
use Rattle.claim.specs.Queries.{answer}
use Rattle.gaussian.specs.Claim.{Left, AnswersRight, MustAccept}

-- word 0 of the report is n, and the mode table is the third of `tables`
abbrev pub left_in : ℕ → List ℕ → List ℕ → List Float → Left
left_in r report tables state = record { number = r; n = get_or report 0 0; modes = drop (2 * max_qubits) tables; state = state }

-- word 8 is the number of operations
abbrev pub operations_in : List ℕ → ℕ
operations_in report = get_or report 8 0

-- if the call returned 0, every query put to the caller's own n, mode table and state is right; where there is room for the report, plain register tapes
-- are accepted
pub record CallClaim (t : List ℕ) (work : List Float) (marks : List ℕ) (ops state : List Float) (room : Bool) (x : Left) : Type 0 where
  pub right : AnswersRight answer t x
  pub accepts : room ≡ true → MustAccept t (length work) (length marks) (length ops) (length state) x
