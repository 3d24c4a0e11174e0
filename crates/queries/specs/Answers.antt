-- The answers of products and marginals, which "pass the row on beside their unchanged number" (document 02): those of any call on a state, and the row.
-- Definitions only. A public promise rests on this.
use Rattle.std.specs.Prelude.{Some, None, ℕ, Result, Ok, Err, Float}
use Rattle.laws.specs.Zeros.{+0}
use Rattle.pfaffian.specs.declared.pairs.End.{End}
use Rattle.pfaffian.specs.declared.pairs.End.TheVariants.{Value, Stopped}
use Rattle.state.specs.Answers.{Told, accepted, refusal}
use Rattle.state.specs.declared.answer.Refusal.{Refusal}
use Rattle.queries.specs.declared.number.Number as beside
use Rattle.queries.specs.declared.number.Answered as struct

-- a number, and the row in which its Pfaffian stopped, if it did: the code's own struct
abbrev pub Number : Type 0
Number = beside.Number

-- without one: a value of the Pfaffian; and a contradiction's 0.0, "with no row"
abbrev pub rowless : Float → Number
rowless x = record { value = x; row = None }

-- of a stop
abbrev pub stopped : ℕ → Number
stopped k = record { value = +0; row = Some k }

-- the Pfaffian's answer taken apart: f of its value; or the row of its stop, and 0.0
abbrev pub taken_apart : (Float → Float) → End → Number
taken_apart f (Value x) = rowless (f x)
taken_apart f (Stopped k) = stopped k

-- an answer, and that row: the code's own struct
abbrev pub Answered : Type 0
Answered = struct.Answered

-- of what is told without a Pfaffian: a refusal, a contradiction
abbrev pub without_row : Told → Answered
without_row t = record { told = t; row = None }

-- of a number that is given
abbrev pub given : Number → Answered
given x = record { told = accepted x.value; row = x.row }

unfoldable pub answered : Result Number Refusal → Answered
answered (Ok x) = given x
answered (Err why) = without_row (refusal why)
