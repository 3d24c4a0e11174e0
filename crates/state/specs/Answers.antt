-- The answers of the state calls: for every case of the code's enums the scope's number, its place, and the value. "A refusal's numbers are zero."
-- No two answers are told alike (proofs/Apart.antt). Definitions only. A public promise rests on this.
use Rattle.std.specs.Prelude.{ℕ, ⊤, Result, Ok, Err, Float}
use Rattle.laws.specs.Zeros.{+0}
use Rattle.state.specs.declared.answer.Refusal.{Refusal}
use Rattle.state.specs.declared.answer.Refusal.TheVariants.{BadState, BadOperation, BadBits, BadQubit, SmallWork, BadShots, BadDraw}
use Rattle.state.specs.declared.told.Told as struct

-- the question whose answer is no, 0 if there is none; the place; the number asked for: the code's own struct
abbrev pub Told : Type 0
Told = struct.Told

abbrev pub accepted : Float → Told
accepted x = record { number = 0; place = 0; value = x }

abbrev pub refused : ℕ → ℕ → Told
refused number place = record { number = number; place = place; value = +0 }

-- "place is .. the list index for 19 and 22, else 0"
unfoldable pub refusal : Refusal → Told
refusal BadState = refused 16 0
refusal BadOperation = refused 17 0
refusal BadBits = refused 18 0
refusal (BadQubit place) = refused 19 place
refusal SmallWork = refused 20 0
refusal BadShots = refused 21 0
refusal (BadDraw place) = refused 22 place

-- of a call that gives no number
unfoldable pub done : Result ⊤ Refusal → Told
done (Ok _) = accepted +0
done (Err why) = refusal why

-- of a query
unfoldable pub told : Result Float Refusal → Told
told (Ok x) = accepted x
told (Err why) = refusal why
