-- The plain engine (document 02), which "turns the signs of all later rows and columns immediately at each negative determinant". It holds the covariance
-- alone: no sign is postponed, so there is none to settle. Definitions only. A public promise rests on this.
use Rattle.std.specs.Prelude.{cond, ℕ, ◌+◌, ◌*◌, leb}
use Rattle.laws.specs.Matrix.{Mat}
use Rattle.laws.specs.Maps.{Local, rows, cols}
use Rattle.laws.specs.Steps.{negated}
use Rattle.real.specs.Maps.{local2, local4}
use Rattle.local.specs.Det.{odd}
use Rattle.state.specs.declared.operation.Operation.{Operation}
use Rattle.state.specs.declared.operation.Operation.TheVariants.{One, Two, Interaction}

-- the signs of all rows and columns from s on are turned
abbrev pub turned_from : ℕ → Mat → Mat
turned_from s = negated (λ i. leb s i)

-- the rows, then the columns under the map o; and "immediately", at a "negative determinant", the turn of those from s on
abbrev pub plain_step : Local → ℕ → Mat → Mat
plain_step o s p = let x = cols o (rows o p) in cond (odd o) (turned_from s x) x

-- an operation on one mode, or on it and the next: those from the first mode after them on are the later
unfoldable pub plain : Operation → Mat → Mat
plain (One mode q) p = plain_step (local2 (2 * mode) q) (2 * (mode + 1)) p
plain (Two mode q) p = plain_step (local4 (2 * mode) q) (2 * (mode + 2)) p
plain (Interaction mode block second unit) p = p
