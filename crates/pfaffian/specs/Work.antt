-- What a kernel leaves of the slice that it is lent: its matrix is work, and anything else is as it was. Assumes nothing.
-- Only inner functions rest on this.
use Rattle.std.specs.Prelude.{List, ℕ, Float}
use Rattle.laws.specs.Matrix.{at, Is}
use Rattle.real.specs.declared.entries.Square.{Square}
use Rattle.real.specs.Squares.{Same}

-- m is m₀ but for its matrix: of the same length, and with the same values after it
abbrev pub Kept : ℕ → List Float → List Float → Type 0
Kept dim m₀ m = Is dim m₀ (at dim m) m

-- the same of a matrix as one value
pub record Works (m m' : Square) : Type 0 where
  pub same : Same m m'
  pub kept : Kept m.dim m.entries.now m'.entries.now
