-- A square matrix in lent entries as one value: what a function makes of it. Assumes nothing. Only inner functions rest on this.
use Rattle.std.specs.Prelude.{◌≡◌, List, Float}
use Rattle.laws.specs.Matrix.{Mat, at}
use Rattle.real.specs.declared.entries.Square.{Square}

-- its entries by row and column
abbrev pub cells : Square → Mat
cells m = at m.dim m.entries.now

-- m' is m still: it has the same lent entries, and as many rows
pub record Same (m m' : Square) : Type 0 where
  pub lent : m'.entries.ghost_name ≡ m.entries.ghost_name
  pub dim : m'.dim ≡ m.dim

-- m' is m still, and holds the list xs
pub record Becomes (m m' : Square) (xs : List Float) : Type 0 where
  pub same : Same m m'
  pub now : m'.entries.now ≡ xs
