-- A map is applied to the state: it "first settles d on its own rows, then works on rows and columns", and "if the determinant is below zero, d turns
-- for all later modes". Every step is a closed form of the map's width. Definitions only. A public promise rests on this.
use Rattle.std.specs.Prelude.{Bool, cond, ◌&&◌, ℕ, ◌+◌, leb, Float}
use Rattle.std.specs.Float.Ieee.{neg, lt}
use Rattle.laws.specs.Zeros.{+0, +1}
use Rattle.laws.specs.Matrix.{Mat}
use Rattle.laws.specs.Maps.{Local, inside, rows, cols}
use Rattle.laws.specs.Steps.{negated}
use Rattle.local.specs.State.{State}

-- the index i is of a later mode than the map's
abbrev pub later : Local → ℕ → Bool
later o i = leb (o.start + o.width) i

-- the index i is one of the map's, and its sign is below zero
abbrev pub unsettled : Local → (ℕ → Float) → ℕ → Bool
unsettled o d i = inside o i && lt (d i) +0

-- "settles d on its own rows": m takes these signs over, row by row and column by column,
abbrev pub settled : Local → State → Mat
settled o t = negated (unsettled o t.d) t.m

-- and they are 1.0
abbrev pub calm : Local → (ℕ → Float) → ℕ → Float
calm o d i = cond (unsettled o d i) +1 (d i)

-- the whole: settled, then the rows, then the columns; and the turn of d, where `odd` says so, for all later indices
abbrev pub step : (Local → Bool) → Local → State → State
step odd o t = record {
  m = cols o (rows o (settled o t));
  d = λ i. cond (odd o && later o i) (neg (calm o t.d i)) (calm o t.d i);
}
