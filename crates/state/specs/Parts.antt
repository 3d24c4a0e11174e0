-- What the inner functions ask and give: a slice that holds a state, an operation's first places, marks of modes, the vacuum's pairs. Definitions only.
-- Only inner functions rest on this.
use Rattle.std.specs.Prelude.{◌≡◌, ℕ, ◌+◌, ◌%◌, ◌<◌, ◌≤◌, Bool, false, cond, not, ◌&&◌, List, length, ◌==◌, slice_index_or, Float}
use Rattle.std.specs.Float.Ieee.{neg}
use Rattle.laws.specs.Bounds.{op_places}
use Rattle.laws.specs.Zeros.{+1}
use Rattle.laws.specs.Matrix.{Mat}
use Rattle.local.specs.Bounds.{state_places}
use Rattle.state.specs.Bounds.{dim_of}
use Rattle.state.specs.Modes.{unused}
use Rattle.state.specs.Operation.{place_of}

-- ---- what they ask

-- the slice holds a state with dim rows, of which r and c are two
pub record HasEntry (s : List Float) (dim r c : ℕ) : Type 0 where
  pub room : state_places dim ≤ length s
  pub row : r < dim
  pub col : c < dim

-- the slice holds the state of n qubits
pub record HasState (s : List Float) (n : ℕ) : Type 0 where
  pub room : state_places (dim_of n) ≤ length s

-- the places of an operation, of which kind and mode are the first two
pub record HasHead (s : List Float) (kind mode : Float) : Type 0 where
  pub room : op_places ≤ length s
  pub first : kind ≡ place_of s 0
  pub second : mode ≡ place_of s 1

-- there are n marks, and none is set
pub record NoMarks (seen : List Bool) (n : ℕ) : Type 0 where
  pub long : n ≤ length seen
  pub clear : (k : ℕ) → slice_index_or seen k false ≡ false

-- mode k is marked exactly if a qubit before q has it
abbrev pub Marked : List ℕ → ℕ → List Bool → Type 0
Marked l q seen = (k : ℕ) → k < length seen → slice_index_or seen k false ≡ not (unused l q k)

-- ---- the vacuum's pairs

-- 1.0 and -1.0 beside the diagonal, f elsewhere
abbrev pub pair_up_of : Mat → Mat
pair_up_of f r c = cond (r % 2 == 0 && c == r + 1) +1 (cond (c % 2 == 0 && r == c + 1) (neg +1) (f r c))
