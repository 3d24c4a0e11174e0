-- A square matrix that a list of floats holds by rows, in its first dim * dim places.
-- What a contract says is `matrix`; what a proof works with is `Is`. Assumes nothing. A public promise rests on this.
use Rattle.std.specs.Prelude.{◌≡◌, cond, List, ℕ, ◌+◌, ◌*◌, ◌/◌, ◌%◌, ◌≤◌, ◌<◌, ltb, get_or, length, Float}
use Rattle.std.specs.Float.{nan}
use Rattle.laws.specs.Views.{list_of}
use Rattle.laws.specs.Slices.{stores}

-- the entries, by row and column
abbrev pub Mat : Type 0
Mat = ℕ → ℕ → Float

-- the entry in row r and column c
abbrev pub at : ℕ → List Float → Mat
at dim m r c = get_or m (r * dim + c) nan

-- k entries stored in column c, from row s on
abbrev pub put_column : ℕ → ℕ → ℕ → ℕ → (ℕ → Float) → List Float → List Float
put_column k dim s c v m = stores k (λ i. (s + i) * dim + c) v m

-- the list m with its matrix made anew: f r c in row r and column c. What lies after the matrix keeps its value
unfoldable pub matrix : ℕ → Mat → List Float → List Float
matrix dim f m = list_of (length m) (λ i. cond (ltb i (dim * dim)) (f (i / dim) (i % dim)) (get_or m i nan))

-- the same, entry by entry: m is m₀ with f for its matrix
pub record Is (dim : ℕ) (m₀ : List Float) (f : Mat) (m : List Float) : Type 0 where
  pub long : length m ≡ length m₀
  pub each : (r c : ℕ) → r < dim → c < dim → at dim m r c ≡ f r c
  pub after : (i : ℕ) → dim * dim ≤ i → get_or m i nan ≡ get_or m₀ i nan

-- ---- what a function asks of a slice

-- row r and column c are those of an entry
pub record Inside (m : List Float) (dim r c : ℕ) : Type 0 where
  pub room : dim * dim ≤ length m
  pub row : r < dim
  pub col : c < dim

-- the k indices from s on are rows and columns
pub record Holds (m : List Float) (dim s k : ℕ) : Type 0 where
  pub room : dim * dim ≤ length m
  pub band : s + k ≤ dim
