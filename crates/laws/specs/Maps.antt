-- A local linear map on some rows of a matrix and on the same columns, entry by entry, over its width; and the turns of the loops that make it.
-- Sums start at 0.0 and go from left to right. Assumes nothing. A public promise rests on this.
use Rattle.std.specs.Prelude.{Bool, cond, ◌&&◌, List, ℕ, zero, suc, ◌+◌, ◌*◌, ◌-◌, leb, ltb, get_or, Float}
use Rattle.std.specs.Float.{nan, binary64}
use Rattle.std.specs.Float.Ieee.{add, mul}
use Rattle.laws.specs.Views.{list_of}
use Rattle.laws.specs.Slices.{on_part}
use Rattle.laws.specs.Zeros.{+0}
use Rattle.laws.specs.Matrix.{Mat, at, put_column}

-- a map of `width` indices, from `start` on: `map i j` is its entry in row i and column j
pub record Local : Type 0 where
  pub start : ℕ
  pub width : ℕ
  pub map : Mat

-- i is one of the map's indices
abbrev pub inside : Local → ℕ → Bool
inside o i = leb o.start i && ltb i (o.start + o.width)

-- q 0 * v 0 + .. + q (k - 1) * v (k - 1)
unfoldable pub dot : (ℕ → Float) → (ℕ → Float) → ℕ → Float
dot q v zero = +0
dot q v (suc k) = add binary64 (dot q v k) (mul binary64 (q k) (v k))

-- the vector v under the k by k map q: its entry i
abbrev pub under : ℕ → Mat → (ℕ → Float) → ℕ → Float
under k q v i = dot (q i) v k

-- in each column the entries in the map's rows are put under the map
abbrev pub rows : Local → Mat → Mat
rows o m r c = cond (inside o r) (under o.width o.map (λ j. m (o.start + j) c) (r - o.start)) (m r c)

-- in each row the entries in the map's columns are put under the map
abbrev pub cols : Local → Mat → Mat
cols o m r c = cond (inside o c) (under o.width o.map (λ j. m r (o.start + j)) (c - o.start)) (m r c)

-- ---- a turn of each loop

-- column c: the entries in the map's rows are read, and then stored one by one
abbrev pub column_turn : Local → ℕ → ℕ → List Float → List Float
column_turn o dim c m = put_column o.width dim o.start c (under o.width o.map (λ j. at dim m (o.start + j) c)) m

-- a row's part of k places, lent on, under the map q
unfoldable pub rotated : ℕ → Mat → List Float → List Float
rotated k q v = list_of k (under k q (λ j. get_or v j nan))

-- row r: the entries in the map's columns are one part of the list
abbrev pub row_turn : Local → ℕ → ℕ → List Float → List Float
row_turn o dim r m = on_part (r * dim + o.start) o.width (rotated o.width o.map) m

-- the columns k and k + 1, then the rows k and k + 1
abbrev pub pair_turn : Local → ℕ → ℕ → List Float → List Float
pair_turn o dim k m = row_turn o dim (k + 1) (row_turn o dim k (column_turn o dim (k + 1) (column_turn o dim k m)))
