-- Steps on a matrix, entry by entry: rows and columns negated; entries made anew where a mask says so, and the masks and the formulas of the
-- eliminations. A local map has a file of its own. Assumes nothing. A public promise rests on this.
use Rattle.std.specs.Prelude.{Bool, cond, ◌&&◌, ℕ, ◌+◌, eqb, leb, ltb, Float}
use Rattle.laws.specs.Zeros.{sg}
use Rattle.laws.specs.Matrix.{Mat}

-- the rows and the columns that b marks are negated: an entry once for its row and once for its column
abbrev pub negated : (ℕ → Bool) → Mat → Mat
negated b f r c = sg (b r) (sg (b c) (f r c))

-- ---- masks

-- which entries are meant, by row and column
abbrev pub Mask : Type 0
Mask = ℕ → ℕ → Bool

-- new in the mask, old elsewhere
unfoldable pub masked : Mask → Mat → Mat → Mat
masked p new old r c = cond (p r c) (new r c) (old r c)

-- the mask's part in row i
abbrev pub in_row : ℕ → Mask → Mask
in_row i p r c = eqb r i && p r c

-- the rows from s on
abbrev pub rows_from : ℕ → Mask
rows_from s r c = leb s r

-- the columns from s on
abbrev pub cols_from : ℕ → Mask
cols_from s r c = leb s c

-- the rows and the columns from s on
abbrev pub corner_from : ℕ → Mask
corner_from s r c = leb s r && leb s c

-- right of the diagonal, the rows from s on
abbrev pub right_from : ℕ → Mask
right_from s r c = leb s r && ltb r c

-- ---- what is put there

-- a formula of an entry and four others
abbrev pub Formula : Type 0
Formula = Float → Float → Float → Float → Float → Float

-- entry (r, c), made by g from itself and from what the rows k and k + 1 have in the columns r and c
abbrev pub by_pair : ℕ → Formula → Mat → Mat
by_pair k g f r c = g (f r c) (f k r) (f k c) (f (k + 1) r) (f (k + 1) c)
