-- The Pfaffian (001, `pfaffian`) of a matrix given by its entries: elimination by pairs of rows, with a pivot. "The Pfaffian's answer becomes a value
-- with its float, or a stop with the row (from 0, in the matrix as swapped by then) where the pivot search ended at zero" (document 02): the code's own enum.
-- Only entries of rows and columns from k on are read at pair k, k + 1. Assumes nothing. A public promise rests on this.
use Rattle.std.specs.Prelude.{true, false, cond, ℕ, zero, suc, ◌-◌, ◌/◌, ◌%◌, eqb, Float}
use Rattle.std.specs.Float.{binary64}
use Rattle.std.specs.Float.Ieee.{add, mul, div, neg, lt, eq}
use Rattle.laws.specs.Zeros.{+0, +1}
use Rattle.laws.specs.Tables.{exchanged}
use Rattle.laws.specs.Matrix.{Mat}
use Rattle.num.specs.Order.{abs_of}
use Rattle.pfaffian.specs.declared.pairs.End.{End}
use Rattle.pfaffian.specs.declared.pairs.End.TheVariants.{Value, Stopped}

-- the first largest |row j|, for n columns from j on, after `best` in column `piv`. Only a larger one takes its place; a NaN never is, and none is
-- larger than a NaN
unfoldable pub search : (ℕ → Float) → ℕ → ℕ → Float → ℕ → Float × ℕ
search row zero j best piv = (best, piv)
search row (suc n) j best piv =
    elim (lt best (abs_of (row j))) [ true ↦ search row n (suc j) (abs_of (row j)) j | false ↦ search row n (suc j) best piv ]

-- `piv` with `best`: the pivot of row k, by its absolute value and its column, from k + 1 on
abbrev pub pivot_of : (ℕ → Float) → ℕ → ℕ → Float × ℕ
pivot_of row k dim = search row (dim - suc (suc k)) (suc (suc k)) (abs_of (row (suc k))) (suc k)

-- the rows p and q change places, then the columns
abbrev pub pivoted : ℕ → ℕ → Mat → Mat
pivoted p q a = cond (eqb p q) a (λ i j. a (exchanged p q i) (exchanged p q j))

-- the elimination by the rows k and k + 1: a[i][j] += -ti * a[k + 1][j] + tj * a[k + 1][i], where ti = a[k][i] / akk
abbrev pub less : ℕ → Mat → Mat
less k a i j =
    let akk = a k (suc k) in
    add binary64 (a i j)
    (add binary64 (mul binary64 (neg (div binary64 (a k i) akk)) (a (suc k) j)) (mul binary64 (div binary64 (a k j) akk) (a (suc k) i)))

-- p pairs from k on, with `acc` so far: it turns with an exchange, and takes the pivot as a factor. Where the search in row k ended at zero, row k is where
-- it stops
unfoldable pub ended : Mat → ℕ → ℕ → ℕ → Float → End
ended a zero k dim acc = Value acc
ended a (suc p) k dim acc =
    let s = pivot_of (a k) k dim in
    let b = pivoted s.1 (suc k) a in
    let r = ended (less k b) p (suc (suc k)) dim (mul binary64 (cond (eqb s.1 (suc k)) acc (neg acc)) (b k (suc k))) in
    cond (eq s.0 +0) (Stopped k) r

-- "An odd dimension stops at row 0."
unfoldable pub pfaffian_of : ℕ → Mat → End
pfaffian_of dim a = cond (eqb (dim % 2) 1) (Stopped 0) (ended a (dim / 2) 0 dim +1)
