-- The determinant of a map, as 001 has it: a 2 by 2 by its formula, a larger one by elimination with the last largest pivot. What the engine asks of
-- it is one thing, `odd`: is it below zero? Definitions only. A public promise rests on this.
use Rattle.std.specs.Prelude.{Bool, cond, ◌||◌, List, [], ◌∷◌, ℕ, zero, suc, eqb, Float}
use Rattle.std.specs.Float.{nan, binary64}
use Rattle.std.specs.Float.Ieee.{sub, mul, div, neg, lt, le, eq, is_nan}
use Rattle.laws.specs.Lists.{pivot_row, other_rows}
use Rattle.laws.specs.Views.{list_of}
use Rattle.laws.specs.Zeros.{+0, +1}
use Rattle.laws.specs.Matrix.{Mat}
use Rattle.laws.specs.Maps.{Local}
use Rattle.num.specs.Order.{abs_of}
use Rattle.local.specs.declared.det.Best.{Best}

-- what is left of a row: its entries from the pivot's column on
abbrev pub Line : Type 0
Line = List Float

abbrev pub head_of : Line → Float
head_of [] = nan
head_of (x ∷ xs) = x

abbrev pub tail_of : Line → Line
tail_of [] = []
tail_of (x ∷ xs) = xs

-- ---- the pivot: the last row with the largest head, by absolute value, in the total order that has a NaN above all numbers

-- x is not below y in that order
abbrev pub not_below : Float → Float → Bool
not_below x y = is_nan x || le (abs_of y) (abs_of x)

-- row i, with head x, after the best so far
unfoldable pub better_of : Best → ℕ → Float → Best
better_of b i x = cond (not_below x b.head) (record { row = i; head = x }) b

-- the rows from i on are still to be seen
unfoldable pub last_largest : List Line → ℕ → Best → ℕ
last_largest [] i b = b.row
last_largest (r ∷ rs) i b = last_largest rs (suc i) (better_of b i (head_of r))

-- ---- the elimination

-- xs - f * ys
unfoldable pub less : Float → Line → Line → Line
less f [] ys = []
less f (x ∷ xs) [] = []
less f (x ∷ xs) (y ∷ ys) = sub binary64 x (mul binary64 f y) ∷ less f xs ys

-- row r less its part of the pivot row q, one column shorter: the column of the pivot is not read again
abbrev pub lowered : Line → Line → Line
lowered q r = less (div binary64 (head_of r) (head_of q)) (tail_of r) (tail_of q)

unfoldable pub lowered_all : Line → List Line → List Line
lowered_all q [] = []
lowered_all q (r ∷ rs) = lowered q r ∷ lowered_all q rs

-- n pivots more, with d so far. A pivot that is zero ends it with 0.0; an exchange of rows turns the sign
unfoldable pub eliminated : ℕ → List Line → Float → Float
eliminated zero rows d = d
eliminated (suc n) [] d = d
eliminated (suc n) (r ∷ rs) d =
    let p = last_largest rs 1 (record { row = 0; head = head_of r }) in
    let q = pivot_row p r rs in
    cond (eq (head_of q) +0) +0 (eliminated n (lowered_all q (other_rows p r rs)) (mul binary64 (cond (eqb p 0) d (neg d)) (head_of q)))

-- the same from the pivot row q on, with d turned already
abbrev pub pivoted : ℕ → Line → List Line → Float → Float
pivoted n q rows d = cond (eq (head_of q) +0) +0 (eliminated n (lowered_all q rows) (mul binary64 d (head_of q)))

-- ---- the determinant

-- the rows of a k by k map
abbrev pub lines : ℕ → Mat → List Line
lines k q = list_of k (λ i. list_of k (q i))

-- 001's `det`
unfoldable pub det : ℕ → Mat → Float
det k q =
    cond (eqb k 2) (sub binary64 (mul binary64 (q 0 0) (q 1 1)) (mul binary64 (q 0 1) (q 1 0)))
    (eliminated k (lines k q) +1)

-- "the determinant is below zero"
unfoldable pub odd : Local → Bool
odd o = lt (det o.width o.map) +0
