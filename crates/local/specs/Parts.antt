-- What the inner functions ask and give: rows of three and two numbers in the determinant, one index settled, a column read as a struct.
-- Definitions only. Only inner functions rest on this.
use Rattle.std.specs.Prelude.{◌≡◌, Bool, cond, ◌&&◌, List, [], ◌∷◌, ℕ, ◌+◌, ◌*◌, eqb, get_or, set, Float}
use Rattle.std.specs.List.{list_any}
use Rattle.std.specs.Float.{nan}
use Rattle.std.specs.Float.Ieee.{neg, lt}
use Rattle.laws.specs.Zeros.{+0, +1, sg}
use Rattle.laws.specs.Matrix.{Mat, at, matrix}
use Rattle.laws.specs.Maps.{Local, dot}
use Rattle.real.specs.Maps.{row2, row4}
use Rattle.real.specs.declared.maps.Real2.{Real2}
use Rattle.real.specs.declared.maps.Map2.{Map2}
use Rattle.real.specs.declared.maps.Real4.{Real4}
use Rattle.real.specs.declared.maps.Map4.{Map4}
use Rattle.local.specs.State.{State}
use Rattle.local.specs.Apply.{unsettled, settled, calm}
use Rattle.local.specs.Det.{Line}
use Rattle.local.specs.declared.det.Real3.{Real3}
use Rattle.local.specs.declared.signs.Below.{Below}

-- ---- what they ask

-- which of the four signs from start on are below zero
pub record Below4 (s : List Float) (dim start : ℕ) (b : Below) : Type 0 where
  pub first : b.x0 ≡ lt (get_or s (dim * dim + start) nan) +0
  pub second : b.x1 ≡ lt (get_or s (dim * dim + (start + 1)) nan) +0
  pub third : b.x2 ≡ lt (get_or s (dim * dim + (start + 2)) nan) +0
  pub fourth : b.x3 ≡ lt (get_or s (dim * dim + (start + 3)) nan) +0

-- one of the signs is below zero
abbrev pub any_below : List Float → Bool
any_below = list_any (λ x. lt x +0)

-- ---- lines of the determinant

abbrev pub line2 : Real2 → Line
line2 v = v.x0 ∷ v.x1 ∷ []

abbrev pub line3 : Real3 → Line
line3 v = v.x0 ∷ v.x1 ∷ v.x2 ∷ []

abbrev pub line4 : Real4 → Line
line4 v = v.x0 ∷ v.x1 ∷ v.x2 ∷ v.x3 ∷ []

-- ---- columns

abbrev pub under2 : Map2 → Real2 → Real2
under2 q v = record { x0 = dot (row2 q.r0) (row2 v) 2; x1 = dot (row2 q.r1) (row2 v) 2 }

abbrev pub under4 : Map4 → Real4 → Real4
under4 q v = record {
  x0 = dot (row4 q.r0) (row4 v) 4;
  x1 = dot (row4 q.r1) (row4 v) 4;
  x2 = dot (row4 q.r2) (row4 v) 4;
  x3 = dot (row4 q.r3) (row4 v) 4;
}

-- the entries of column c from row s on
abbrev pub column2_of : ℕ → List Float → ℕ → ℕ → Real2
column2_of dim m s c = record { x0 = at dim m s c; x1 = at dim m (s + 1) c }

abbrev pub column4_of : ℕ → List Float → ℕ → ℕ → Real4
column4_of dim m s c = record { x0 = at dim m s c; x1 = at dim m (s + 1) c; x2 = at dim m (s + 2) c; x3 = at dim m (s + 3) c }

-- ---- signs settled

-- the k indices from s on. No entry of this map is read
abbrev pub band : ℕ → ℕ → Local
band s k = record { start = s; width = k; map = λ i j. +0 }

-- the state whose signs are settled on a map's own rows
abbrev pub settled_state : Local → State → State
settled_state o t = record { m = settled o t; d = calm o t.d }

-- the same by rows and by columns alone
abbrev pub rows_settled : Local → State → State
rows_settled o t = record { m = λ r c. sg (unsettled o t.d r) (t.m r c); d = calm o t.d }

abbrev pub columns_settled : Local → State → Mat
columns_settled o t r c = sg (unsettled o t.d c) (t.m r c)

-- one row of it
abbrev pub part_settled : Local → ℕ → State → Mat
part_settled o i t r c = sg (eqb r i && unsettled o t.d c) (t.m r c)

-- row i negated
abbrev pub row_negated : ℕ → Mat → Mat
row_negated i f r c = sg (eqb r i) (f r c)

-- where the sign of i is below zero, row i is negated and the sign is 1.0
unfoldable pub settled_row : ℕ → ℕ → List Float → List Float
settled_row dim i s =
    cond (lt (get_or s (dim * dim + i) nan) +0)
    (set (matrix dim (row_negated i (at dim s)) s) (dim * dim + i) +1)
    s

-- where the sign of column i is below zero, its entry in row r is negated
unfoldable pub settled_entry : ℕ → ℕ → ℕ → List Float → List Float
settled_entry dim r i s = cond (lt (get_or s (dim * dim + i) nan) +0) (set s (r * dim + i) (neg (at dim s r i))) s
