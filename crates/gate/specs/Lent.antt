-- Matrices in a slice of floats: row by row, real before imaginary. A 2 by 2 is one row of eight floats, a 4 by 4 four of them.
-- Only inner functions rest on this.
use Rattle.std.specs.Prelude.{List, [], ◌∷◌, ℕ, ◌+◌, get_or, Float}
use Rattle.std.specs.Float.{nan}
use Rattle.laws.specs.Slices.{put_row}
use Rattle.gate.specs.Complex.{cx}
use Rattle.gate.specs.Matrix.{mat2, row4, mat4}
use Rattle.gate.specs.declared.matrix.Row4.{Row4}
use Rattle.gate.specs.declared.matrix.Mat2.{Mat2}
use Rattle.gate.specs.declared.matrix.Mat4.{Mat4}

-- ---- read

-- the complex numbers in the eight floats from p on
unfoldable pub row_at : List Float → ℕ → Row4
row_at l p =
    row4 (cx (get_or l p nan) (get_or l (p + 1) nan)) (cx (get_or l (p + 2) nan) (get_or l (p + 3) nan)) (cx (get_or l (p + 4) nan) (get_or l (p + 5) nan)) (cx (get_or l (p + 6) nan) (get_or l (p + 7) nan))

-- a row of eight floats as a 2 by 2, and back
abbrev pub folded : Row4 → Mat2
folded r = mat2 r.c0 r.c1 r.c2 r.c3

abbrev pub flat : Mat2 → Row4
flat m = row4 m.r0.c0 m.r0.c1 m.r1.c0 m.r1.c1

abbrev pub mat2_at : List Float → ℕ → Mat2
mat2_at l p = folded (row_at l p)

unfoldable pub mat4_at : List Float → ℕ → Mat4
mat4_at l p = mat4 (row_at l p) (row_at l (p + 8)) (row_at l (p + 16)) (row_at l (p + 24))

-- ---- written

-- the eight floats of a row
abbrev pub floats : Row4 → ℕ → Float
floats r i = get_or (r.c0.re ∷ r.c0.im ∷ r.c1.re ∷ r.c1.im ∷ r.c2.re ∷ r.c2.im ∷ r.c3.re ∷ r.c3.im ∷ []) i nan

unfoldable pub store_row_of : List Float → ℕ → Row4 → List Float
store_row_of l p r = put_row 8 p (floats r) l

abbrev pub store2_of : List Float → ℕ → Mat2 → List Float
store2_of l p m = store_row_of l p (flat m)

unfoldable pub store4_of : List Float → ℕ → Mat4 → List Float
store4_of l p m = store_row_of (store_row_of (store_row_of (store_row_of l p m.r0) (p + 8) m.r1) (p + 16) m.r2) (p + 24) m.r3
