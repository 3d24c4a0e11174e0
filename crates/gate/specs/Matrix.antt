-- 2 by 2 and 4 by 4 matrices of complex numbers, by rows, and the products of the original: the same operations in the same order.
-- The index of a row or column of a gate on two qubits (a, b) is 2 * bit(a) + bit(b): the first qubit is the high index bit.
-- A public promise rests on this.
use Rattle.std.specs.Prelude.{cond, List, [], ◌∷◌}
use Rattle.gate.specs.Complex.{◌+ℂ◌, ◌*ℂ◌, conj_of, is_zero_of, c0, c1}
use Rattle.gate.specs.declared.complex.Complex.{Complex}
use Rattle.gate.specs.declared.matrix.Row2.{Row2}
use Rattle.gate.specs.declared.matrix.Mat2.{Mat2}
use Rattle.gate.specs.declared.matrix.Row4.{Row4}
use Rattle.gate.specs.declared.matrix.Mat4.{Mat4}

-- the matrix with these entries, row by row
abbrev pub mat2 : Complex → Complex → Complex → Complex → Mat2
mat2 a b c d = record { r0 = record { c0 = a; c1 = b }; r1 = record { c0 = c; c1 = d } }

abbrev pub row4 : Complex → Complex → Complex → Complex → Row4
row4 a b c d = record { c0 = a; c1 = b; c2 = c; c3 = d }

abbrev pub mat4 : Row4 → Row4 → Row4 → Row4 → Mat4
mat4 a b c d = record { r0 = a; r1 = b; r2 = c; r3 = d }

-- ---- 2 by 2

-- a row times the column (x, y)
unfoldable pub dot2_of : Row2 → Complex → Complex → Complex
dot2_of r x y = r.c0 *ℂ x +ℂ r.c1 *ℂ y

unfoldable pub mul2_of : Mat2 → Mat2 → Mat2
mul2_of a b =
    mat2 (dot2_of a.r0 b.r0.c0 b.r1.c0) (dot2_of a.r0 b.r0.c1 b.r1.c1)
    (dot2_of a.r1 b.r0.c0 b.r1.c0) (dot2_of a.r1 b.r0.c1 b.r1.c1)

-- the adjoint
unfoldable pub dag2_of : Mat2 → Mat2
dag2_of a = mat2 (conj_of a.r0.c0) (conj_of a.r1.c0) (conj_of a.r0.c1) (conj_of a.r1.c1)

abbrev pub id2 : Mat2
id2 = mat2 c1 c0 c0 c1

-- one gate more in a time product: the later gate stands on the left
unfoldable pub time_step_of : Mat2 → Mat2 → Mat2
time_step_of acc g = mul2_of g acc

-- the product of gates, the earliest first in the list, on top of acc
unfoldable pub time_product_from : Mat2 → List Mat2 → Mat2
time_product_from acc [] = acc
time_product_from acc (g ∷ gs) = time_product_from (time_step_of acc g) gs

unfoldable pub time_product_of : List Mat2 → Mat2
time_product_of gs = time_product_from id2 gs

-- ---- 4 by 4

-- x and y, a row of the first factor, with a row of the second
unfoldable pub kron_row_of : Complex → Complex → Row2 → Row4
kron_row_of x y r = row4 (x *ℂ r.c0) (x *ℂ r.c1) (y *ℂ r.c0) (y *ℂ r.c1)

-- a on the first qubit, b on the second
unfoldable pub kron_of : Mat2 → Mat2 → Mat4
kron_of a b =
    mat4 (kron_row_of a.r0.c0 a.r0.c1 b.r0) (kron_row_of a.r0.c0 a.r0.c1 b.r1)
    (kron_row_of a.r1.c0 a.r1.c1 b.r0) (kron_row_of a.r1.c0 a.r1.c1 b.r1)

-- m + x * r, and m itself where x equals 0: the original skips such an x
unfoldable pub axpy_of : Row4 → Complex → Row4 → Row4
axpy_of m x r = cond (is_zero_of x) m (row4 (m.c0 +ℂ x *ℂ r.c0) (m.c1 +ℂ x *ℂ r.c1) (m.c2 +ℂ x *ℂ r.c2) (m.c3 +ℂ x *ℂ r.c3))

-- a row of a product: from zeros, the rows of b from the first to the last
unfoldable pub row_mul_of : Row4 → Mat4 → Row4
row_mul_of r b = axpy_of (axpy_of (axpy_of (axpy_of (row4 c0 c0 c0 c0) r.c0 b.r0) r.c1 b.r1) r.c2 b.r2) r.c3 b.r3

unfoldable pub mul4_of : Mat4 → Mat4 → Mat4
mul4_of a b = mat4 (row_mul_of a.r0 b) (row_mul_of a.r1 b) (row_mul_of a.r2 b) (row_mul_of a.r3 b)

-- a column as a row, conjugated
unfoldable pub conj_column_of : Complex → Complex → Complex → Complex → Row4
conj_column_of w x y z = row4 (conj_of w) (conj_of x) (conj_of y) (conj_of z)

-- the adjoint
unfoldable pub dag4_of : Mat4 → Mat4
dag4_of a =
    mat4 (conj_column_of a.r0.c0 a.r1.c0 a.r2.c0 a.r3.c0) (conj_column_of a.r0.c1 a.r1.c1 a.r2.c1 a.r3.c1)
    (conj_column_of a.r0.c2 a.r1.c2 a.r2.c2 a.r3.c2) (conj_column_of a.r0.c3 a.r1.c3 a.r2.c3 a.r3.c3)

-- the same gate with its qubits named in the other order: the indices 1 and 2 change places in rows and columns
abbrev pub turned_row_of : Row4 → Row4
turned_row_of r = row4 r.c0 r.c2 r.c1 r.c3

unfoldable pub mat4_swap_qubits_of : Mat4 → Mat4
mat4_swap_qubits_of m = mat4 (turned_row_of m.r0) (turned_row_of m.r2) (turned_row_of m.r1) (turned_row_of m.r3)
