-- The Majorana operators of one mode and of two by their entries, and the map's row and distance of a matrix that is given by its entries.
-- Assumes nothing.
use mathlib.Core.Path.{refl}
use mathlib.Core.Bool.{Bool, true, false}
use Prim.Native.Nat.{ℕ, zero, suc}
use lib.IntN.{pos, negsuc}
use lib.Ieee.{of_bits}
use Rattle.laws.specs.Dyadic.{Dy}
use Rattle.laws.specs.Phase.{i0, i1, i2, i3}
use Rattle.real.specs.declared.maps.Real2.{Real2}
use Rattle.real.specs.declared.maps.Real4.{Real4}
use Rattle.gate.specs.Complex.{f0, f1, f2}
use Rattle.gate.specs.Matrix.{id2, mul2_of, dag2_of, mul4_of, dag4_of}
use Rattle.gate.specs.declared.matrix.Mat2.{Mat2}
use Rattle.gate.specs.declared.matrix.Row4.{Row4}
use Rattle.gate.specs.declared.matrix.Mat4.{Mat4}
use Rattle.named.specs.Table.{f-1, gate_x, gate_y, gate_z}
use Rattle.majorana.specs.Majorana.{f4, image2_of, coefficients2_of, less2_of, rest2_of, square2_of, distance2_of, majorana0, majorana1, majorana2, majorana3, image4_of, coefficients4_of, less4_of, rest4_of, square4_of, distance4_of}
use Rattle.monomial.specs.Groups.{Two, two, Four, four, Mat2Of, Row4Of, Mat4Of}
use Rattle.monomial.specs.Monomial.{Entry, IsEntry, entries2}
use Rattle.monomial.proofs.Known.{Known, kn, div_k, IsKnown, div_known}
use Rattle.monomial.proofs.Complexes.{Cx, IsComplex, zero_is}
use Rattle.monomial.proofs.Products.{mul2, dag2, kron, mul4, dag4, mul2-law, dag2-law, kron-law, mul4-law, dag4-law}
use Rattle.monomial.proofs.Entries.{entry_ops, entry_sound, value, to-complex}
use Rattle.monomial.proofs.Traces.{coefficient2, less2, square2, coefficient2-law, less2-law, square2-law, two-known, coefficient4, less4, square4, coefficient4-law, less4-law, square4-law, four-known}

-- ---- the entries of the table

pub one-is : Dy 0 (pos 1) f1
unfolding of_bits
one-is = (1, refl, refl)

pub minus_one_is : Dy 0 (negsuc 0) f-1
unfolding of_bits
minus_one_is = (1, refl, refl)

-- 0, 1, i, -1 and -i
pub 0-is : Dy 0 (pos 0) f0 × Dy 0 (pos 0) f0
0-is = (zero_is, zero_is)

pub 1-is : Dy 0 (pos 1) f1 × Dy 0 (pos 0) f0
1-is = (one-is, zero_is)

pub i-is : Dy 0 (pos 0) f0 × Dy 0 (pos 1) f1
i-is = (zero_is, one-is)

pub -1-is : Dy 0 (negsuc 0) f-1 × Dy 0 (pos 0) f0
-1-is = (minus_one_is, zero_is)

pub -i-is : Dy 0 (pos 0) f0 × Dy 0 (negsuc 0) f-1
-i-is = (zero_is, minus_one_is)

-- ---- the Pauli matrices

abbrev pub entries_i : Two (Two Entry)
entries_i = entries2 false (two i0 i0)

abbrev pub entries_x : Two (Two Entry)
entries_x = entries2 true (two i0 i0)

abbrev pub entries_y : Two (Two Entry)
entries_y = entries2 true (two i3 i1)

abbrev pub entries_z : Two (Two Entry)
entries_z = entries2 false (two i0 i2)

pub has-I : Mat2Of IsEntry id2 entries_i
has-I = ((1-is, 0-is), (0-is, 1-is))

pub has-X : Mat2Of IsEntry gate_x entries_x
has-X = ((0-is, 1-is), (1-is, 0-is))

pub has-Y : Mat2Of IsEntry gate_y entries_y
has-Y = ((0-is, -i-is), (i-is, 0-is))

pub has-Z : Mat2Of IsEntry gate_z entries_z
has-Z = ((1-is, 0-is), (0-is, -1-is))

-- ---- the operators of two modes: the Majorana operators, and four that have no part in their span

abbrev pub operator : Bool → ℕ → Four (Four Entry)
operator false zero = kron entry_ops entries_x entries_i
operator false (suc zero) = kron entry_ops entries_y entries_i
operator false (suc (suc zero)) = kron entry_ops entries_z entries_x
operator false (suc (suc (suc i))) = kron entry_ops entries_z entries_y
operator true zero = kron entry_ops entries_x entries_z
operator true (suc zero) = kron entry_ops entries_y entries_z
operator true (suc (suc zero)) = kron entry_ops entries_i entries_x
operator true (suc (suc (suc i))) = kron entry_ops entries_i entries_y

pub has-majorana0 : Mat4Of IsEntry majorana0 (operator false 0)
unfolding majorana0
has-majorana0 = kron-law entry_ops IsEntry entry_sound gate_x id2 entries_x entries_i has-X has-I

pub has-majorana1 : Mat4Of IsEntry majorana1 (operator false 1)
unfolding majorana1
has-majorana1 = kron-law entry_ops IsEntry entry_sound gate_y id2 entries_y entries_i has-Y has-I

pub has-majorana2 : Mat4Of IsEntry majorana2 (operator false 2)
unfolding majorana2
has-majorana2 = kron-law entry_ops IsEntry entry_sound gate_z gate_x entries_z entries_x has-Z has-X

pub has-majorana3 : Mat4Of IsEntry majorana3 (operator false 3)
unfolding majorana3
has-majorana3 = kron-law entry_ops IsEntry entry_sound gate_z gate_y entries_z entries_y has-Z has-Y

-- ---- images: U† (c U)

abbrev pub image2 : Two (Two Entry) → Two (Two Entry) → Two (Two Entry)
image2 c u = mul2 entry_ops (dag2 entry_ops u) (mul2 entry_ops c u)

pub image2-law : (c u : Mat2) (p q : Two (Two Entry)) → Mat2Of IsEntry c p → Mat2Of IsEntry u q → Mat2Of IsEntry (image2_of c u) (image2 p q)
unfolding image2_of
image2-law c u p q h k =
    mul2-law entry_ops IsEntry entry_sound (dag2_of u) (mul2_of c u) (dag2 entry_ops q) (mul2 entry_ops p q)
    (dag2-law entry_ops IsEntry entry_sound u q k)
    (mul2-law entry_ops IsEntry entry_sound c u p q h k)

abbrev pub image4 : Four (Four Entry) → Four (Four Entry) → Four (Four Entry)
image4 c u = mul4 entry_ops (dag4 entry_ops u) (mul4 entry_ops c u)

pub image4-law : (c u : Mat4) (p q : Four (Four Entry)) → Mat4Of IsEntry c p → Mat4Of IsEntry u q → Mat4Of IsEntry (image4_of c u) (image4 p q)
unfolding image4_of
image4-law c u p q h k =
    mul4-law entry_ops IsEntry entry_sound (dag4_of u) (mul4_of c u) (dag4 entry_ops q) (mul4 entry_ops p q)
    (dag4-law entry_ops IsEntry entry_sound u q k)
    (mul4-law entry_ops IsEntry entry_sound c u p q h k)

-- ---- entries as known numbers

abbrev pub values2 : Two (Two Entry) → Two (Two Cx)
values2 (two (two a b) (two c d)) = two (two (value a) (value b)) (two (value c) (value d))

pub to-values2 : (u : Mat2) (e : Two (Two Entry)) → Mat2Of IsEntry u e → Mat2Of IsComplex u (values2 e)
to-values2 u (two (two a b) (two c d)) h = (
  (to-complex u.r0.c0 a h.0.0, to-complex u.r0.c1 b h.0.1),
  (to-complex u.r1.c0 c h.1.0, to-complex u.r1.c1 d h.1.1),
)

abbrev pub values_row : Four Entry → Four Cx
values_row (four a b c d) = four (value a) (value b) (value c) (value d)

abbrev pub values4 : Four (Four Entry) → Four (Four Cx)
values4 (four a b c d) = four (values_row a) (values_row b) (values_row c) (values_row d)

pub to-values4 : (u : Mat4) (e : Four (Four Entry)) → Mat4Of IsEntry u e → Mat4Of IsComplex u (values4 e)
to-values4 u (four a b c d) h = (row u.r0 a h.0, row u.r1 b h.1, row u.r2 c h.2, row u.r3 d h.3)
  where
    row : (r : Row4) (e : Four Entry) → Row4Of IsEntry r e → Row4Of IsComplex r (values_row e)
    row r (four a b c d) h = (to-complex r.c0 a h.0, to-complex r.c1 b h.1, to-complex r.c2 c h.2, to-complex r.c3 d h.3)

-- ---- one mode: the row of the map, and the distance, of a matrix w

abbrev pub map_row2 : Two (Two Cx) → Two Known
map_row2 w = two (coefficient2 (values2 entries_x) w) (coefficient2 (values2 entries_y) w)

abbrev pub distance2 : Two (Two Cx) → Two Known → Known
distance2 w (two a b) = div_k (square2 (less2 (less2 w (values2 entries_x) a) (values2 entries_y) b)) (kn (pos 2))

abbrev pub Reals2Of : Real2 → Two Known → Type 0
Reals2Of r (two a b) = IsKnown r.x0 a × IsKnown r.x1 b

pub map_row2-law : (w : Mat2) (p : Two (Two Cx)) → Mat2Of IsComplex w p → Reals2Of (coefficients2_of w) (map_row2 p)
unfolding coefficients2_of
map_row2-law w p h = (
  coefficient2-law gate_x w (values2 entries_x) p (to-values2 gate_x entries_x has-X) h,
  coefficient2-law gate_y w (values2 entries_y) p (to-values2 gate_y entries_y has-Y) h,
)

pub distance2-law : (w : Mat2) (q : Real2) (p : Two (Two Cx)) (r : Two Known) → Mat2Of IsComplex w p → Reals2Of q r
    → IsKnown (distance2_of w q) (distance2 p r)
unfolding distance2_of rest2_of
distance2-law w q p (two a b) h k =
    let p1 = less2 p (values2 entries_x) a in
    let p2 = less2 p1 (values2 entries_y) b in
    let h1 = less2-law w gate_x q.x0 p (values2 entries_x) a h (to-values2 gate_x entries_x has-X) k.0 in
    let h2 = less2-law (less2_of w gate_x q.x0) gate_y q.x1 p1 (values2 entries_y) b h1 (to-values2 gate_y entries_y has-Y) k.1 in
    div_known (square2_of (rest2_of w q)) f2 (square2 p2) (kn (pos 2)) (square2-law (rest2_of w q) p2 h2) two-known

-- ---- two modes

abbrev known : ℕ → Four (Four Cx)
known i = values4 (operator false i)

abbrev pub map_row4 : Four (Four Cx) → Four Known
map_row4 w = four (coefficient4 (known 0) w) (coefficient4 (known 1) w) (coefficient4 (known 2) w) (coefficient4 (known 3) w)

abbrev pub distance4 : Four (Four Cx) → Four Known → Known
distance4 w (four a b c d) = div_k (square4 (less4 (less4 (less4 (less4 w (known 0) a) (known 1) b) (known 2) c) (known 3) d)) (kn (pos 4))

abbrev pub Reals4Of : Real4 → Four Known → Type 0
Reals4Of r (four a b c d) = IsKnown r.x0 a × IsKnown r.x1 b × IsKnown r.x2 c × IsKnown r.x3 d

known0 : Mat4Of IsComplex majorana0 (known 0)
known0 = to-values4 majorana0 (operator false 0) has-majorana0

known1 : Mat4Of IsComplex majorana1 (known 1)
known1 = to-values4 majorana1 (operator false 1) has-majorana1

known2 : Mat4Of IsComplex majorana2 (known 2)
known2 = to-values4 majorana2 (operator false 2) has-majorana2

known3 : Mat4Of IsComplex majorana3 (known 3)
known3 = to-values4 majorana3 (operator false 3) has-majorana3

pub map_row4-law : (w : Mat4) (p : Four (Four Cx)) → Mat4Of IsComplex w p → Reals4Of (coefficients4_of w) (map_row4 p)
unfolding coefficients4_of
map_row4-law w p h = (
  coefficient4-law majorana0 w (known 0) p known0 h,
  coefficient4-law majorana1 w (known 1) p known1 h,
  coefficient4-law majorana2 w (known 2) p known2 h,
  coefficient4-law majorana3 w (known 3) p known3 h,
)

pub distance4-law : (w : Mat4) (q : Real4) (p : Four (Four Cx)) (r : Four Known) → Mat4Of IsComplex w p → Reals4Of q r
    → IsKnown (distance4_of w q) (distance4 p r)
unfolding distance4_of rest4_of
distance4-law w q p (four a b c d) h k =
    let p1 = less4 p (known 0) a in
    let p2 = less4 p1 (known 1) b in
    let p3 = less4 p2 (known 2) c in
    let p4 = less4 p3 (known 3) d in
    let w1 = less4_of w majorana0 q.x0 in
    let w2 = less4_of w1 majorana1 q.x1 in
    let w3 = less4_of w2 majorana2 q.x2 in
    let h1 = less4-law w majorana0 q.x0 p (known 0) a h known0 k.0 in
    let h2 = less4-law w1 majorana1 q.x1 p1 (known 1) b h1 known1 k.1 in
    let h3 = less4-law w2 majorana2 q.x2 p2 (known 2) c h2 known2 k.2 in
    let h4 = less4-law w3 majorana3 q.x3 p3 (known 3) d h3 known3 k.3 in
    div_known (square4_of (rest4_of w q)) f4 (square4 p4) (kn (pos 4)) (square4-law (rest4_of w q) p4 h4) four-known
