-- The Majorana maps of detect.rs: U† c_i U = Σ_j q_ij c_j for the Majorana operators c_i of one mode or of two adjacent ones, and the residual, the
-- largest of ‖U† c_i U - Σ_j q_ij c_j‖ / ‖c_i‖. Same operations, same order: sums start at zero and go from left to right, zeros of the operators too.
-- Names that end in 2 are of one mode (2 by 2), those that end in 4 of two (4 by 4). Assumes nothing. A public promise rests on this.
use Rattle.std.specs.Prelude.{List, [], ◌∷◌, Float}
use Rattle.std.specs.Float.{binary64}
use Rattle.std.specs.Float.Ieee.{add, div, of_bits}
use Rattle.real.specs.Maps.{real2, map2, real4, map4}
use Rattle.real.specs.declared.maps.Real2.{Real2}
use Rattle.real.specs.declared.maps.Real4.{Real4}
use Rattle.num.specs.Order.{max_of}
use Rattle.num.specs.Root.{sqrt_of}
use Rattle.gate.specs.Complex.{◌+ℂ◌, ◌-ℂ◌, ◌*ℂ◌, scale_of, norm_sqr_of, f0, f2, c0}
use Rattle.gate.specs.Matrix.{row4, mat4, id2, mul2_of, dag2_of, kron_of, mul4_of, dag4_of}
use Rattle.gate.specs.declared.complex.Complex.{Complex}
use Rattle.gate.specs.declared.matrix.Row2.{Row2}
use Rattle.gate.specs.declared.matrix.Mat2.{Mat2}
use Rattle.gate.specs.declared.matrix.Row4.{Row4}
use Rattle.gate.specs.declared.matrix.Mat4.{Mat4}
use Rattle.named.specs.Table.{gate_x, gate_y, gate_z, gate_swap}
use Rattle.real.specs.declared.maps.Map2.{Map2}
use Rattle.real.specs.declared.maps.Map4.{Map4}
use Rattle.majorana.specs.declared.maps.Mapped.{Mapped}

-- 4.0
abbrev pub f4 : Float
f4 = of_bits binary64 0x4010_0000_0000_0000

-- ---- the residual, over the number of operators

-- s or the largest root of the list, whichever is larger: `res = res.max(x.sqrt())` for each x in turn, with Rust's `max`
unfoldable pub largest_root_of : Float → List Float → Float
largest_root_of s [] = s
largest_root_of s (x ∷ xs) = largest_root_of (max_of s (sqrt_of x)) xs

-- ---- one mode: c_0 = X, c_1 = Y

-- w = U† (c U)
unfoldable pub image2_of : Mat2 → Mat2 → Mat2
image2_of c u = mul2_of (dag2_of u) (mul2_of c u)

-- t + a row of c times a column of w
unfoldable pub trace_row2_of : Complex → Row2 → Complex → Complex → Complex
trace_row2_of t r x y = t +ℂ r.c0 *ℂ x +ℂ r.c1 *ℂ y

-- Tr(c w): all 4 terms
unfoldable pub trace2_of : Mat2 → Mat2 → Complex
trace2_of c w = trace_row2_of (trace_row2_of c0 c.r0 w.r0.c0 w.r1.c0) c.r1 w.r0.c1 w.r1.c1

-- q_ij = re Tr(c_j w) / 2
unfoldable pub coefficient2_of : Mat2 → Mat2 → Float
coefficient2_of c w = div binary64 (trace2_of c w).re f2

unfoldable pub coefficients2_of : Mat2 → Real2
coefficients2_of w = real2 (coefficient2_of gate_x w) (coefficient2_of gate_y w)

-- w - x c
unfoldable pub less_row2_of : Row2 → Row2 → Float → Row2
less_row2_of w c x = record { c0 = w.c0 -ℂ scale_of c.c0 x; c1 = w.c1 -ℂ scale_of c.c1 x }

unfoldable pub less2_of : Mat2 → Mat2 → Float → Mat2
less2_of w c x = record { r0 = less_row2_of w.r0 c.r0 x; r1 = less_row2_of w.r1 c.r1 x }

-- w - Σ_j q_j c_j
unfoldable pub rest2_of : Mat2 → Real2 → Mat2
rest2_of w q = less2_of (less2_of w gate_x q.x0) gate_y q.x1

-- s + the squares of a row's entries
unfoldable pub plus_row2_of : Float → Row2 → Float
plus_row2_of s r = add binary64 (add binary64 s (norm_sqr_of r.c0)) (norm_sqr_of r.c1)

-- ‖m‖²
unfoldable pub square2_of : Mat2 → Float
square2_of m = plus_row2_of (plus_row2_of f0 m.r0) m.r1

-- ‖w - Σ_j q_j c_j‖² / ‖c‖²
unfoldable pub distance2_of : Mat2 → Real2 → Float
distance2_of w q = div binary64 (square2_of (rest2_of w q)) f2

-- row i of q, and the square of that row's part of the residual
unfoldable pub map_row2_of : Mat2 → Mat2 → Real2
map_row2_of c u = coefficients2_of (image2_of c u)

unfoldable pub map_distance2_of : Mat2 → Mat2 → Float
map_distance2_of c u = distance2_of (image2_of c u) (map_row2_of c u)

unfoldable pub majorana_map1_of : Mat2 → Mapped Map2
majorana_map1_of u = record {
  q = map2 (map_row2_of gate_x u) (map_row2_of gate_y u);
  residual = largest_root_of f0 (map_distance2_of gate_x u ∷ map_distance2_of gate_y u ∷ []);
}

-- ---- two modes: `majoranas2`, the first qubit being the lower mode

unfoldable pub majorana0 : Mat4
majorana0 = kron_of gate_x id2

unfoldable pub majorana1 : Mat4
majorana1 = kron_of gate_y id2

unfoldable pub majorana2 : Mat4
majorana2 = kron_of gate_z gate_x

unfoldable pub majorana3 : Mat4
majorana3 = kron_of gate_z gate_y

-- w = U† (c U)
unfoldable pub image4_of : Mat4 → Mat4 → Mat4
image4_of c u = mul4_of (dag4_of u) (mul4_of c u)

-- a column of w, as a row
abbrev pub column0 : Mat4 → Row4
column0 w = row4 w.r0.c0 w.r1.c0 w.r2.c0 w.r3.c0

abbrev pub column1 : Mat4 → Row4
column1 w = row4 w.r0.c1 w.r1.c1 w.r2.c1 w.r3.c1

abbrev pub column2 : Mat4 → Row4
column2 w = row4 w.r0.c2 w.r1.c2 w.r2.c2 w.r3.c2

abbrev pub column3 : Mat4 → Row4
column3 w = row4 w.r0.c3 w.r1.c3 w.r2.c3 w.r3.c3

-- t + a row of c times a column of w
unfoldable pub trace_row4_of : Complex → Row4 → Row4 → Complex
trace_row4_of t r s = t +ℂ r.c0 *ℂ s.c0 +ℂ r.c1 *ℂ s.c1 +ℂ r.c2 *ℂ s.c2 +ℂ r.c3 *ℂ s.c3

-- Tr(c w): all 16 terms
unfoldable pub trace4_of : Mat4 → Mat4 → Complex
trace4_of c w =
    trace_row4_of (trace_row4_of (trace_row4_of (trace_row4_of c0 c.r0 (column0 w)) c.r1 (column1 w)) c.r2 (column2 w)) c.r3 (column3 w)

-- q_ij = re Tr(c_j w) / 4
unfoldable pub coefficient4_of : Mat4 → Mat4 → Float
coefficient4_of c w = div binary64 (trace4_of c w).re f4

unfoldable pub coefficients4_of : Mat4 → Real4
coefficients4_of w = real4 (coefficient4_of majorana0 w) (coefficient4_of majorana1 w) (coefficient4_of majorana2 w) (coefficient4_of majorana3 w)

-- w - x c
unfoldable pub less_row4_of : Row4 → Row4 → Float → Row4
less_row4_of w c x = row4 (w.c0 -ℂ scale_of c.c0 x) (w.c1 -ℂ scale_of c.c1 x) (w.c2 -ℂ scale_of c.c2 x) (w.c3 -ℂ scale_of c.c3 x)

unfoldable pub less4_of : Mat4 → Mat4 → Float → Mat4
less4_of w c x = mat4 (less_row4_of w.r0 c.r0 x) (less_row4_of w.r1 c.r1 x) (less_row4_of w.r2 c.r2 x) (less_row4_of w.r3 c.r3 x)

-- w - Σ_j q_j c_j
unfoldable pub rest4_of : Mat4 → Real4 → Mat4
rest4_of w q = less4_of (less4_of (less4_of (less4_of w majorana0 q.x0) majorana1 q.x1) majorana2 q.x2) majorana3 q.x3

-- s + the squares of a row's entries
unfoldable pub plus_row4_of : Float → Row4 → Float
plus_row4_of s r = add binary64 (add binary64 (add binary64 (add binary64 s (norm_sqr_of r.c0)) (norm_sqr_of r.c1)) (norm_sqr_of r.c2)) (norm_sqr_of r.c3)

-- ‖m‖²
unfoldable pub square4_of : Mat4 → Float
square4_of m = plus_row4_of (plus_row4_of (plus_row4_of (plus_row4_of f0 m.r0) m.r1) m.r2) m.r3

-- ‖w - Σ_j q_j c_j‖² / ‖c‖²
unfoldable pub distance4_of : Mat4 → Real4 → Float
distance4_of w q = div binary64 (square4_of (rest4_of w q)) f4

-- row i of q, and the square of that row's part of the residual
unfoldable pub map_row4_of : Mat4 → Mat4 → Real4
map_row4_of c u = coefficients4_of (image4_of c u)

unfoldable pub map_distance4_of : Mat4 → Mat4 → Float
map_distance4_of c u = distance4_of (image4_of c u) (map_row4_of c u)

unfoldable pub majorana_map2_of : Mat4 → Mapped Map4
majorana_map2_of u = record {
  q = map4 (map_row4_of majorana0 u) (map_row4_of majorana1 u) (map_row4_of majorana2 u) (map_row4_of majorana3 u);
  residual = largest_root_of f0 (map_distance4_of majorana0 u ∷ map_distance4_of majorana1 u ∷ map_distance4_of majorana2 u ∷ map_distance4_of majorana3 u ∷ []);
}

-- ---- a block whose wires change places

-- SWAP · u
unfoldable pub swap4_of : Mat4 → Mat4
swap4_of u = mul4_of gate_swap u
