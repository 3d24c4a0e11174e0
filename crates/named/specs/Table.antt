-- The constant table: the exact matrices of the named gates, by the tape's codes. Codes are hexadecimal here, as in the format's description.
-- A public promise rests on this.
use Rattle.std.specs.Prelude.{ℕ, ◌-◌, List, [], ◌∷◌, get_or, Float}
use Rattle.std.specs.Float.{binary64}
use Rattle.std.specs.Float.Ieee.{of_bits}
use Rattle.gate.specs.Complex.{cx, f0, f1, c0, c1}
use Rattle.gate.specs.Matrix.{mat2, row4, mat4, id2}
use Rattle.gate.specs.declared.complex.Complex.{Complex}
use Rattle.gate.specs.declared.matrix.Mat2.{Mat2}
use Rattle.gate.specs.declared.matrix.Mat4.{Mat4}

-- ---- entries

abbrev pub f-1 : Float
f-1 = of_bits binary64 0xbff0_0000_0000_0000

abbrev pub f½ : Float
f½ = of_bits binary64 0x3fe0_0000_0000_0000

abbrev pub f-½ : Float
f-½ = of_bits binary64 0xbfe0_0000_0000_0000

-- the f64 nearest the root of 1/2
abbrev pub f√½ : Float
f√½ = of_bits binary64 0x3fe6_a09e_667f_3bcd

abbrev pub f-√½ : Float
f-√½ = of_bits binary64 0xbfe6_a09e_667f_3bcd

abbrev pub c-1 : Complex
c-1 = cx f-1 f0

abbrev pub ci : Complex
ci = cx f0 f1

abbrev pub c-i : Complex
c-i = cx f0 f-1

-- ---- one qubit

abbrev pub gate_h : Mat2
gate_h = mat2 (cx f√½ f0) (cx f√½ f0) (cx f√½ f0) (cx f-√½ f0)

abbrev pub gate_x : Mat2
gate_x = mat2 c0 c1 c1 c0

abbrev pub gate_y : Mat2
gate_y = mat2 c0 c-i ci c0

abbrev pub gate_z : Mat2
gate_z = mat2 c1 c0 c0 c-1

abbrev pub gate_s : Mat2
gate_s = mat2 c1 c0 c0 ci

abbrev pub gate_sdg : Mat2
gate_sdg = mat2 c1 c0 c0 c-i

abbrev pub gate_sx : Mat2
gate_sx = mat2 (cx f½ f½) (cx f½ f-½) (cx f½ f-½) (cx f½ f½)

abbrev pub gate_sxdg : Mat2
gate_sxdg = mat2 (cx f½ f-½) (cx f½ f½) (cx f½ f½) (cx f½ f-½)

-- 00 I, 01 H, 02 X, 03 Y, 04 Z, 05 S, 06 Sdg, 07 Sx, 08 Sxdg
abbrev pub one_qubit : List Mat2
one_qubit = id2 ∷ gate_h ∷ gate_x ∷ gate_y ∷ gate_z ∷ gate_s ∷ gate_sdg ∷ gate_sx ∷ gate_sxdg ∷ []

unfoldable pub matrix1q_of : ℕ → Mat2
matrix1q_of code = get_or one_qubit code id2

-- ---- two qubits

abbrev pub gate_cnot : Mat4
gate_cnot = mat4 (row4 c1 c0 c0 c0) (row4 c0 c1 c0 c0) (row4 c0 c0 c0 c1) (row4 c0 c0 c1 c0)

abbrev pub gate_cz : Mat4
gate_cz = mat4 (row4 c1 c0 c0 c0) (row4 c0 c1 c0 c0) (row4 c0 c0 c1 c0) (row4 c0 c0 c0 c-1)

abbrev pub gate_swap : Mat4
gate_swap = mat4 (row4 c1 c0 c0 c0) (row4 c0 c0 c1 c0) (row4 c0 c1 c0 c0) (row4 c0 c0 c0 c1)

abbrev pub gate_i_swap : Mat4
gate_i_swap = mat4 (row4 c1 c0 c0 c0) (row4 c0 c0 ci c0) (row4 c0 ci c0 c0) (row4 c0 c0 c0 c1)

abbrev pub gate_i_swapdg : Mat4
gate_i_swapdg = mat4 (row4 c1 c0 c0 c0) (row4 c0 c0 c-i c0) (row4 c0 c-i c0 c0) (row4 c0 c0 c0 c1)

-- 10 Cnot, 11 Cz, 12 Swap, 13 ISwap, 14 ISwapdg
abbrev pub two_qubit : List Mat4
two_qubit = gate_cnot ∷ gate_cz ∷ gate_swap ∷ gate_i_swap ∷ gate_i_swapdg ∷ []

unfoldable pub matrix2q_of : ℕ → Mat4
matrix2q_of code = get_or two_qubit (code - 16) gate_cnot
