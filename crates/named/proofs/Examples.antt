-- Worked values of the definitions, by computation: codes, and products of named gates. Assumes nothing.
use mathlib.Core.Path.{◌≡◌, refl}
use mathlib.Core.List.{[], ◌∷◌}
use lib.Ieee.{add, sub, mul, eq, of_bits}
use Rattle.gate.specs.Complex.{c0, c1, is_zero_of}
use Rattle.gate.specs.Matrix.{mat2, row4, mat4, id2, dot2_of, mul2_of, kron_row_of, kron_of, axpy_of, row_mul_of, mul4_of, mat4_swap_qubits_of, time_step_of, time_product_from, time_product_of}
use Rattle.named.specs.Table.{ci, gate_x, gate_y, gate_z, gate_s, gate_cnot, gate_cz, gate_swap, gate_i_swap, matrix1q_of, matrix2q_of}

-- ---- codes

code-Y : matrix1q_of 3 ≡ gate_y
unfolding matrix1q_of
code-Y = refl

code-ISwap : matrix2q_of 0x13 ≡ gate_i_swap
unfolding matrix2q_of
code-ISwap = refl

-- ---- two by two

x-x : mul2_of gate_x gate_x ≡ id2
unfolding mul2_of dot2_of add sub mul of_bits
x-x = refl

s-s : mul2_of gate_s gate_s ≡ gate_z
unfolding mul2_of dot2_of add sub mul of_bits
s-s = refl

-- X after S: the later gate stands on the left
s-then-x : time_product_of (gate_s ∷ gate_x ∷ []) ≡ mat2 c0 ci c1 c0
unfolding time_product_of time_product_from time_step_of mul2_of dot2_of add sub mul of_bits
s-then-x = refl

-- ---- four by four

-- the first factor acts on the high index bit
x-on-first : kron_of gate_x id2 ≡ mat4 (row4 c0 c0 c1 c0) (row4 c0 c0 c0 c1) (row4 c1 c0 c0 c0) (row4 c0 c1 c0 c0)
unfolding kron_of kron_row_of add sub mul of_bits
x-on-first = refl

-- Swap and then Cz, with S on both, is ISwap
iswap-parts : mul4_of (kron_of gate_s gate_s) (mul4_of gate_cz gate_swap) ≡ gate_i_swap
unfolding kron_of kron_row_of mul4_of row_mul_of axpy_of is_zero_of add sub mul eq of_bits
iswap-parts = refl

-- control and target exchanged
cnot-turned : mat4_swap_qubits_of gate_cnot ≡ mat4 (row4 c1 c0 c0 c0) (row4 c0 c0 c0 c1) (row4 c0 c0 c1 c0) (row4 c0 c1 c0 c0)
unfolding mat4_swap_qubits_of
cnot-turned = refl
