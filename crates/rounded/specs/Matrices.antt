-- WHAT IT MEANS THAT THE ENGINE'S MATRICES ARE THE FORMULAS, ROUNDED: the products, adjoints and Kronecker products of crate `gate` are the words of crate
-- `matchgates`, with their first terms and skipped zeros, at binary64; and so are the exchange of two qubits, and SWAP. Any matrices are meant, and every bit.
-- Definitions only. A public promise rests on this.
use Rattle.std.specs.Prelude.{◌≡◌, ℕ, zero, suc, ◌<◌}
use Rattle.gate.specs.Matrix.{mul2_of, dag2_of, kron_of, mul4_of, dag4_of, mat4_swap_qubits_of}
use Rattle.gate.specs.declared.complex.Complex.{Complex}
use Rattle.gate.specs.declared.matrix.Row2.{Row2}
use Rattle.gate.specs.declared.matrix.Mat2.{Mat2}
use Rattle.gate.specs.declared.matrix.Row4.{Row4}
use Rattle.gate.specs.declared.matrix.Mat4.{Mat4}
use Rattle.named.specs.Table.{gate_swap}
use Rattle.formulas.specs.Engine.{Mat}
use Rattle.matchgates.specs.Matrices.{kron as kron'}
use Rattle.matchgates.specs.Complex.{Pair, complex}
use Rattle.matchgates.specs.Words as words
use Rattle.matchgates.specs.Fused.{swap_qubits, swap}
use Rattle.rounded.specs.Floats.{floats, float_tests}

-- ---- the structs of the code, by row and column

abbrev pub as_pair : Complex → Pair floats
as_pair s = record { re = s.re; im = s.im }

abbrev pub in_row2 : Row2 → ℕ → Pair floats
in_row2 r zero = as_pair r.c0
in_row2 r (suc j) = as_pair r.c1

abbrev pub in_mat2 : Mat2 → Mat (complex floats)
in_mat2 m zero = in_row2 m.r0
in_mat2 m (suc i) = in_row2 m.r1

abbrev pub in_row4 : Row4 → ℕ → Pair floats
in_row4 r zero = as_pair r.c0
in_row4 r (suc zero) = as_pair r.c1
in_row4 r (suc (suc zero)) = as_pair r.c2
in_row4 r (suc (suc (suc j))) = as_pair r.c3

abbrev pub in_mat4 : Mat4 → Mat (complex floats)
in_mat4 m zero = in_row4 m.r0
in_mat4 m (suc zero) = in_row4 m.r1
in_mat4 m (suc (suc zero)) = in_row4 m.r2
in_mat4 m (suc (suc (suc i))) = in_row4 m.r3

-- ---- what is said

-- the entries of w rows and columns are the same
abbrev pub Same : ℕ → Mat (complex floats) → Mat (complex floats) → Type 0
Same w a b = (r c : ℕ) → r < w → c < w → a r c ≡ b r c

pub record RoundedMatrices : Type 0 where
  -- 2 by 2
  pub product2 : (a b : Mat2) → Same 2 (in_mat2 (mul2_of a b)) (words.mul2_of floats (in_mat2 a) (in_mat2 b))
  pub adjoint2 : (a : Mat2) → Same 2 (in_mat2 (dag2_of a)) (words.dag_of floats (in_mat2 a))
  -- a on the first qubit, b on the second
  pub kron : (a b : Mat2) → Same 4 (in_mat4 (kron_of a b)) (kron' (complex floats) (in_mat2 a) (in_mat2 b))
  -- 4 by 4
  pub product4 : (a b : Mat4) → Same 4 (in_mat4 (mul4_of a b)) (words.mul4_of floats float_tests (in_mat4 a) (in_mat4 b))
  pub adjoint4 : (a : Mat4) → Same 4 (in_mat4 (dag4_of a)) (words.dag_of floats (in_mat4 a))
  -- its qubits named in the other order, and SWAP
  pub turned : (a : Mat4) → Same 4 (in_mat4 (mat4_swap_qubits_of a)) (swap_qubits (complex floats) (in_mat4 a))
  pub exchanges : Same 4 (in_mat4 gate_swap) (swap (complex floats))
