-- The engine's matrices are the formulas at binary64, entry by entry (specs/Matrices.antt). Assumes nothing.
use mathlib.Core.Path.{◌≡◌, refl, ap, ◌∙◌}
use mathlib.Core.Bool.{Bool, true, false, cond, ◌&&◌}
use Prim.Native.Nat.{ℕ, zero, suc, ◌<◌}
use lib.Ieee.{sub, eq, of_bits}
use Rattle.gate.specs.Complex.{◌+ℂ◌, ◌*ℂ◌, f0, c0, is_zero_of}
use Rattle.gate.specs.Matrix.{row4, mul2_of, dot2_of, dag2_of, kron_of, kron_row_of, axpy_of, row_mul_of, mul4_of, conj_column_of, dag4_of}
use Rattle.gate.specs.Matrix.{mat4_swap_qubits_of}
use Rattle.gate.specs.declared.complex.Complex.{Complex}
use Rattle.gate.specs.declared.matrix.Mat2.{Mat2}
use Rattle.gate.specs.declared.matrix.Row4.{Row4}
use Rattle.gate.specs.declared.matrix.Mat4.{Mat4}
use Rattle.named.specs.Table.{gate_swap}
use Rattle.rings.specs.Rings.{Ops}
use Rattle.matchgates.specs.Complex.{complex}
use Rattle.matchgates.specs.Matrices.{kron as kron'}
use Rattle.matchgates.specs.Words.{dag_of, axpy_of as axpy', mul2_of as mul2', mul4_of as mul4'}
use Rattle.matchgates.specs.Fused.{swap_qubits, swap}
use Rattle.laws.proofs.Below.{below-two, below-four}
use Rattle.rounded.specs.Floats.{floats, float_tests}
use Rattle.rounded.specs.Matrices.{as_pair, in_mat2, in_row4, in_mat4, Same, RoundedMatrices}

-- ---- indices below a width

pub entries2 : (P : ℕ → ℕ → Type 0) → P 0 0 → P 0 1 → P 1 0 → P 1 1 → (r c : ℕ) → r < 2 → c < 2 → P r c
entries2 P p q r s i j hi hj = below-two (λ i. (j : ℕ) → j < 2 → P i j) (below-two (P 0) p q) (below-two (P 1) r s) i hi j hj

pub entries4 : (P : ℕ → ℕ → Type 0) → P 0 0 → P 0 1 → P 0 2 → P 0 3 → P 1 0 → P 1 1 → P 1 2 → P 1 3
    → P 2 0 → P 2 1 → P 2 2 → P 2 3 → P 3 0 → P 3 1 → P 3 2 → P 3 3 → (r c : ℕ) → r < 4 → c < 4 → P r c
entries4 P a b c d e f g h k l m n p q r s i j hi hj =
    below-four (λ i. (j : ℕ) → j < 4 → P i j) (below-four (P 0) a b c d) (below-four (P 1) e f g h) (below-four (P 2) k l m n) (below-four (P 3) p q r s)
    i hi j hj

-- ---- 2 by 2

mul2-is : (a b : Mat2) → Same 2 (in_mat2 (mul2_of a b)) (mul2' floats (in_mat2 a) (in_mat2 b))
unfolding mul2_of dot2_of sub
mul2-is a b = entries2 (λ r c. in_mat2 (mul2_of a b) r c ≡ mul2' floats (in_mat2 a) (in_mat2 b) r c) refl refl refl refl

dag2-is : (a : Mat2) → Same 2 (in_mat2 (dag2_of a)) (dag_of floats (in_mat2 a))
unfolding dag2_of
dag2-is a = entries2 (λ r c. in_mat2 (dag2_of a) r c ≡ dag_of floats (in_mat2 a) r c) refl refl refl refl

-- ---- 4 by 4

kron-is : (a b : Mat2) → Same 4 (in_mat4 (kron_of a b)) (kron' (complex floats) (in_mat2 a) (in_mat2 b))
unfolding kron_of kron_row_of sub
kron-is a b =
    entries4 (λ r c. in_mat4 (kron_of a b) r c ≡ kron' (complex floats) (in_mat2 a) (in_mat2 b) r c)
    refl refl refl refl refl refl refl refl refl refl refl refl refl refl refl refl

abbrev ℂ : Ops
ℂ = complex floats

-- a row more, or none where its factor is zero
axpy-is : (m : Row4) (x : Complex) (r : Row4) (j : ℕ) → in_row4 (axpy_of m x r) j ≡ axpy' floats float_tests (in_row4 m j) (as_pair x) (in_row4 r j)
unfolding axpy_of is_zero_of sub of_bits
axpy-is m x r j = by (eq x.re f0 && eq x.im f0) j
  where
    by : (b : Bool) (j : ℕ) → in_row4 (cond b m (row4 (m.c0 +ℂ x *ℂ r.c0) (m.c1 +ℂ x *ℂ r.c1) (m.c2 +ℂ x *ℂ r.c2) (m.c3 +ℂ x *ℂ r.c3))) j
        ≡ cond b (in_row4 m j) (ℂ.add (in_row4 m j) (ℂ.mul (as_pair x) (in_row4 r j)))
    by true j = refl
    by false zero = refl
    by false (suc zero) = refl
    by false (suc (suc zero)) = refl
    by false (suc (suc (suc j))) = refl

-- no row yet
zeros : (j : ℕ) → in_row4 (row4 c0 c0 c0 c0) j ≡ ℂ.zero
unfolding of_bits
zeros zero = refl
zeros (suc zero) = refl
zeros (suc (suc zero)) = refl
zeros (suc (suc (suc j))) = refl

-- a row of a product
row-is : (r : Row4) (b : Mat4) (j : ℕ) → in_row4 (row_mul_of r b) j ≡ mul4' floats float_tests (λ _. in_row4 r) (in_mat4 b) 0 j
unfolding row_mul_of
row-is r b j =
    let more : ℂ.N → Complex → Row4 → ℂ.N = λ t x v. axpy' floats float_tests t (as_pair x) (in_row4 v j) in
    let m₁ = axpy_of (row4 c0 c0 c0 c0) r.c0 b.r0 in
    let m₂ = axpy_of m₁ r.c1 b.r1 in
    axpy-is (axpy_of m₂ r.c2 b.r2) r.c3 b.r3 j
    ∙ ap (λ t. more t r.c3 b.r3) (axpy-is m₂ r.c2 b.r2 j
    ∙ ap (λ t. more t r.c2 b.r2) (axpy-is m₁ r.c1 b.r1 j
    ∙ ap (λ t. more t r.c1 b.r1) (axpy-is (row4 c0 c0 c0 c0) r.c0 b.r0 j
    ∙ ap (λ t. more t r.c0 b.r0) (zeros j))))

mul4-is : (a b : Mat4) → Same 4 (in_mat4 (mul4_of a b)) (mul4' floats float_tests (in_mat4 a) (in_mat4 b))
unfolding mul4_of
mul4-is a b r c hr hc =
    below-four (λ r. in_mat4 (mul4_of a b) r c ≡ mul4' floats float_tests (in_mat4 a) (in_mat4 b) r c)
    (row-is a.r0 b c) (row-is a.r1 b c) (row-is a.r2 b c) (row-is a.r3 b c) r hr

dag4-is : (a : Mat4) → Same 4 (in_mat4 (dag4_of a)) (dag_of floats (in_mat4 a))
unfolding dag4_of conj_column_of
dag4-is a =
    entries4 (λ r c. in_mat4 (dag4_of a) r c ≡ dag_of floats (in_mat4 a) r c)
    refl refl refl refl refl refl refl refl refl refl refl refl refl refl refl refl

turned-is : (a : Mat4) → Same 4 (in_mat4 (mat4_swap_qubits_of a)) (swap_qubits ℂ (in_mat4 a))
unfolding mat4_swap_qubits_of
turned-is a =
    entries4 (λ r c. in_mat4 (mat4_swap_qubits_of a) r c ≡ swap_qubits ℂ (in_mat4 a) r c)
    refl refl refl refl refl refl refl refl refl refl refl refl refl refl refl refl

swap-is : Same 4 (in_mat4 gate_swap) (swap ℂ)
unfolding of_bits
swap-is =
    entries4 (λ r c. in_mat4 gate_swap r c ≡ swap ℂ r c)
    refl refl refl refl refl refl refl refl refl refl refl refl refl refl refl refl

pub rounded-matrices : RoundedMatrices
rounded-matrices = record {
  product2 = mul2-is;
  adjoint2 = dag2-is;
  kron = kron-is;
  product4 = mul4-is;
  adjoint4 = dag4-is;
  turned = turned-is;
  exchanges = swap-is;
}
