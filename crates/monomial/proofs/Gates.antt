-- The named gates of a register tape are monomial: the matrices of the codes 00, 02 to 06 and 12 to 14 have the values of their blocks, and these
-- turn and exchange the bits as document 01's register does. Assumes nothing.
use mathlib.Core.Path.{◌≡◌, refl}
use mathlib.Core.Logic.{◌≢◌}
use mathlib.Core.Bool.{Bool, not, ◌||◌}
use Prim.Native.Nat.{ℕ, ◌+◌, ◌<◌}
use lib.Dec.{eqb}
use Rattle.named.specs.Table.{gate_s, gate_sdg, gate_swap, gate_i_swap, gate_i_swapdg, matrix1q_of, matrix2q_of}
use Rattle.monomial.specs.Monomial.{Has2, Has4, bit_a, bit_b}
use Rattle.monomial.specs.Algebra.{Even, mono_s, mono_sdg, mono_swap, mono_i_swap, mono_i_swapdg, mono1q_of, mono2q_from}
use Rattle.monomial.proofs.Tests.{at_each}
use Rattle.monomial.proofs.Operators.{0-is, 1-is, i-is, -i-is, has-I, has-X, has-Y, has-Z}

-- ---- the gates

has-S : Has2 gate_s mono_s
has-S = ((1-is, 0-is), (0-is, i-is))

has-Sdg : Has2 gate_sdg mono_sdg
has-Sdg = ((1-is, 0-is), (0-is, -i-is))

pub has-Swap : Has4 gate_swap mono_swap
has-Swap = ((1-is, 0-is, 0-is, 0-is), (0-is, 0-is, 1-is, 0-is), (0-is, 1-is, 0-is, 0-is), (0-is, 0-is, 0-is, 1-is))

pub has-ISwap : Has4 gate_i_swap mono_i_swap
has-ISwap = ((1-is, 0-is, 0-is, 0-is), (0-is, 0-is, i-is, 0-is), (0-is, i-is, 0-is, 0-is), (0-is, 0-is, 0-is, 1-is))

pub has-ISwapdg : Has4 gate_i_swapdg mono_i_swapdg
has-ISwapdg = ((1-is, 0-is, 0-is, 0-is), (0-is, 0-is, -i-is, 0-is), (0-is, -i-is, 0-is, 0-is), (0-is, 0-is, 0-is, 1-is))

-- ---- by code

pub code1-has : (code : ℕ) → code < 7 → code ≢ 1 → Has2 (matrix1q_of code) (mono1q_of code)
unfolding matrix1q_of
code1-has =
    at_each 7 (λ code. code ≢ 1 → Has2 (matrix1q_of code) (mono1q_of code))
    ((λ n. has-I), ((λ n. absurd (n refl)), ((λ n. has-X), ((λ n. has-Y), ((λ n. has-Z), ((λ n. has-S), ((λ n. has-Sdg), tt)))))))

-- "02 and 03 turn their qubit's bit", "00, 04, 05 and 06 change nothing"
pub code1-turns : (code : ℕ) → code < 7 → (mono1q_of code).turn ≡ (eqb code 2 || eqb code 3)
code1-turns = at_each 7 (λ code. (mono1q_of code).turn ≡ (eqb code 2 || eqb code 3)) (refl, (refl, (refl, (refl, (refl, (refl, (refl, tt)))))))

-- the codes from 12 on
pub code2-has : (j : ℕ) → j < 3 → Has4 (matrix2q_of (0x12 + j)) (mono2q_from j)
unfolding matrix2q_of
code2-has = at_each 3 (λ j. Has4 (matrix2q_of (0x12 + j)) (mono2q_from j)) (has-Swap, (has-ISwap, (has-ISwapdg, tt)))

-- "12, 13 and 14 exchange the bits of their two qubits"
pub code2-exchanges : (j : ℕ) → j < 3 → (x y : Bool) → (bit_a (mono2q_from j) x y ≡ y) × (bit_b (mono2q_from j) x y ≡ x)
code2-exchanges =
    at_each 3 (λ j. (x y : Bool) → (bit_a (mono2q_from j) x y ≡ y) × (bit_b (mono2q_from j) x y ≡ x))
    ((λ x y. (refl, refl)), ((λ x y. (refl, refl)), ((λ x y. (refl, refl)), tt)))

-- Swap does not fit; ISwap and its adjoint do
pub code2-even : (j : ℕ) → j < 3 → Even (not (eqb j 0)) (mono2q_from j)
code2-even = at_each 3 (λ j. Even (not (eqb j 0)) (mono2q_from j)) (refl, (refl, (refl, tt)))
