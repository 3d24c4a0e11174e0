-- Worked cases: both outcomes of each computed test, and the theorems on the gates of the table. Assumes nothing.
use mathlib.Core.Path.{◌≡◌, refl}
use mathlib.Core.Bool.{Bool, true, false}
use Prim.Native.Nat.{ℕ}
use lib.IntN.{pos}
use lib.Ieee.{Float, fin, le, lt, eq, fits, of_bits}
use Rattle.laws.specs.Dyadic.{Dy}
use Rattle.laws.specs.Bounds.{max_tolerance}
use Rattle.laws.specs.Phase.{i0, i1, i2}
use Rattle.gate.specs.Complex.{cx, f0, f1, c0, c1}
use Rattle.gate.specs.Matrix.{row4, mat4, kron_of}
use Rattle.gate.specs.declared.matrix.Mat4.{Mat4}
use Rattle.named.specs.Table.{ci, gate_x, gate_y, gate_cz, gate_swap, gate_i_swap}
use Rattle.majorana.specs.Majorana.{majorana_map1_of, majorana_map2_of, swap4_of}
use Rattle.classify.specs.Diagonal.{offdiag4_of}
use Rattle.classify.specs.Classify.{class2, classify2_of}
use Rattle.classify.specs.declared.classify.Kind2.TheVariants.{Diag, Interaction, Match, NonGaussian}
use Rattle.monomial.specs.Groups.{two, four}
use Rattle.monomial.specs.Monomial.{Mono4, Has4, bit_a, bit_b}
use Rattle.monomial.specs.Basis.{basis, bits, Signed, unit_at}
use Rattle.monomial.specs.Algebra.{mono_x, mono_swap, mono_i_swap, mono_y, kron4}
use Rattle.monomial.specs.Tolerance.{Tolerance}
use Rattle.monomial.proofs.Known.{is}
use Rattle.monomial.proofs.Operators.{0-is, 1-is, -1-is, i-is, entries_x, entries_z, has-X, has-Y, operator, values2, values4, map_row2, distance2, map_row4, distance4}
use Rattle.monomial.proofs.Images.{signed2, pauli, row_is2, near2, row_is4, near4, far4}
use Rattle.monomial.proofs.Permutations.{distinct, carries}
use Rattle.monomial.proofs.Blocks.{fits_test, fails_test}
use Rattle.monomial.proofs.Single.{is_pauli, single, residual-single}
use Rattle.monomial.proofs.Rotations.{turn_perm, keeps_bits}
use Rattle.monomial.proofs.Fitting.{residual-fits, residual-unfit}
use Rattle.monomial.proofs.Diagonals.{off-norm}
use Rattle.monomial.proofs.Roots.{√2}
use Rattle.monomial.proofs.Algebra.{keeps_even, kron-has, kron-even}
use Rattle.monomial.proofs.Gates.{has-Swap, has-ISwap}
use Rattle.monomial.proofs.Classes.{classify-fits, classify-unfit, classify-swapped}

-- ---- both outcomes of the tests

-- the row of -X is not that of X
row-of-minus-X : (near2 true 0 ≡ true) × (row_is2 (map_row2 (values2 (signed2 true (pauli 0)))) (unit_at false 0) ≡ false)
row-of-minus-X = (refl, refl)

-- nor is its distance from the span of X and Y 1
distance-of-X : is (distance2 (values2 entries_x) (map_row2 (values2 entries_x))) (pos 1) ≡ false
distance-of-X = refl

row-of-Z-Y : (near4 false 3 ≡ true) × (row_is4 (map_row4 (values4 (operator false 3))) (unit_at false 2) ≡ false)
row-of-Z-Y = (refl, refl)

-- X ⊗ Z is far from the Majorana operators, X ⊗ I is not
distances : (far4 false 0 ≡ true) × (is (distance4 (values4 (operator false 0)) (map_row4 (values4 (operator false 0)))) (pos 1) ≡ false)
distances = (refl, refl)

-- ISwap fits and Swap does not
iswap-fits : (fits_test true false false (four i0 i1 i1 i0) ≡ true) × (fails_test true false false (four i0 i1 i1 i0) ≡ false)
iswap-fits = (refl, refl)

swap-fails : (fails_test true false false (four i0 i0 i0 i0) ≡ true) × (fits_test true false false (four i0 i0 i0 i0) ≡ false)
swap-fails = (refl, refl)

-- an odd sum of phases: neither
odd-sum : (fits_test false false false (four i0 i0 i0 i1) ≡ false) × (fails_test false false false (four i0 i0 i0 i1) ≡ false)
odd-sum = (refl, refl)

-- the identity keeps the bits 0 1, and does not turn the first
abbrev same : ℕ → Signed
same i = unit_at false i

kept : (carries 4 same (basis (bits false true)) (basis (bits false true)) ≡ true)
    × (carries 4 same (basis (bits false true)) (basis (bits true true)) ≡ false)
kept = (refl, refl)

not-distinct : (distinct 4 same ≡ true) × (distinct 4 (λ i. unit_at false 0) ≡ false)
not-distinct = (refl, refl)

-- a rotation by i keeps a bit; a row of X with the wrong sign turns it
quarter-turn : (keeps_bits i1 ≡ true) × (carries 2 (turn_perm i1) (basis (λ k. false)) (basis (λ k. true)) ≡ false)
quarter-turn = (refl, refl)

bit-turned : single true (two i0 i0) ≡ true
bit-turned = refl

-- X is X up to sign; Z is neither X nor Y
not-pauli : (is_pauli entries_x ≡ true) × (is_pauli entries_z ≡ false)
not-pauli = (refl, refl)

-- phases that a block does not move about so: w changes
not-even : keeps_even (λ s f g p. four i2 i0 i0 i0) false false false i0 i0 i0 i0 ≡ false
not-even = refl

-- ---- residuals

residual-X : (majorana_map1_of gate_x).residual ≡ f0
residual-X = residual-single gate_x mono_x has-X

residual-ISwap : (majorana_map2_of gate_i_swap).residual ≡ f0
residual-ISwap = residual-fits gate_i_swap mono_i_swap has-ISwap refl

residual-Swap : (majorana_map2_of gate_swap).residual ≡ f1
residual-Swap = residual-unfit gate_swap mono_swap has-Swap refl

-- the signs of zeros do not matter: ISwap with -0.0 beside its entries
-0 : Float
-0 = fin true 0 (pos 0)

-ISwap : Mat4
-ISwap = mat4 (row4 c1 (cx -0 f0) c0 (cx -0 -0)) (row4 c0 c0 (cx -0 f1) c0) (row4 (cx f0 -0) ci c0 c0) (row4 c0 c0 c0 (cx f1 -0))

residual--ISwap : (majorana_map2_of -ISwap).residual ≡ f0
unfolding -ISwap -0
residual--ISwap = residual-fits -ISwap mono_i_swap has refl
  where
    z : Dy 0 (pos 0) (fin true 0 (pos 0))
    z = (0, refl, refl)

    has : Has4 -ISwap mono_i_swap
    has = ((1-is, (z, 0-is.0), 0-is, (z, z)), (0-is, 0-is, (z, i-is.1), 0-is), ((0-is.0, z), i-is, 0-is, 0-is), (0-is, 0-is, 0-is, (1-is.0, z)))

-- ---- off-diagonal norms

norm-Swap : offdiag4_of gate_swap ≡ √2
norm-Swap = off-norm gate_swap mono_swap has-Swap

-- ---- classes

-- the tolerances 0.0, -0.0 and 0.001
tolerance-0 : Tolerance f0
unfolding of_bits fits le lt eq
tolerance-0 = record { held = tt; low = tt; high = tt }

tolerance--0 : Tolerance -0
unfolding -0 of_bits fits le lt eq
tolerance--0 = record { held = tt; low = tt; high = tt }

tolerance-max : Tolerance max_tolerance
unfolding of_bits fits le lt eq
tolerance-max = record { held = tt; low = tt; high = tt }

mono_cz : Mono4
mono_cz = record { swap = false; turn_a = false; turn_b = false; phases = four i0 i0 i0 i2 }

has-Cz : Has4 gate_cz mono_cz
unfolding mono_cz
has-Cz = ((1-is, 0-is, 0-is, 0-is), (0-is, 1-is, 0-is, 0-is), (0-is, 0-is, 1-is, 0-is), (0-is, 0-is, 0-is, -1-is))

-- Cz is an interaction; with relabelling it is a matchgate and an exchange
class-Cz : classify2_of false f0 gate_cz ≡ class2 Interaction false gate_cz true
unfolding mono_cz
class-Cz = classify-unfit f0 tolerance-0 gate_cz mono_cz has-Cz refl

class-Cz-relabelled : classify2_of true f0 gate_cz ≡ class2 (Match f0) true (swap4_of gate_cz) true
unfolding mono_cz
class-Cz-relabelled = classify-swapped f0 tolerance-0 gate_cz mono_cz has-Cz refl

-- Swap is neither; with relabelling it is an exchange alone
class-Swap : classify2_of false f0 gate_swap ≡ class2 (NonGaussian f1) false gate_swap false
class-Swap = classify-unfit f0 tolerance-0 gate_swap mono_swap has-Swap refl

class-Swap-relabelled : classify2_of true f0 gate_swap ≡ class2 Diag true (swap4_of gate_swap) true
class-Swap-relabelled = classify-swapped f0 tolerance-0 gate_swap mono_swap has-Swap refl

-- ISwap is a matchgate, and not angled; with the tolerance -0.0 too
class-ISwap : (relabel : Bool) → classify2_of relabel -0 gate_i_swap ≡ class2 (Match f0) false gate_i_swap false
class-ISwap relabel = classify-fits -0 tolerance--0 gate_i_swap mono_i_swap has-ISwap relabel refl

-- X and Y on two qubits turn both bits
class-X-Y : (relabel : Bool) → classify2_of relabel f0 (kron_of gate_x gate_y) ≡ class2 (Match f0) false (kron_of gate_x gate_y) false
class-X-Y relabel =
    classify-fits f0 tolerance-0 (kron_of gate_x gate_y) (kron4 mono_x mono_y) (kron-has gate_x gate_y mono_x mono_y has-X has-Y) relabel
    (kron-even mono_x mono_y)

bits-X-Y : (bit_a (kron4 mono_x mono_y) false false ≡ true) × (bit_b (kron4 mono_x mono_y) false false ≡ true)
bits-X-Y = (refl, refl)
