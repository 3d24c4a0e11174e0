-- Worked values of the definitions, by computation: what some named gates are, and units at the edges. Assumes nothing.
use mathlib.Core.Path.{◌≡◌, refl}
use mathlib.Core.Bool.{true, false}
use lib.Ieee.{inf, nan, add, sub, mul, div, neg, eq, lt, le, of_bits, is_nan}
use Rattle.real.specs.Maps.{real2, map2}
use Rattle.num.specs.Order.{abs_of, max_of, min_of}
use Rattle.num.specs.Root.{sqrt_of}
use Rattle.gate.specs.Complex.{cx, f0, f1, c0, c1, is_zero_of}
use Rattle.gate.specs.Matrix.{kron_row_of, kron_of, axpy_of, row_mul_of, mul4_of, conj_column_of, dag4_of}
use Rattle.named.specs.Table.{f-1, c-1, ci, gate_cnot, gate_cz, gate_i_swap, gate_swap}
use Rattle.std.specs.Prelude.{Some, None}
use Rattle.classify.specs.declared.classify.Kind2.TheVariants.{Diag, Interaction, Match, NonGaussian}
use Rattle.majorana.specs.Majorana.{
  largest_root_of,
  majorana0,
  majorana1,
  majorana2,
  majorana3,
  image4_of,
  trace_row4_of,
  trace4_of,
  coefficient4_of,
  coefficients4_of,
  less_row4_of,
  less4_of,
  rest4_of,
  plus_row4_of,
  square4_of,
  distance4_of,
  map_row4_of,
  map_distance4_of,
  majorana_map2_of,
  swap4_of,
}
use Rattle.classify.specs.Diagonal.{plus_three_of, off_square_of, offdiag4_of, interaction_of, phase_none_of, norm_of, unit_of, turns_of, rotation_map_of, rotation_of}
use Rattle.classify.specs.Classify.{diagonal_of, without_phase_of, residual2_of, class2, plain_of, fallback_of, swapped_of, classify2_of}

-- ---- units: of a zero, of an infinity and of a NaN it is 1

unit-zero : unit_of c0 ≡ c1
unfolding unit_of norm_of sqrt_of add mul div lt of_bits
unit-zero = refl

unit-inf : unit_of (cx (inf false) f0) ≡ c1
unfolding unit_of norm_of sqrt_of add mul div lt of_bits
unit-inf = refl

unit-nan : unit_of (cx nan f0) ≡ c1
unfolding unit_of norm_of sqrt_of add mul div lt of_bits
unit-nan = refl

-- ---- rotations: a wire with the phase 1 gets none, one with -1 or i gets one

still : rotation_of c1 ≡ None
unfolding rotation_of turns_of unit_of norm_of sqrt_of add mul div lt eq of_bits
still = refl

half-turn : rotation_of c-1 ≡ Some (map2 (real2 f-1 (neg f0)) (real2 f0 f-1))
unfolding rotation_of rotation_map_of turns_of unit_of norm_of sqrt_of add mul div neg lt eq of_bits
half-turn = refl

-- ---- a phase counts as none by its argument: 1 does, -1 and i do not, whatever the tolerance

none_1 : phase_none_of f0 c1 ≡ true
unfolding phase_none_of abs_of mul lt le eq of_bits
none_1 = refl

some-minus : phase_none_of f1 c-1 ≡ false
unfolding phase_none_of abs_of mul lt le eq of_bits
some-minus = refl

some-i : phase_none_of f1 ci ≡ false
unfolding phase_none_of abs_of mul lt le eq of_bits
some-i = refl

-- ---- classes, with tolerance 0: ISwap is a matchgate; Cz is SWAP times a matchgate, and without relabelling an interaction; Swap is SWAP times the
-- identity; Cnot is neither

classes : (classify2_of true f0 gate_i_swap ≡ class2 (Match f0) false gate_i_swap false)
    × (classify2_of true f0 gate_cz ≡ class2 (Match f0) true (swap4_of gate_cz) true)
    × (classify2_of false f0 gate_cz ≡ class2 Interaction false gate_cz true)
    × (classify2_of true f0 gate_swap ≡ class2 Diag true (swap4_of gate_swap) true)
    × (classify2_of true f0 gate_cnot ≡ class2 (NonGaussian f1) false gate_cnot false)
unfolding largest_root_of majorana0 majorana1 majorana2 majorana3 image4_of trace_row4_of trace4_of coefficient4_of coefficients4_of less_row4_of less4_of rest4_of
    plus_row4_of square4_of distance4_of map_row4_of map_distance4_of majorana_map2_of kron_row_of kron_of axpy_of row_mul_of mul4_of conj_column_of dag4_of is_zero_of
    max_of min_of abs_of sqrt_of add sub mul div neg lt le eq of_bits is_nan plus_three_of off_square_of offdiag4_of interaction_of phase_none_of diagonal_of
    without_phase_of residual2_of swap4_of plain_of fallback_of swapped_of classify2_of
classes = (refl, refl, refl, refl, refl)
