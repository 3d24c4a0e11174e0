-- Choices of cuts, computed from the gate list to the items: a later candidate with a better score is taken, a split leaves a remainder that is an item of its
-- own, and a block that is SWAP · v renames the wires before a remainder follows. R(a, b) is Cnot, Sx on a, Cnot: a matchgate, which Sx on a commutes with
-- and which is none with Sx beside it. Assumes nothing.
use mathlib.Core.Path.{◌≡◌, refl}
use mathlib.Core.Bool.{true, false}
use mathlib.Core.List.{List, [], ◌∷◌}
use Prim.Native.Nat.{ℕ}
use lib.Ieee.{le, lt, eq, add, sub, mul, div, neg, is_nan, of_bits}
use Rattle.laws.specs.Views.{up_from, until, from}
use Rattle.num.specs.Order.{abs_of, max_of, min_of}
use Rattle.num.specs.Root.{sqrt_of}
use Rattle.gate.specs.Complex.{f0, is_zero_of}
use Rattle.gate.specs.Matrix.{dot2_of, mul2_of, time_step_of, time_product_from, time_product_of, kron_row_of, kron_of, axpy_of, row_mul_of, mul4_of, conj_column_of, dag4_of}
use Rattle.named.specs.Table.{gate_x, gate_sx, gate_sxdg, gate_cz}
use Rattle.tape.specs.declared.header.Header.{Header}
use Rattle.tape.specs.declared.gates.Gate.{Gate}
use Rattle.tape.specs.declared.gates.Gate.TheVariants.{One, Two}
use Rattle.majorana.specs.Majorana.{
  largest_root_of,
  majorana0,
  majorana1,
  majorana2,
  majorana3,
  image4_of,
  trace_row4_of,
  trace4_of,
  coefficient4_of,
  coefficients4_of,
  less_row4_of,
  less4_of,
  rest4_of,
  plus_row4_of,
  square4_of,
  distance4_of,
  map_row4_of,
  map_distance4_of,
  majorana_map2_of,
  swap4_of,
}
use Rattle.classify.specs.Diagonal.{plus_three_of, off_square_of, offdiag4_of, interaction_of, phase_none_of}
use Rattle.classify.specs.Classify.{diagonal_of, without_phase_of, residual2_of, plain_of, fallback_of, swapped_of, classify2_of}
use Rattle.fuse.specs.Events.{product}
use Rattle.fuse.specs.Relabel.{labelled, unlabelled}
use Rattle.fuse.specs.Fuse.{fused}
use Rattle.fuse.specs.Compress.{diagonal2_of, compressed}
use Rattle.resolve.specs.Items as Items
use Rattle.resolve.specs.Items.{matchgate}
use Rattle.resolve.specs.Cuts.{ones, ahead, keep, cuts, prefix_of}
use Rattle.resolve.specs.Choose.{level_of, candidate_of, better_of, offer_of, offers_of, all_offers, try_each, choose_of}
use Rattle.resolve.specs.Resolve.{candidates, chosen, resolved, with_rests, start_of}
use Rattle.resolve.specs.Whole.{Fused, resolved_of, fuse_of}
use Rattle.detect.specs.Compile.{labels_of, items_of}
use Rattle.rows.proofs.SignRow.{r, plain}

-- two qubits, flags, tolerance 0
abbrev header : ℕ → Header
header flags = record { n = 2; flags = flags; tolerance = f0; limit = 0 }

-- ---- the lists, and what fusing makes of them

-- Sx 0, R(0, 1), Sxdg 0: alone the block is no matchgate, with the gate after it it is R. The second of two candidates is the better, and nothing is left
abbrev pub better_gates : List Gate
better_gates = One 0x07 0 gate_sx ∷ r 0 1 (One 0x08 0 gate_sxdg ∷ [])

abbrev pub better_items : Fused
better_items = record { items = Items.two matchgate 0 1 f0 plain ∷ []; content = 0 ∷ 1 ∷ []; swaps = 0; tried = 2; angled = false }

-- the same, then X 0: with the X the block is a matchgate too, but the score with fewer gates taken is the better. The X is left, an item of its own
abbrev pub split_gates : List Gate
split_gates = One 0x07 0 gate_sx ∷ r 0 1 (One 0x08 0 gate_sxdg ∷ One 0x02 0 gate_x ∷ [])

abbrev pub split_items : Fused
split_items = record {
  items = Items.one 0 gate_x ∷ Items.two matchgate 0 1 f0 plain ∷ [];
  content = 0 ∷ 1 ∷ [];
  swaps = 0;
  tried = 3;
  angled = false;
}

-- Cz(0, 1) with relabelling is SWAP · v, v a matchgate: the wires change places, so that the X 0 that is left is on wire 1
abbrev pub renamed_gates : List Gate
renamed_gates = Two 0x11 0 1 gate_cz ∷ One 0x02 0 gate_x ∷ []

abbrev pub renamed_items : Fused
renamed_items = record {
  items = Items.one 1 gate_x ∷ Items.two matchgate 0 1 f0 (swap4_of gate_cz) ∷ [];
  content = 1 ∷ 0 ∷ [];
  swaps = 1;
  tried = 2;
  angled = true;
}

-- ---- the three are computed whole

computed : (items_of (header 0) better_gates ≡ better_items) × (items_of (header 0) split_gates ≡ split_items) × (items_of (header 1) renamed_gates ≡ renamed_items)
unfolding largest_root_of majorana0 majorana1 majorana2 majorana3 image4_of trace_row4_of trace4_of coefficient4_of coefficients4_of less_row4_of less4_of rest4_of
    plus_row4_of square4_of distance4_of map_row4_of map_distance4_of majorana_map2_of dot2_of mul2_of time_step_of time_product_from time_product_of kron_row_of kron_of axpy_of
    row_mul_of mul4_of conj_column_of dag4_of is_zero_of max_of min_of abs_of sqrt_of add sub mul div neg lt le eq of_bits is_nan plus_three_of off_square_of offdiag4_of
    interaction_of phase_none_of diagonal_of without_phase_of residual2_of swap4_of plain_of fallback_of swapped_of classify2_of up_from until from product labelled
    unlabelled labels_of items_of fused diagonal2_of compressed ones ahead keep cuts prefix_of level_of candidate_of better_of offer_of offers_of all_offers try_each
    choose_of candidates chosen resolved with_rests start_of resolved_of fuse_of
computed = (refl, refl, refl)

pub better : items_of (header 0) better_gates ≡ better_items
better = computed.0

pub split : items_of (header 0) split_gates ≡ split_items
split = computed.1

pub renamed : items_of (header 1) renamed_gates ≡ renamed_items
renamed = computed.2
