-- Two sign rows, computed from the gate list to a parity. The sign row, on three qubits: R(1,2), X on 0, R(0,1), R(1,2), where R(a,b) is Cnot, Sx on a, Cnot.
-- Each R fuses into one block, a matchgate whose residual is exactly 0; the X goes into the second block, whose determinant is then -1. Z of qubit 2 is -1,
-- and an engine that never turns a sign answers +1, as does one that turns its own rows too, and one that does not settle. One that turns the next mode only
-- is right there, where no other mode is left to turn. The far row, on four qubits, shows it: R(2,3), X on 0, R(0,1), R(1,2), R(2,3), and Z of qubit 3. Each
-- stage is computed once: items, order and counts, operations, parity. Assumes nothing.
use mathlib.Core.Path.{◌≡◌, refl, ap}
use mathlib.Core.Bool.{false, cond}
use mathlib.Core.List.{List, [], ◌∷◌}
use Prim.Native.Nat.{ℕ, ◌+◌}
use lib.ListN.{length}
use lib.Ieee.{Float, le, lt, eq, add, sub, mul, div, neg, is_nan, of_bits, to_unsigned, of_int}
use Rattle.laws.specs.Zeros.{+0, +1}
use Rattle.laws.specs.Lists.{in_order}
use Rattle.laws.specs.Views.{up_from, until, from, list_of}
use Rattle.laws.specs.Maps.{dot}
use Rattle.num.specs.Order.{abs_of, max_of}
use Rattle.num.specs.Root.{sqrt_of}
use Rattle.real.specs.Maps.{real4, map4}
use Rattle.real.specs.declared.maps.Map4.{Map4}
use Rattle.gate.specs.Complex.{cx, f0, c0, is_zero_of}
use Rattle.gate.specs.Matrix.{row4, mat4, dot2_of, mul2_of, time_product_from, time_product_of, kron_row_of, kron_of, axpy_of, row_mul_of, mul4_of}
use Rattle.gate.specs.Matrix.{conj_column_of, dag4_of}
use Rattle.gate.specs.declared.complex.Complex.{Complex}
use Rattle.gate.specs.declared.matrix.Mat4.{Mat4}
use Rattle.named.specs.Table.{f½, f-½, f-1, gate_x, gate_sx, gate_cnot}
use Rattle.tape.specs.declared.header.Header.{Header}
use Rattle.tape.specs.declared.gates.Gate.{Gate}
use Rattle.tape.specs.declared.gates.Gate.TheVariants.{One, Two}
use Rattle.majorana.specs.Majorana.{largest_root_of, majorana0, majorana1, majorana2, majorana3, image4_of, trace_row4_of}
use Rattle.majorana.specs.Majorana.{trace4_of, coefficient4_of, coefficients4_of, less_row4_of, less4_of, rest4_of, plus_row4_of}
use Rattle.majorana.specs.Majorana.{square4_of, distance4_of, map_row4_of, map_distance4_of, majorana_map2_of}
use Rattle.classify.specs.Diagonal.{plus_three_of, off_square_of, offdiag4_of, interaction_of, phase_none_of}
use Rattle.classify.specs.Classify.{diagonal_of, without_phase_of, residual2_of, plain_of, classify2_of}
use Rattle.fuse.specs.Events.{product}
use Rattle.fuse.specs.Relabel.{labelled, unlabelled}
use Rattle.fuse.specs.Fuse.{fused}
use Rattle.fuse.specs.Compress.{diagonal2_of, compressed}
use Rattle.order.specs.declared.choice.Ordering.{Ordering}
use Rattle.order.specs.Arrangement.{find}
use Rattle.order.specs.Choice.{Arrangement, choose_order_of}
use Rattle.resolve.specs.Items as Items
use Rattle.resolve.specs.Items.{Item, matchgate}
use Rattle.resolve.specs.Cuts.{ones, ahead, keep, cuts, prefix_of}
use Rattle.resolve.specs.Choose.{level_of, candidate_of, better_of, offer_of, offers_of, all_offers, try_each, choose_of}
use Rattle.resolve.specs.Resolve.{candidates, chosen, resolved, with_rests, start_of}
use Rattle.resolve.specs.Whole.{Fused, resolved_of, fuse_of}
use Rattle.detect.specs.Counts.{adjacent_share, match_share, two_share, plus_of, counted_onto, counts_of}
use Rattle.detect.specs.Report.{free_of}
use Rattle.detect.specs.Operation.{Operation, two, places_of}
use Rattle.detect.specs.Emit.{oriented_of, two_operations, operations_of}
use Rattle.detect.specs.Compile.{match_pairs, labels_of, items_of, order_of, tape_counts, program_of}
use Rattle.detect.proofs.Edges.{Fusing, fusing, tally-is}
use Rattle.local.specs.State.{vacuum, get}
use Rattle.local.specs.Det.{better_of as better, last_largest, less, lowered_all, eliminated, det, odd}
use Rattle.state.specs.Operation.{Engine, is_whole, mode_of, two_of, decode_of, effect}
use Rattle.queries.specs.Products.{z_of}
use Rattle.evolve.specs.Evolve.{decoded_by, evolved_by}
use Rattle.signs.specs.Engines.{no_turn, own_turn, no_settling, next_turn}

-- ---- the lists

abbrev pub header : Header
header = record { n = 3; flags = 0; tolerance = f0; limit = 288 }

abbrev pub far_header : Header
far_header = record { n = 4; flags = 0; tolerance = f0; limit = 512 }

-- R(a, b), and then more
abbrev pub r : ℕ → ℕ → List Gate → List Gate
r a b gs = Two 0x10 a b gate_cnot ∷ One 0x07 a gate_sx ∷ Two 0x10 a b gate_cnot ∷ gs

abbrev pub gates : List Gate
gates = r 1 2 (One 0x02 0 gate_x ∷ r 0 1 (r 1 2 []))

abbrev pub far_gates : List Gate
far_gates = r 2 3 (One 0x02 0 gate_x ∷ r 0 1 (r 1 2 (r 2 3 [])))

-- ---- the items

-- (1 + i) / 2 and (1 - i) / 2
abbrev pub a : Complex
a = cx f½ f½

abbrev pub b : Complex
b = cx f½ f-½

-- R, and R after X on its first qubit
abbrev pub plain : Mat4
plain = mat4 (row4 a c0 c0 b) (row4 c0 a b c0) (row4 c0 b a c0) (row4 b c0 c0 a)

abbrev pub flipped : Mat4
flipped = mat4 (row4 c0 b a c0) (row4 b c0 c0 a) (row4 a c0 c0 b) (row4 c0 a b c0)

-- a block on the wires k and k + 1
abbrev block : ℕ → Mat4 → Item
block k u = Items.two matchgate k (k + 1) f0 u

-- the newest first
abbrev pub items : List Item
items = block 1 plain ∷ block 0 flipped ∷ block 1 plain ∷ []

abbrev pub far_items : List Item
far_items = block 2 plain ∷ block 1 plain ∷ block 0 flipped ∷ block 2 plain ∷ []

-- the wires keep their places, and each block was tried once
abbrev found : List Item → List ℕ → Fused
found xs wires = record { items = xs; content = wires; swaps = 0; tried = length xs; angled = false }

items-are : (items_of header gates ≡ found items (0 ∷ 1 ∷ 2 ∷ [])) × (items_of far_header far_gates ≡ found far_items (0 ∷ 1 ∷ 2 ∷ 3 ∷ []))
unfolding largest_root_of majorana0 majorana1 majorana2 majorana3 image4_of trace_row4_of trace4_of coefficient4_of coefficients4_of less_row4_of less4_of
    rest4_of plus_row4_of square4_of distance4_of map_row4_of map_distance4_of majorana_map2_of dot2_of mul2_of time_product_from time_product_of
    kron_row_of kron_of axpy_of row_mul_of mul4_of conj_column_of dag4_of is_zero_of max_of abs_of sqrt_of add sub mul div neg lt le eq of_bits is_nan
    plus_three_of off_square_of offdiag4_of interaction_of phase_none_of diagonal_of without_phase_of residual2_of plain_of classify2_of up_from until from
    product labelled unlabelled labels_of items_of fused diagonal2_of compressed ones ahead keep cuts prefix_of level_of candidate_of better_of offer_of
    offers_of all_offers try_each choose_of candidates chosen resolved with_rests start_of resolved_of fuse_of
items-are = (refl, refl)

-- ---- the order and the counts

labels-are : ((labels_of header gates).lab ≡ list_of 3 (λ q. q)) × ((labels_of far_header far_gates).lab ≡ list_of 4 (λ q. q))
unfolding labels_of labelled unlabelled up_from
labels-are = (refl, refl)

pub fusing-is : Fusing header gates items (0 ∷ 1 ∷ 2 ∷ []) 0 false
fusing-is = fusing header gates (found items (0 ∷ 1 ∷ 2 ∷ [])) items-are.0 labels-are.0

pub far-fusing : Fusing far_header far_gates far_items (0 ∷ 1 ∷ 2 ∷ 3 ∷ []) 0 false
far-fusing = fusing far_header far_gates (found far_items (0 ∷ 1 ∷ 2 ∷ 3 ∷ [])) items-are.1 labels-are.1

abbrev pub identity : Arrangement
identity = record { name = Ordering.Identity; order = 0 ∷ 1 ∷ 2 ∷ []; starts = 1 ∷ 0 ∷ 0 ∷ [] }

abbrev pub far_identity : Arrangement
far_identity = record { name = Ordering.Identity; order = 0 ∷ 1 ∷ 2 ∷ 3 ∷ []; starts = 1 ∷ 0 ∷ 0 ∷ 0 ∷ [] }

pub order_is : (order_of header gates ≡ identity) × (order_of far_header far_gates ≡ far_identity)
unfolding order_of choose_order_of match_pairs
order_is = (
  ap (λ xs. choose_order_of false 3 (match_pairs xs)) fusing-is.items,
  ap (λ xs. choose_order_of false 4 (match_pairs xs)) far-fusing.items,
)

counts-are : tape_counts header gates ≡ counts_of f0 (λ w. find w (0 ∷ 1 ∷ 2 ∷ [])) items
counts-are = tally-is header gates items (0 ∷ 1 ∷ 2 ∷ []) 0 false identity fusing-is order_is.0

far-counts : tape_counts far_header far_gates ≡ counts_of f0 (λ w. find w (0 ∷ 1 ∷ 2 ∷ 3 ∷ [])) far_items
far-counts = tally-is far_header far_gates far_items (0 ∷ 1 ∷ 2 ∷ 3 ∷ []) 0 false far_identity far-fusing order_is.1

-- no block is bad, and none an interaction
abbrev NoneBad : Header → List Gate → Type 0
NoneBad h gs = ((tape_counts h gs).bad ≡ 0) × ((tape_counts h gs).interactions ≡ 0)

pub none-bad : NoneBad header gates × NoneBad far_header far_gates
unfolding counted_onto plus_of two_share match_share adjacent_share find
none-bad = (
  (ap (λ c. c.bad) counts-are, ap (λ c. c.interactions) counts-are),
  (ap (λ c. c.bad) far-counts, ap (λ c. c.interactions) far-counts),
)

-- ---- the operations

-- the maps of the two blocks
abbrev pub turn : Map4
turn = map4 (real4 +1 +0 +0 +0) (real4 +0 +0 f-1 +0) (real4 +0 +1 +0 +0) (real4 +0 +0 +0 +1)

abbrev pub turn_x : Map4
turn_x = map4 (real4 +1 +0 +0 +0) (real4 +0 +0 +1 +0) (real4 +0 f-1 +0 +0) (real4 +0 +0 +0 f-1)

abbrev pub program : List Operation
program = two 1 turn ∷ two 0 turn_x ∷ two 1 turn ∷ []

abbrev pub far_program : List Operation
far_program = two 2 turn ∷ two 0 turn_x ∷ two 1 turn ∷ two 2 turn ∷ []

pub program-is : (program_of header gates ≡ program) × (program_of far_header far_gates ≡ far_program)
unfolding program_of counted_onto plus_of two_share match_share adjacent_share find operations_of two_operations oriented_of largest_root_of majorana0
    majorana1 majorana2 majorana3 image4_of trace_row4_of trace4_of coefficient4_of coefficients4_of map_row4_of majorana_map2_of kron_row_of kron_of
    axpy_of row_mul_of mul4_of conj_column_of dag4_of is_zero_of add sub mul div neg lt le eq of_bits is_nan
program-is = (
  (λ i. cond (free_of (counts-are i)) (operations_of (λ w. find w (order_is.0 i).order) (fusing-is.items i)) []),
  (λ i. cond (free_of (far-counts i)) (operations_of (λ w. find w (order_is.1 i).order) (far-fusing.items i)) []),
)

-- ---- the parities

-- what an engine gives to Z of qubit 2, and of qubit 3
abbrev pub Gives : Engine → Float → Type 0
Gives e x = z_of (get (evolved_by e 3 program vacuum)) 2 ≡ x

abbrev pub FarGives : Engine → Float → Type 0
FarGives e x = z_of (get (evolved_by e 4 far_program vacuum)) 3 ≡ x

-- this one
pub turned : Gives effect f-1 × FarGives effect f-1
unfolding dot odd det up_from eliminated last_largest better lowered_all less abs_of is_whole mode_of two_of decode_of effect places_of decoded_by in_order
    to_unsigned of_int lt le eq is_nan add sub mul div neg of_bits
turned = (refl, refl)

-- one that never turns, one that turns its own rows too, and one that does not settle, by the sign row; one that turns the next mode only, by the far row
pub lost-gives : Gives no_turn +1 × Gives own_turn +1 × Gives no_settling +1 × FarGives next_turn +1
unfolding dot odd det up_from eliminated last_largest better lowered_all less abs_of is_whole mode_of two_of decode_of places_of decoded_by in_order
    to_unsigned of_int lt le eq is_nan add sub mul div neg of_bits
lost-gives = (refl, refl, refl, refl)

-- by the sign row the last one is right
next-right : Gives next_turn f-1
unfolding dot odd det up_from eliminated last_largest better lowered_all less abs_of is_whole mode_of two_of decode_of places_of decoded_by in_order
    to_unsigned of_int lt le eq is_nan add sub mul div neg of_bits
next-right = refl
