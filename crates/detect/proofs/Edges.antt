-- Edges of the definitions, by computing: ISwap(0, 2) on three qubits with and without reordering, Cz with and without relabelling. Assumes nothing.
use mathlib.Core.Path.{◌≡◌, refl, ap, ap₂}
use mathlib.Core.Bool.{Bool, true, false}
use mathlib.Core.List.{List, [], ◌∷◌}
use Prim.Native.Nat.{ℕ}
use lib.ListN.{take, get_or}
use lib.Ieee.{add, sub, mul, div, neg, eq, lt, le, of_bits, is_nan}
use Rattle.laws.specs.Views.{until, from, up_from, list_of}
use Rattle.num.specs.Order.{abs_of, max_of, min_of}
use Rattle.num.specs.Root.{sqrt_of}
use Rattle.gate.specs.Complex.{f0, is_zero_of}
use Rattle.gate.specs.Matrix.{id2, kron_row_of, kron_of, axpy_of, row_mul_of, mul4_of, conj_column_of, dag4_of, time_product_from, time_product_of}
use Rattle.gate.specs.declared.matrix.Mat4.{Mat4}
use Rattle.named.specs.Table.{gate_cz, gate_i_swap}
use Rattle.tape.specs.declared.header.Header.{Header}
use Rattle.tape.specs.declared.gates.Gate.{Gate}
use Rattle.tape.specs.declared.gates.Gate.TheVariants.{Two}
use Rattle.majorana.specs.Majorana.{
  largest_root_of,
  majorana0,
  majorana1,
  majorana2,
  majorana3,
  image4_of,
  trace_row4_of,
  trace4_of,
  coefficient4_of,
  coefficients4_of,
  less_row4_of,
  less4_of,
  rest4_of,
  plus_row4_of,
  square4_of,
  distance4_of,
  map_row4_of,
  map_distance4_of,
  majorana_map2_of,
  swap4_of,
}
use Rattle.classify.specs.Diagonal.{plus_three_of, off_square_of, offdiag4_of, interaction_of, phase_none_of}
use Rattle.classify.specs.Classify.{diagonal_of, without_phase_of, residual2_of, class2, plain_of, fallback_of, swapped_of, classify2_of}
use Rattle.classify.specs.declared.classify.Class2.{Class2}
use Rattle.classify.specs.declared.classify.Kind2.TheVariants.{Interaction, Match}
use Rattle.order.specs.declared.choice.Ordering.{Ordering}
use Rattle.order.specs.Arrangement.{find}
use Rattle.order.specs.Choice.{Arrangement, choose_order_of}
use Rattle.fuse.specs.Relabel.{labelled, unlabelled}
use Rattle.fuse.specs.Fuse.{fused}
use Rattle.fuse.specs.Compress.{compressed}
use Rattle.resolve.specs.Items as Items
use Rattle.resolve.specs.Items.{Item}
use Rattle.resolve.specs.Cuts.{ones, ahead, keep, cuts, prefix_of}
use Rattle.resolve.specs.Choose.{level_of, candidate_of, better_of, no_choice, offer_of, offers_of, all_offers, try_each, choose_of}
use Rattle.resolve.specs.Resolve.{settled, candidates, chosen, resolved, with_rests, start_of}
use Rattle.resolve.specs.Whole.{Fused, fused_of, resolved_of, fuse_of}
use Rattle.detect.specs.Counts.{adjacent_share, match_share, two_share, plus_of, counted_onto, counts_of}
use Rattle.detect.specs.Report.{table, report_of}
use Rattle.detect.specs.Compile.{match_pairs, labels_of, items_of, order_of, tape_counts, reported_of}

-- n qubits, flags, tolerance 0
abbrev header : ℕ → ℕ → Header
header n flags = record { n = n; flags = flags; tolerance = f0; limit = 0 }

-- ISwap(0, 2), Cz(0, 1)
abbrev iswap : List Gate
iswap = Two 0x13 0 2 gate_i_swap ∷ []

abbrev cz : List Gate
cz = Two 0x11 0 1 gate_cz ∷ []

-- ---- the items: the gates' own matrices, but for Cz with relabelling, which is SWAP times a matchgate ("Cz with relabelling: matchgate")

pub record Fusing (h : Header) (gs : List Gate) (xs : List Item) (content : List ℕ) (swaps : ℕ) (angled : Bool) : Type 0 where
  pub items : (items_of h gs).items ≡ xs
  pub wires : (items_of h gs).content ≡ content
  pub slots : (labels_of h gs).lab ≡ list_of h.n (λ q. q)
  pub renamings : (items_of h gs).swaps ≡ swaps
  pub angle : (items_of h gs).angled ≡ angled

-- a block that is all of a tape takes nothing before it and nothing after it
abbrev block : Mat4 → Mat4
block u = mul4_of (kron_of id2 id2) (mul4_of u (kron_of id2 id2))

-- the blocks' classes. Each is computed here, once: no float is computed after this
classes : (classify2_of false f0 (block gate_i_swap) ≡ class2 (Match f0) false gate_i_swap false)
    × (classify2_of true f0 (block gate_cz) ≡ class2 (Match f0) true (swap4_of gate_cz) true)
    × (classify2_of false f0 (block gate_cz) ≡ class2 Interaction false gate_cz true)
unfolding largest_root_of majorana0 majorana1 majorana2 majorana3 image4_of trace_row4_of trace4_of coefficient4_of coefficients4_of less_row4_of less4_of
    rest4_of plus_row4_of square4_of distance4_of map_row4_of map_distance4_of majorana_map2_of kron_row_of kron_of axpy_of row_mul_of mul4_of
    conj_column_of dag4_of is_zero_of max_of min_of abs_of sqrt_of add sub mul div neg lt le eq of_bits is_nan plus_three_of off_square_of offdiag4_of
    interaction_of phase_none_of diagonal_of without_phase_of residual2_of swap4_of plain_of fallback_of swapped_of classify2_of
classes = (refl, refl, refl)

-- the block u of class c on (a, b), alone on n slots
abbrev alone : ℕ → ℕ → ℕ → Mat4 → Class2 → Fused
alone n a b u c =
    let s = offer_of 0 0 c (record { best = no_choice (mul4_of u (kron_of id2 id2)); angled = false }) in
    fused_of n (settled a b 1 s.best s.angled (start_of n 0))

wholes : (items_of (header 3 2) iswap ≡ alone 3 0 2 gate_i_swap (class2 (Match f0) false gate_i_swap false))
    × (items_of (header 3 0) iswap ≡ alone 3 0 2 gate_i_swap (class2 (Match f0) false gate_i_swap false))
    × (items_of (header 2 1) cz ≡ alone 2 0 1 gate_cz (class2 (Match f0) true (swap4_of gate_cz) true))
    × (items_of (header 2 0) cz ≡ alone 2 0 1 gate_cz (class2 Interaction false gate_cz true))
unfolding items_of labels_of labelled unlabelled up_from fuse_of resolved_of fused compressed resolved until from chosen candidates choose_of all_offers
    offers_of try_each cuts keep ones ahead prefix_of time_product_from time_product_of start_of
wholes = (
  ap (alone 3 0 2 gate_i_swap) classes.0,
  ap (alone 3 0 2 gate_i_swap) classes.0,
  ap (alone 2 0 1 gate_cz) classes.1,
  ap (alone 2 0 1 gate_cz) classes.2,
)

pub fusing : (h : Header) (gs : List Gate) (x : Fused) → items_of h gs ≡ x → (labels_of h gs).lab ≡ list_of h.n (λ q. q)
    → Fusing h gs x.items x.content x.swaps x.angled
fusing h gs x e l = record {
  items = ap (λ x. x.items) e;
  wires = ap (λ x. x.content) e;
  slots = l;
  renamings = ap (λ x. x.swaps) e;
  angle = ap (λ x. x.angled) e;
}

pub fusings : Fusing (header 3 2) iswap (Items.two Items.matchgate 0 2 f0 gate_i_swap ∷ []) (0 ∷ 1 ∷ 2 ∷ []) 0 false
    × Fusing (header 3 0) iswap (Items.two Items.matchgate 0 2 f0 gate_i_swap ∷ []) (0 ∷ 1 ∷ 2 ∷ []) 0 false
    × Fusing (header 2 1) cz (Items.two Items.matchgate 0 1 f0 (swap4_of gate_cz) ∷ []) (1 ∷ 0 ∷ []) 1 true
    × Fusing (header 2 0) cz (Items.two Items.interacting 0 1 f0 gate_cz ∷ []) (0 ∷ 1 ∷ []) 0 true
unfolding labels_of labelled unlabelled up_from offer_of candidate_of level_of better_of with_rests start_of
fusings = (
  fusing (header 3 2) iswap _ wholes.0 refl,
  fusing (header 3 0) iswap _ wholes.1 refl,
  fusing (header 2 1) cz _ wholes.2 refl,
  fusing (header 2 0) cz _ wholes.3 refl,
)

-- ---- the reports

pub record Reporting (h : Header) (gs : List Gate) (gaussian bad nonadjacent interactions : ℕ) (o : Ordering) (order modes : List ℕ) : Type 0 where
  pub gaussian-is : (reported_of h gs).gaussian ≡ gaussian
  pub bad-is : (reported_of h gs).bad ≡ bad
  pub nonadjacent-is : (reported_of h gs).nonadjacent ≡ nonadjacent
  pub interactions-are : (reported_of h gs).interactions ≡ interactions
  pub ordering-is : (reported_of h gs).ordering ≡ o
  pub order_is : take h.n (reported_of h gs).order ≡ order
  pub modes-are : take h.n (reported_of h gs).modes ≡ modes

abbrev identity : List ℕ → List ℕ → Arrangement
identity order starts = record { name = Ordering.Identity; order = order; starts = starts }

orders : (order_of (header 3 2) iswap ≡ record { name = Ordering.Paths; order = 0 ∷ 2 ∷ 1 ∷ []; starts = 1 ∷ 0 ∷ 1 ∷ [] })
    × (order_of (header 3 0) iswap ≡ identity (0 ∷ 1 ∷ 2 ∷ []) (1 ∷ 0 ∷ 0 ∷ []))
    × (order_of (header 2 1) cz ≡ identity (0 ∷ 1 ∷ []) (1 ∷ 0 ∷ []))
    × (order_of (header 2 0) cz ≡ identity (0 ∷ 1 ∷ []) (1 ∷ 0 ∷ []))
unfolding order_of choose_order_of match_pairs
orders = (
  ap (λ xs. choose_order_of true 3 (match_pairs xs)) fusings.0.items,
  ap (λ xs. choose_order_of false 3 (match_pairs xs)) fusings.1.items,
  ap (λ xs. choose_order_of false 2 (match_pairs xs)) fusings.2.items,
  ap (λ xs. choose_order_of false 2 (match_pairs xs)) fusings.3.items,
)

module _ (h : Header) (gs : List Gate) (xs : List Item) (content : List ℕ) (swaps : ℕ) (angled : Bool) (a : Arrangement)
    (f : Fusing h gs xs content swaps angled) (o : order_of h gs ≡ a) where
  -- the report's parts, by the items and the order
  pub tally-is : tape_counts h gs ≡ counts_of h.tolerance (λ w. find w a.order) xs
  unfolding tape_counts
  tally-is = ap₂ (λ a xs. counts_of h.tolerance (λ w. find w a.order) xs) o f.items

  pub modes-by : (reported_of h gs).modes ≡ table h.n (λ q. find (get_or content (get_or (list_of h.n (λ q. q)) q 0) 0) a.order)
  unfolding reported_of report_of
  modes-by = λ z. table h.n (λ q. find (get_or (f.wires z) (get_or (f.slots z) q 0) 0) (o z).order)

reporting : (h : Header) (gs : List Gate) (xs : List Item) (content : List ℕ) (swaps : ℕ) (angled : Bool) (a : Arrangement)
    → Fusing h gs xs content swaps angled → order_of h gs ≡ a
    → let c = counts_of h.tolerance (λ w. find w a.order) xs in
    Reporting h gs c.gaussian c.bad c.nonadjacent c.interactions a.name (take h.n (table h.n (λ k. get_or a.order k 0)))
    (take h.n (table h.n (λ q. find (get_or content (get_or (list_of h.n (λ q. q)) q 0) 0) a.order)))
unfolding reported_of report_of
reporting h gs xs content swaps angled a f o =
    let c = tally-is h gs xs content swaps angled a f o in
    record {
      gaussian-is = ap (λ c. c.gaussian) c;
      bad-is = ap (λ c. c.bad) c;
      nonadjacent-is = ap (λ c. c.nonadjacent) c;
      interactions-are = ap (λ c. c.interactions) c;
      ordering-is = ap (λ a. a.name) o;
      order_is = ap (λ a. take h.n (table h.n (λ k. get_or a.order k 0))) o;
      modes-are = ap (take h.n) (modes-by h gs xs content swaps angled a f o);
    }

-- "ISwap(0,2), n = 3: order 0 2 1, paths"; without reordering it is nonadjacent. "Cz with relabelling: matchgate, mode table 1 0"; without, an interaction
pub edges : Reporting (header 3 2) iswap 1 0 0 0 Ordering.Paths (0 ∷ 2 ∷ 1 ∷ []) (0 ∷ 2 ∷ 1 ∷ [])
    × Reporting (header 3 0) iswap 0 1 1 0 Ordering.Identity (0 ∷ 1 ∷ 2 ∷ []) (0 ∷ 1 ∷ 2 ∷ [])
    × Reporting (header 2 1) cz 1 0 0 0 Ordering.Identity (0 ∷ 1 ∷ []) (1 ∷ 0 ∷ [])
    × Reporting (header 2 0) cz 0 0 0 1 Ordering.Identity (0 ∷ 1 ∷ []) (0 ∷ 1 ∷ [])
unfolding counted_onto plus_of two_share match_share adjacent_share table up_from find
edges = (
  reporting (header 3 2) iswap _ _ _ _ _ fusings.0 orders.0,
  reporting (header 3 0) iswap _ _ _ _ _ fusings.1 orders.1,
  reporting (header 2 1) cz _ _ _ _ _ fusings.2 orders.2,
  reporting (header 2 0) cz _ _ _ _ _ fusings.3 orders.3,
)
