-- The report and the operations of a tape that passes the questions 1 to 8 (000, `compile`): slots, items, order, modes, counts, program. What `compile`
-- asks, answers and leaves in the slices is in specs/Questions.antt. Assumes nothing. A public promise rests on this.
use Rattle.std.specs.Prelude.{Bool, cond, List, [], ◌∷◌, ◌++◌, ℕ, ◌/◌, ◌%◌, eqb, get_or}
use Rattle.tape.specs.declared.header.Header.{Header}
use Rattle.tape.specs.declared.gates.Gate.{Gate}
use Rattle.order.specs.declared.edges.Pair.{Pair}
use Rattle.order.specs.Weights.{pair_of}
use Rattle.order.specs.Arrangement.{find}
use Rattle.order.specs.Choice.{Arrangement, choose_order_of}
use Rattle.fuse.specs.Relabel.{Labelled, labelled, unlabelled}
use Rattle.resolve.specs.Items as Items
use Rattle.resolve.specs.Items.{Item, is_matchgate}
use Rattle.resolve.specs.Whole.{Fused, fuse_of}
use Rattle.detect.specs.declared.count.Counts.{Counts}
use Rattle.detect.specs.declared.report.Report.{Report}
use Rattle.detect.specs.Operation.{Operation}
use Rattle.detect.specs.Emit.{operations_of}
use Rattle.detect.specs.Counts.{counts_of}
use Rattle.detect.specs.Report.{table, free_of, report_of}

-- ---- the program of a tape

-- "bit 0 relabels swaps, bit 1 reorders"
abbrev pub relabels_of : Header → Bool
relabels_of h = eqb (h.flags % 2) 1

abbrev pub reorders_of : Header → Bool
reorders_of h = eqb (h.flags / 2 % 2) 1

-- the pairs of the matchgates, in item order; items are the newest first
unfoldable pub match_pairs : List Item → List Pair
match_pairs [] = []
match_pairs (Items.one w u ∷ xs) = match_pairs xs
match_pairs (Items.two kind a b r v ∷ xs) = match_pairs xs ++ cond (is_matchgate kind) (pair_of a b ∷ []) []
match_pairs (Items.opaque ∷ xs) = match_pairs xs

module _ (h : Header) (gs : List Gate) where
  -- the gates on slots
  unfoldable pub labels_of : Labelled
  labels_of = labelled (relabels_of h) gs (unlabelled h.n)

  -- the items
  unfoldable pub items_of : Fused
  items_of = fuse_of (relabels_of h) h.tolerance h.n labels_of.swaps labels_of.events

  -- the order
  unfoldable pub order_of : Arrangement
  order_of = choose_order_of (reorders_of h) h.n (match_pairs items_of.items)

  -- the mode of wire w
  abbrev pub mode_of_wire : ℕ → ℕ
  mode_of_wire w = find w order_of.order

  -- of qubit q: `pos[content[slot_of_qubit[q]]]`
  abbrev pub mode_of_qubit : ℕ → ℕ
  mode_of_qubit q = mode_of_wire (get_or items_of.content (get_or labels_of.lab q 0) 0)

  unfoldable pub tape_counts : Counts
  tape_counts = counts_of h.tolerance mode_of_wire items_of.items

  unfoldable pub reported_of : Report
  reported_of =
      report_of h.n tape_counts items_of.swaps items_of.angled order_of.name (table h.n (λ k. get_or order_of.order k 0))
      (table h.n (λ k. get_or order_of.starts k 0)) (table h.n mode_of_qubit)

  -- "Operations are empty when anything is bad"
  unfoldable pub program_of : List Operation
  program_of = cond (free_of tape_counts) (operations_of mode_of_wire items_of.items) []
