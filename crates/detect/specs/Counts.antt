-- The report's counts (000, the loop of `compile`): each item has its share, and the shares are summed in item order. "A report counts blocks = Gaussian +
-- bad + interactions, over the item list." Items are the newest first. Assumes nothing. A public promise rests on this.
use Rattle.std.specs.Prelude.{Bool, true, cond, ◌&&◌, List, [], ◌∷◌, ℕ, ◌+◌, Float}
use Rattle.std.specs.Float.Ieee.{le}
use Rattle.num.specs.Order.{max_of}
use Rattle.gate.specs.Complex.{f0, f1}
use Rattle.gate.specs.declared.matrix.Mat4.{Mat4}
use Rattle.majorana.specs.Majorana.{majorana_map1_of, majorana_map2_of}
use Rattle.majorana.specs.Numbers.{commutes_j2_of, number_conserving4_of}
use Rattle.majorana.specs.declared.maps.Mapped.{Mapped}
use Rattle.real.specs.declared.maps.Map4.{Map4}
use Rattle.classify.specs.Diagonal.{phase_a_of, phase_b_of, rotation_of}
use Rattle.std.specs.Prelude.{Option, Some, None}
use Rattle.real.specs.declared.maps.Map2.{Map2}
use Rattle.order.specs.Arrangement.{beside_of}
use Rattle.resolve.specs.Items as Items
use Rattle.resolve.specs.Items.{Item, ItemKind}
use Rattle.detect.specs.declared.count.Counts.{Counts}
use Rattle.detect.specs.Emit.{oriented_of}

-- ---- shares: how many of its wires are two, what it is, how many operations it becomes where nothing is bad

-- Gaussian; an interaction; bad; bad as a matchgate whose modes are not neighbours
abbrev pub gaussian : ℕ → ℕ → Float → Bool → Counts
gaussian two ops r c = record { blocks = 1; two = two; gaussian = 1; bad = 0; nonadjacent = 0; interactions = 0; operations = ops; residual = r; conserving = c }

abbrev pub interacting : ℕ → Counts
interacting ops = record { blocks = 1; two = 1; gaussian = 0; bad = 0; nonadjacent = 0; interactions = 1; operations = ops; residual = f0; conserving = true }

abbrev pub bad : ℕ → ℕ → Float → Counts
bad two ops r = record { blocks = 1; two = two; gaussian = 0; bad = 1; nonadjacent = 0; interactions = 0; operations = ops; residual = r; conserving = true }

abbrev pub apart : Counts
apart = record { blocks = 1; two = 1; gaussian = 0; bad = 1; nonadjacent = 1; interactions = 0; operations = 1; residual = f1; conserving = true }

-- ---- one wire

unfoldable pub one_share : Float → Mapped Map2 → Counts
one_share tol m = cond (le m.residual tol) (gaussian 0 1 m.residual (commutes_j2_of m.q)) (bad 0 1 m.residual)

-- ---- two wires, of modes i and j

-- a matchgate: the larger residual of the map that is applied and of the class
unfoldable pub adjacent_share : Float → Mapped Map4 → Counts
adjacent_share r m = gaussian 1 1 (max_of m.residual r) (number_conserving4_of m.q)

unfoldable pub match_share : ℕ → ℕ → Float → Mat4 → Counts
match_share i j r v = cond (beside_of i j) (adjacent_share r (majorana_map2_of (oriented_of i j v))) apart

-- a diagonal block has no residual, and turns each wire or does not
abbrev pub turned : Option Map2 → ℕ
turned (Some q) = 1
turned None = 0

unfoldable pub turns_in : Mat4 → ℕ
turns_in v = turned (rotation_of (phase_a_of v)) + turned (rotation_of (phase_b_of v))

unfoldable pub two_share : ItemKind → ℕ → ℕ → Float → Mat4 → Counts
two_share Items.matchgate i j r v = match_share i j r v
two_share Items.phaseless i j r v = gaussian 1 (turns_in v) f0 true
two_share Items.interacting i j r v = interacting (turns_in v + 1)
two_share Items.neither i j r v = bad 1 0 r

-- ---- the sum

abbrev pub none : Counts
none = record { blocks = 0; two = 0; gaussian = 0; bad = 0; nonadjacent = 0; interactions = 0; operations = 0; residual = f0; conserving = true }

-- one share more; the residual is Rust's `max`
unfoldable pub plus_of : Counts → Counts → Counts
plus_of c s = record {
  blocks = c.blocks + s.blocks;
  two = c.two + s.two;
  gaussian = c.gaussian + s.gaussian;
  bad = c.bad + s.bad;
  nonadjacent = c.nonadjacent + s.nonadjacent;
  interactions = c.interactions + s.interactions;
  operations = c.operations + s.operations;
  residual = max_of c.residual s.residual;
  conserving = c.conserving && s.conserving;
}

module _ (tol : Float) (pos : ℕ → ℕ) where
  abbrev pub share_of : Item → Counts
  share_of (Items.one w u) = one_share tol (majorana_map1_of u)
  share_of (Items.two kind a b r v) = two_share kind (pos a) (pos b) r v
  share_of Items.opaque = bad 0 0 f1

  -- c and then the items
  unfoldable pub counted_onto : List Item → Counts → Counts
  counted_onto [] c = c
  counted_onto (x ∷ xs) c = plus_of (counted_onto xs c) (share_of x)

  abbrev pub counts_of : List Item → Counts
  counts_of xs = counted_onto xs none
