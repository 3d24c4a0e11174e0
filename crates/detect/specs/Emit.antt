-- Emission (000, the loop of `compile`): what each item becomes, given the mode of each wire. Items are the newest first, operations in time order.
-- Said of lists without bad blocks: where there is one, operations are empty. Assumes nothing. A public promise rests on this.
use Rattle.std.specs.Prelude.{cond, List, [], ◌∷◌, ◌++◌, ℕ, ltb, length, Float}
use Rattle.gate.specs.Matrix.{mat4_swap_qubits_of}
use Rattle.gate.specs.declared.matrix.Mat4.{Mat4}
use Rattle.majorana.specs.Majorana.{majorana_map1_of, majorana_map2_of}
use Rattle.classify.specs.Diagonal.{phase_a_of, phase_b_of, interaction_of, unit_of, rotation_of}
use Rattle.std.specs.Prelude.{Option, Some, None}
use Rattle.real.specs.declared.maps.Map2.{Map2}
use Rattle.resolve.specs.Items as Items
use Rattle.resolve.specs.Items.{Item, ItemKind}
use Rattle.detect.specs.Records.{record_item, items_in, modes_in}
use Rattle.detect.specs.Operation.{Operation, one, two, interaction}

-- ---- matchgates

-- v in the order's orientation: the lower mode is the first qubit
unfoldable pub oriented_of : ℕ → ℕ → Mat4 → Mat4
oriented_of i j v = cond (ltb i j) v (mat4_swap_qubits_of v)

-- the lower mode
abbrev pub lower_of : ℕ → ℕ → ℕ
lower_of i j = cond (ltb i j) i j

-- ---- diagonal blocks

-- the rotation of mode k, if there is one
abbrev pub rotated : ℕ → Option Map2 → List Operation
rotated k (Some q) = one k q ∷ []
rotated k None = []

-- "rotations of a diagonal block": for the first wire, then for the second
unfoldable pub rotations_of : ℕ → ℕ → Mat4 → List Operation
rotations_of i j v = rotated i (rotation_of (phase_a_of v)) ++ rotated j (rotation_of (phase_b_of v))

-- ---- items

-- an item on two wires, of modes i and j; it is block number `block`
unfoldable pub two_operations : ℕ → ItemKind → ℕ → ℕ → Mat4 → List Operation
two_operations block Items.matchgate i j v = two (lower_of i j) (majorana_map2_of (oriented_of i j v)).q ∷ []
two_operations block Items.phaseless i j v = rotations_of i j v
two_operations block Items.interacting i j v = rotations_of i j v ++ (interaction i block j (unit_of (interaction_of v)) ∷ [])
two_operations block Items.neither i j v = []

module _ (pos : ℕ → ℕ) where
  abbrev pub item_operations : ℕ → Item → List Operation
  item_operations block (Items.one w u) = one (pos w) (majorana_map1_of u).q ∷ []
  item_operations block (Items.two kind a b r v) = two_operations block kind (pos a) (pos b) v
  item_operations block Items.opaque = []

  -- "in item order": the block's number is that of the items before it
  unfoldable pub operations_of : List Item → List Operation
  operations_of [] = []
  operations_of (x ∷ xs) = operations_of xs ++ item_operations (length xs) x

-- ---- of the items in the lent work

-- the operations of the item of record i, and of all items of the first m records
abbrev pub operations_at : List Float → List ℕ → ℕ → ℕ → List Operation
operations_at xs us block i = item_operations (modes_in us) block (record_item xs us i)

abbrev pub operations_in : List Float → List ℕ → ℕ → List Operation
operations_in xs us m = operations_of (modes_in us) (items_in xs us m)
