-- Edges of the definitions, by computing. Assumes nothing.
use mathlib.Core.Path.{◌≡◌, refl}
use mathlib.Core.Bool.{true, false}
use mathlib.Core.List.{[], ◌∷◌}
use Rattle.order.specs.declared.choice.Ordering.{Ordering}
use Rattle.order.specs.Weights.{pair_of, edge, edges_of}
use Rattle.order.specs.Arrangement.{positions}
use Rattle.order.specs.Choice.{choose_order_of}

-- ISwap(0, 2), n = 3: order 0 2 1, paths; and the mode of each wire
far : choose_order_of true 3 (pair_of 0 2 ∷ []) ≡ record { name = Ordering.Paths; order = 0 ∷ 2 ∷ 1 ∷ []; starts = 1 ∷ 0 ∷ 1 ∷ [] }
unfolding choose_order_of
far = refl

far-modes : positions 3 (0 ∷ 2 ∷ 1 ∷ []) ≡ 0 ∷ 2 ∷ 1 ∷ []
unfolding positions
far-modes = refl

-- without reordering the identity, which is one path
far-kept : choose_order_of false 3 (pair_of 0 2 ∷ []) ≡ record { name = Ordering.Identity; order = 0 ∷ 1 ∷ 2 ∷ []; starts = 1 ∷ 0 ∷ 0 ∷ [] }
unfolding choose_order_of
far-kept = refl

-- a triangle whose heaviest pair is 02: one edge is left
triangle : choose_order_of true 3 (pair_of 0 1 ∷ pair_of 2 0 ∷ pair_of 1 2 ∷ pair_of 0 2 ∷ [])
    ≡ record { name = Ordering.Greedy; order = 1 ∷ 0 ∷ 2 ∷ []; starts = 1 ∷ 0 ∷ 0 ∷ [] }
unfolding choose_order_of
triangle = refl

-- a triangle of equal weights: the cover keeps 01 and 02, no more than the identity
equal : choose_order_of true 3 (pair_of 0 1 ∷ pair_of 1 2 ∷ pair_of 0 2 ∷ []) ≡ record
    { name = Ordering.Identity; order = 0 ∷ 1 ∷ 2 ∷ []; starts = 1 ∷ 0 ∷ 0 ∷ [] }
unfolding choose_order_of
equal = refl

-- equal weights go by pair
ties : edges_of (pair_of 2 3 ∷ pair_of 1 3 ∷ pair_of 3 2 ∷ pair_of 0 1 ∷ []) ≡ edge 2 3 2 ∷ edge 0 1 1 ∷ edge 1 3 1 ∷ []
unfolding edges_of
ties = refl

-- no wires: no path
no-wires : choose_order_of true 0 [] ≡ record { name = Ordering.Identity; order = []; starts = [] }
unfolding choose_order_of
no-wires = refl
