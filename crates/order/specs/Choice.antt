-- The choice in 000's `compile`: "a path cover replaces the identity only if it covers strictly more". The report's ordering is an enum, the code's
-- own: identity, paths if the cover kept every edge, greedy otherwise. Assumes nothing. A public promise rests on this.
use Rattle.std.specs.Prelude.{Bool, cond, ◌&&◌, List, [], ◌∷◌, ℕ, ◌+◌, ltb}
use Rattle.order.specs.declared.edges.Edge.{Edge}
use Rattle.order.specs.declared.edges.Pair.{Pair}
use Rattle.order.specs.declared.choice.Ordering.{Ordering}
use Rattle.order.specs.Weights.{edges_of, weighs_of}
use Rattle.order.specs.Cover.{Cover, wires, cover_of}
use Rattle.order.specs.Arrangement.{arranged, flat, zeros, marked, marks, find, beside_of}

-- ---- covered weight

-- the weight of an edge, if its wires have neighbouring modes; `pos` gives the mode of a wire
abbrev pub covers_of : (ℕ → ℕ) → Edge → ℕ
covers_of pos e = cond (beside_of (pos e.lo) (pos e.hi)) e.weight 0

unfoldable pub covered_by : List Edge → (ℕ → ℕ) → ℕ
covered_by [] pos = 0
covered_by (e ∷ es) pos = covers_of pos e + covered_by es pos

-- the weight that an order covers
abbrev pub covered_of : List Edge → List ℕ → ℕ
covered_of es l = covered_by es (λ w. find w l)

-- ---- arrangements

-- how the order was chosen, the wire on each mode, and the path starts
pub record Arrangement : Type 0 where
  pub name : Ordering
  pub order : List ℕ
  pub starts : List ℕ

-- an order that is one path
abbrev pub single : Ordering → List ℕ → Arrangement
single o l = record { name = o; order = l; starts = marked l }

abbrev pub identity_of : ℕ → Arrangement
identity_of n = single Ordering.Identity (wires n)

abbrev pub arrangement : Cover → Arrangement
arrangement c =
    let ps = arranged c.paths in
    record { name = cond c.all Ordering.Paths Ordering.Greedy; order = flat ps; starts = marks ps }

unfoldable pub path_order_of : ℕ → List Edge → Arrangement
unfolding cover_of arranged flat marks
path_order_of n es = arrangement (cover_of n es)

-- ---- the choice

-- the cover's order, if it covers strictly more than `own`
abbrev pub improved_of : ℕ → List Edge → ℕ → Arrangement
improved_of n es own = cond (ltb own (covered_of es (path_order_of n es).order)) (path_order_of n es) (identity_of n)

-- n wires with these edges, heaviest first
unfoldable pub arrange_of : Bool → ℕ → List Edge → Arrangement
unfolding path_order_of covered_by find weighs_of zeros wires
arrange_of reorder n es =
    let own = covered_of es (wires n) in
    cond (reorder && ltb own (weighs_of es)) (improved_of n es own) (identity_of n)

-- n wires with these matchgate pairs, one for each block
unfoldable pub choose_order_of : Bool → ℕ → List Pair → Arrangement
unfolding arrange_of edges_of
choose_order_of reorder n ps = arrange_of reorder n (edges_of ps)
