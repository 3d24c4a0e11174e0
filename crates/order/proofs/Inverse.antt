-- What a caller has of the order in the lent work, whatever the items are: order and modes are inverse permutations of the wires below n; the paths
-- of a cover keep every wire once, so that there is no cycle; the identity is one path, and none without wires. Assumes nothing.
use mathlib.Core.Path.{◌≡◌, sym, ap, subst, ◌∙◌}
use mathlib.Core.Bool.{Bool}
use mathlib.Core.List.{List}
use Prim.Native.Nat.{ℕ, ◌<◌}
use lib.Dec.{eqb}
use lib.ListN.{get_or}
use Rattle.work.specs.Marks.{mark_at}
use Rattle.work.specs.Columns.{order_column, pos_column}
use Rattle.order.specs.declared.edges.Edge.{Edge}
use Rattle.order.specs.declared.edges.Pair.{Pair}
use Rattle.order.specs.declared.choice.Ordering.{Ordering}
use Rattle.order.specs.Cover.{wires, cover_of}
use Rattle.order.specs.Arrangement.{flat, find}
use Rattle.order.specs.Choice.{Arrangement, identity_of, choose_order_of}
use Rattle.order.specs.Slice.{flag, HoldsOrder, Arranges}
use Rattle.order.proofs.Totals.{times, length-wires}
use Rattle.order.proofs.Permutation.{wires-times, cover-wires, Permutes, order-permutes}
use Rattle.order.proofs.Arranged.{marked-is}

-- the order and the modes in the slice undo each other
pub record Inverse (us : List ℕ) (n : ℕ) : Type 0 where
  pub wire-below : (k : ℕ) → k < n → mark_at us k order_column < n
  pub mode-below : (w : ℕ) → w < n → mark_at us w pos_column < n
  pub wire-back : (w : ℕ) → w < n → mark_at us (mark_at us w pos_column) order_column ≡ w
  pub mode-back : (k : ℕ) → k < n → mark_at us (mark_at us k order_column) pos_column ≡ k

pub holds-inverse : (us : List ℕ) (n : ℕ) (a : Arrangement) → Permutes n a.order → HoldsOrder us n a → Inverse us n
holds-inverse us n a p h = record {
  wire-below = λ k l. subst (λ (x : ℕ). x < n) (sym (h.order k l)) (p.below k l);
  mode-below = λ w l. subst (λ (x : ℕ). x < n) (sym (h.pos w l)) (p.there w l);
  wire-back = λ w l. ap (λ (x : ℕ). mark_at us x order_column) (h.pos w l) ∙ h.order (find w a.order) (p.there w l) ∙ p.back w l;
  mode-back = λ k l. ap (λ (x : ℕ). mark_at us x pos_column) (h.order k l) ∙ h.pos (get_or a.order k 0) (p.below k l) ∙ p.forth k l;
}

-- what `choose_order` leaves, for every list of pairs
pub chosen-inverse : (us vs : List ℕ) (n : ℕ) (reorder : Bool) (ps : List Pair) (r : Ordering) → Arranges us vs n (choose_order_of reorder n ps) r
    → Inverse vs n
chosen-inverse us vs n reorder ps r a = holds-inverse vs n (choose_order_of reorder n ps) (order-permutes reorder n ps) a.holds

-- every wire stands once on the paths of a cover, for every list of edges
pub cover-once : (n : ℕ) (es : List Edge) (w : ℕ) → w < n → times w (flat (cover_of n es).paths) ≡ 1
cover-once n es w h = wires-times n (flat (cover_of n es).paths) (cover-wires n es) w h

-- the identity starts one path, at mode 0
pub identity-path : (n k : ℕ) → k < n → get_or (identity_of n).starts k 0 ≡ flag (eqb k 0)
identity-path n k h = marked-is (wires n) k (subst (λ (m : ℕ). k < m) (sym (length-wires n)) h)
