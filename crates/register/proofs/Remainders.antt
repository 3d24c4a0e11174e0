-- The remainders as items: after them the wire in each slot has the slot's bit. Assumes nothing.
use mathlib.Core.Path.{◌≡◌, refl, sym, ap, ◌∙◌, subst}
use mathlib.Core.Logic.{◌⊎◌, inl, inr, ◌≢◌}
use mathlib.Core.Bool.{Bool}
use mathlib.Core.List.{List, ◌++◌}
use Prim.Native.Nat.{ℕ, zero, suc, ◌<◌, ◌≤◌}
use native.Mathlib.Nat.{not-suc-le-zero}
use native.Mathlib.Omega.{arith}
use lib.ListN.{get_or}
use lib.Ieee.{Float}
use Rattle.laws.specs.Tables.{update}
use Rattle.laws.specs.Lists.{All}
use Rattle.std.proofs.lemmas.Bool.{cases_eq}
use Rattle.laws.proofs.Tables.{update_here, update-away}
use Rattle.fuse.specs.Events.{Event}
use Rattle.resolve.specs.Items.{Item}
use Rattle.resolve.specs.Resolve.{Rest, none, rest, opened, Resolved, rest_item, with_rests}
use Rattle.register.specs.Bits.{turned_of, items_run, zeros}
use Rattle.register.specs.Blocks.{Turn, Rules}
use Rattle.register.proofs.Readings.{turned-id}
use Rattle.register.proofs.Changes.{update_same}
use Rattle.register.proofs.Resolving.{ResolveItem, TiedTo}

-- a remainder on the wire c, after the items
rest-run : (c : ℕ) (o : Rest) (items : List Item) (w : ℕ)
    → items_run (rest_item c o ++ items) zeros w ≡ update c (turned_of (opened o) (items_run items zeros c)) (items_run items zeros) w
unfolding items_run
rest-run c none items w =
    sym (ap (λ x. update c x (items_run items zeros) w) (turned-id (items_run items zeros c)) ∙ update_same c (items_run items zeros) w)
rest-run c (rest m) items w = refl

module _ (relabel : Bool) (tol : Float) (R : Rules relabel tol) (n : ℕ) (P : ℕ → ℕ → Type 0) (es : List Event) (F : ℕ → Bool) (r : Resolved)
    (t : TiedTo relabel tol R n P es F r) where
  wire : ℕ → ℕ
  wire w = get_or r.content w 0

  remainder : ℕ → Rest
  remainder w = get_or r.rests w none

  X : ℕ → Bool
  X = items_run r.items zeros

  wires-differ : (w k : ℕ) → w < n → k < n → w ≢ k → wire w ≢ wire k
  unfolding wire
  wires-differ w k h l ne e = ne (t.places.apart w k h l e)

  -- the remainder of slot k on the wire of another slot
  passed-by : (k w : ℕ) → k < n → w < n → w ≢ k → items_run (with_rests r (suc k)) zeros (wire w) ≡ items_run (with_rests r k) zeros (wire w)
  unfolding with_rests wire remainder
  passed-by k w l h ne =
      let Y = items_run (with_rests r k) zeros in
      rest-run (wire k) (remainder k) (with_rests r k) (wire w)
      ∙ update-away (wire k) (turned_of (opened (remainder k)) (Y (wire k))) Y (wire w) (wires-differ w k h l ne)

  -- the slots from k on are as they were
  later : (k w : ℕ) → k ≤ n → w < n → k ≤ w → items_run (with_rests r k) zeros (wire w) ≡ X (wire w)
  unfolding with_rests X
  later zero w l h g = refl
  later (suc k) w l h g = passed-by k w (omega arith) h (λ e. omega arith) ∙ later k w (omega arith) h (omega arith)

  earlier : (k w : ℕ) → k ≤ n → w < k → items_run (with_rests r k) zeros (wire w) ≡ turned_of (opened (remainder w)) (X (wire w))
  unfolding with_rests wire remainder
  earlier zero w l h = absurd (not-suc-le-zero h)
  earlier (suc k) w l h = by (cases_eq w k) (λ g. earlier k w (omega arith) g)
    where
      Y : ℕ → Bool
      Y = items_run (with_rests r k) zeros

      by : (w ≡ k) ⊎ (w ≢ k) → (w < k → items_run (with_rests r k) zeros (wire w) ≡ turned_of (opened (remainder w)) (X (wire w)))
          → items_run (with_rests r (suc k)) zeros (wire w) ≡ turned_of (opened (remainder w)) (X (wire w))
      by (inl e) below =
          subst (λ v. items_run (with_rests r (suc k)) zeros (wire v) ≡ turned_of (opened (remainder v)) (X (wire v))) (sym e)
          (rest-run (wire k) (remainder k) (with_rests r k) (wire k)
          ∙ update_here (wire k) (turned_of (opened (remainder k)) (Y (wire k))) Y
          ∙ ap (turned_of (opened (remainder k))) (later k k (omega arith) (omega arith) (omega arith)))
      by (inr e) below = passed-by k w (omega arith) (omega arith) e ∙ below (omega arith)

  pub all-rests : (w : ℕ) → w < n
      → items_run (with_rests r n) zeros (get_or r.content w 0)
      ≡ turned_of (opened (get_or r.rests w none)) (items_run r.items zeros (get_or r.content w 0))
  unfolding wire remainder X
  all-rests w h = earlier n w (omega arith) h

  pub rests-are : (k : ℕ) → k ≤ n → All (ResolveItem relabel tol R n P) (with_rests r k)
  unfolding with_rests
  rests-are zero l = t.items-are
  rests-are (suc k) l = by (get_or r.rests k none) (t.turns k (omega arith)) (rests-are k (omega arith))
    where
      by : (o : Rest) → Turn (opened o) → All (ResolveItem relabel tol R n P) (with_rests r k)
          → All (ResolveItem relabel tol R n P) (rest_item (get_or r.content k 0) o ++ with_rests r k)
      by none h a = a
      by (rest m) h a = ((t.places.below k (omega arith), h), a)
