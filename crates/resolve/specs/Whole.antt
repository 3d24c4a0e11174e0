-- Fusing as a whole (000, `fuse`), from the events that relabelling leaves: blocks, runs of diagonal gates, splits, remainders. Items and events are the
-- newest first. Assumes nothing. A public promise rests on this.
use Rattle.std.specs.Prelude.{◌≡◌, Bool, List, reverse, ℕ, ◌+◌, length, Float}
use Rattle.laws.specs.Views.{list_of, down_to}
use Rattle.work.specs.Marks.{mark_at}
use Rattle.work.specs.Columns.{lab_column, content_column}
use Rattle.fuse.specs.Events.{Event}
use Rattle.fuse.specs.Fuse.{fused}
use Rattle.fuse.specs.Compress.{compressed}
use Rattle.fuse.specs.Layout.{event_at}
use Rattle.resolve.specs.declared.settle.Tally.{Tally}
use Rattle.resolve.specs.Items.{Item, newest_first}
use Rattle.resolve.specs.Resolve.{Resolved, resolved, with_rests, start_of}
use Rattle.resolve.specs.Slots.{item_at}

-- the state after all events
unfoldable pub resolved_of : Bool → Float → ℕ → ℕ → List Event → Resolved
resolved_of relabel tol n swaps es = resolved relabel tol (reverse (compressed (fused es))) (start_of n swaps)

-- 000's `Fused`: the items, the wire in each slot at the end, the SWAPs that were renamings; and the candidates tried, and whether one was angled
pub record Fused : Type 0 where
  pub items : List Item
  pub content : List ℕ
  pub swaps : ℕ
  pub tried : ℕ
  pub angled : Bool

abbrev pub fused_of : ℕ → Resolved → Fused
fused_of n r = record { items = with_rests r n; content = r.content; swaps = r.swaps; tried = r.tried; angled = r.angled }

-- with n qubits and so many explicit Swaps made renamings before
unfoldable pub fuse_of : Bool → Float → ℕ → ℕ → List Event → Fused
fuse_of relabel tol n swaps es = fused_of n (resolved_of relabel tol n swaps es)

-- the same, read from the lent work with g gates
unfoldable pub fused_at : List Float → List ℕ → ℕ → ℕ → Tally → Fused
fused_at xs us g n t = record {
  items = newest_first (item_at xs us) (g + n);
  content = list_of n (λ s. mark_at us s content_column);
  swaps = t.swaps;
  tried = t.tried;
  angled = t.angled;
}

pub record Whole (relabel : Bool) (tol : Float) (xs ys : List Float) (us vs : List ℕ) (g n swaps : ℕ) (t : Tally) : Type 0 where
  pub size : length ys ≡ length xs
  pub marks : length vs ≡ length us
  pub answer : fused_at ys vs g n t ≡ fuse_of relabel tol n swaps (down_to (event_at xs us) g)
  -- the slots of the qubits stay
  pub lab : (q : ℕ) → mark_at vs q lab_column ≡ mark_at us q lab_column
