-- Where the slots and the items stand in the lent work, with g gates: slot s has the record g + s, which holds its remainder and its split; the wire in it
-- is a mark of record s. An item stands in the record of its block or, if it is a remainder, of its slot. Assumes nothing.
-- Only inner functions rest on this.
use Rattle.std.specs.Prelude.{◌≡◌, ◌⊎◌, Bool, true, false, cond, ◌&&◌, ◌||◌, Option, Some, None, List, [], ◌∷◌, length, get_or, set}
use Rattle.std.specs.Prelude.{ℕ, ◌+◌, ◌-◌, ◌<◌, ◌≤◌, eqb, leb, Float}
use Rattle.std.specs.Float.{nan}
use Rattle.std.specs.Int.{from_bool}
use Rattle.laws.specs.Views.{list_of, up_from}
use Rattle.gate.specs.Lent.{mat2_at}
use Rattle.gate.specs.declared.matrix.Mat2.{Mat2}
use Rattle.work.specs.Sizes.{record_floats}
use Rattle.work.specs.Rows.{float_place, row_floats, residual_place, first_tail, second_tail}
use Rattle.work.specs.Marks.{mark_at, put_mark}
use Rattle.work.specs.Columns.{kind_column, a_column, b_column, c_column, lab_column, content_column}
use Rattle.work.specs.Columns.{gone_kind, one_item, match_item, diagonal_item, interaction_item, neither_item, opaque_item}
use Rattle.fuse.specs.Events.{Event}
use Rattle.fuse.specs.Layout.{Within, matrix2_of, matrix4_of, put_matrix4_of, event_at, one_at, block_at}
use Rattle.work.specs.Marks.{exchanged_marks}
use Rattle.classify.specs.Classify.{residual_of}
use Rattle.classify.specs.declared.classify.Class2.{Class2}
use Rattle.resolve.specs.declared.settle.Tally.{Tally}
use Rattle.resolve.specs.Items as Items
use Rattle.resolve.specs.Items.{Item, ItemKind, matchgate, phaseless, interacting, neither, newest_first}
use Rattle.resolve.specs.Cuts.{ahead, prefix_of}
use Rattle.resolve.specs.Choose.{Choice}
use Rattle.resolve.specs.Resolve.{Rest, none, rest, Resolved, passed, settled, closed, resolve_step, resolved, with_rests, start_of}

-- ---- what the records hold

-- the remainder of slot s
unfoldable pub rest_at : List Float → List ℕ → ℕ → ℕ → Rest
rest_at xs us g s = cond (eqb (mark_at us (g + s) kind_column) one_item) (rest (matrix2_of xs (g + s))) none

-- its split
abbrev pub split_at : List ℕ → ℕ → ℕ → ℕ
split_at us g s = mark_at us (g + s) c_column

-- the mark that a two-qubit item's kind has in its record
abbrev pub kind_mark : ItemKind → ℕ
kind_mark matchgate = match_item
kind_mark phaseless = diagonal_item
kind_mark interacting = interaction_item
kind_mark neither = neither_item

-- the kind with the mark k
unfoldable pub kind_at : ℕ → ItemKind
kind_at k =
    cond (eqb k (kind_mark matchgate)) matchgate
    (cond (eqb k (kind_mark phaseless)) phaseless (cond (eqb k (kind_mark interacting)) interacting neither))

-- the residual of a two-qubit item
abbrev pub residual_at : List Float → ℕ → Float
residual_at xs i = get_or xs (float_place i residual_place) nan

-- the item of record i, if it has one
abbrev pub item : ℕ → ℕ → ℕ → Mat2 → Item → List Item
item k a b m x =
    cond (eqb k one_item) (Items.one a m ∷ []) (cond (eqb k opaque_item) (Items.opaque ∷ []) (cond (leb match_item k && leb k neither_item) (x ∷ []) []))

unfoldable pub item_at : List Float → List ℕ → ℕ → List Item
item_at xs us i =
    item (mark_at us i kind_column) (mark_at us i a_column) (mark_at us i b_column) (matrix2_of xs i)
    (Items.two (kind_at (mark_at us i kind_column)) (mark_at us i a_column) (mark_at us i b_column) (residual_at xs i) (matrix4_of xs i))

-- ---- the state

-- the state after i events
unfoldable pub resolved_at : List Float → List ℕ → ℕ → ℕ → ℕ → Tally → Resolved
resolved_at xs us g n i t = record {
  rests = list_of n (rest_at xs us g);
  splits = list_of n (split_at us g);
  content = list_of n (λ s. mark_at us s content_column);
  items = newest_first (item_at xs us) i;
  swaps = t.swaps;
  tried = t.tried;
  angled = t.angled;
}

-- the events from i on
abbrev pub todo : List Float → List ℕ → ℕ → ℕ → List Event
todo xs us i g = up_from (event_at xs us) i (g - i)

-- ---- what is written

-- slot s: no remainder, and k gates promised
unfoldable pub emptied_marks : List ℕ → ℕ → ℕ → ℕ → List ℕ
emptied_marks us g s k = put_mark (put_mark us (g + s) kind_column gone_kind) (g + s) c_column k

-- the wires in a and b change places
abbrev pub traded_marks : List ℕ → ℕ → ℕ → List ℕ
traded_marks us a b = exchanged_marks us a b content_column

-- an item's marks and, of a two-qubit item, its floats
unfoldable pub item_marks : List ℕ → ℕ → ℕ → ℕ → ℕ → List ℕ
item_marks us i k a b = put_mark (put_mark (put_mark us i kind_column k) i a_column a) i b_column b

unfoldable pub item_floats : List Float → ℕ → Class2 → List Float
item_floats xs i c = set (put_matrix4_of xs i c.v) (float_place i residual_place) (residual_of c.kind)

-- ---- the tails of a block

-- what cut t of the first and of the second tail takes
abbrev pub first_row : List Float → ℕ → Mat2
first_row xs t = mat2_at xs (float_place t first_tail)

abbrev pub second_row : List Float → ℕ → Mat2
second_row xs t = mat2_at xs (float_place t second_tail)

-- in each record only the floats of the row from `row` on have changed
pub record RowOnly (row : ℕ) (xs ys : List Float) : Type 0 where
  pub size : length ys ≡ length xs
  pub same : (i q : ℕ) → q < record_floats → (q < row) ⊎ (row + row_floats ≤ q) → get_or ys (float_place i q) nan ≡ get_or xs (float_place i q) nan

-- no gate from j on and before r is on s
pub record PassedOver (us : List ℕ) (s j g r : ℕ) : Type 0 where
  pub low : j ≤ r
  pub high : r ≤ g
  pub none : (i : ℕ) → j ≤ i → i < r → (block_at us s i ≡ false) × (one_at us s i ≡ false)

-- a search on from gate j: the first gate below g that is on s, if there is one
abbrev pub NextOn : List ℕ → ℕ → ℕ → ℕ → Option ℕ → Type 0
NextOn us s j g None = PassedOver us s j g g
NextOn us s j g (Some i) = PassedOver us s j g i × (i < g) × ((block_at us s i || one_at us s i) ≡ true)

-- the tail on s from gate k on, of r gates: what each cut takes stands in the rows
pub record Prefixes (xs ys : List Float) (us : List ℕ) (k g s row r : ℕ) : Type 0 where
  pub only : RowOnly row xs ys
  pub few : r + k ≤ g
  pub long : r ≡ length (ahead s (todo xs us k g))
  pub each : (t : ℕ) → t ≤ r → mat2_at ys (float_place t row) ≡ prefix_of (ahead s (todo xs us k g)) t

-- ---- one event

-- event i has been dealt with: the state is f of what it was, and the events after it are as they were
pub record Moved (f : Resolved → Resolved) (xs ys : List Float) (us vs : List ℕ) (g n i : ℕ) (t t' : Tally) : Type 0 where
  pub size : length ys ≡ length xs
  pub marks : length vs ≡ length us
  pub state : resolved_at ys vs g n (i + 1) t' ≡ f (resolved_at xs us g n i t)
  pub later : (j : ℕ) → i < j → j < g → event_at ys vs j ≡ event_at xs us j
  pub lab : (q : ℕ) → mark_at vs q lab_column ≡ mark_at us q lab_column
  pub within : Within vs (i + 1) g n

-- it was a one-qubit gate, an opaque block, a two-qubit block with the choice x that was made for it
abbrev pub OnePassed : List Float → List Float → List ℕ → List ℕ → ℕ → ℕ → ℕ → Type 0
OnePassed xs ys us vs g n i = (t : Tally) → Moved (passed (mark_at us i a_column) (matrix2_of xs i)) xs ys us vs g n i t t

abbrev pub ThreeClosed : List Float → List ℕ → List ℕ → ℕ → ℕ → ℕ → Type 0
ThreeClosed xs us vs g n i = (t : Tally) → Moved (closed (mark_at us i a_column) (mark_at us i b_column) (mark_at us i c_column)) xs xs us vs g n i t t

abbrev pub TwoSettled : ℕ → Choice → Bool → List Float → List Float → List ℕ → List ℕ → ℕ → ℕ → ℕ → Tally → Tally → Type 0
TwoSettled tried x angled xs ys us vs g n i t t' =
    Moved (settled (mark_at us i a_column) (mark_at us i b_column) tried x angled) xs ys us vs g n i t t'

-- with a block more: whether it is SWAP times what is applied, how many candidates it had, whether one was angled
abbrev pub counted : Bool → ℕ → Bool → Tally → Tally
counted swap tried angled t = record { swaps = t.swaps + from_bool swap; tried = t.tried + tried; angled = t.angled || angled }

-- no block has more candidates: 18 cuts of each tail
abbrev pub max_candidates : ℕ
max_candidates = 324

-- so it has by the definition's step, and the counts have grown by what one block can add
pub record Dealt (relabel : Bool) (tol : Float) (xs ys : List Float) (us vs : List ℕ) (g n i : ℕ) (t t' : Tally) : Type 0 where
  pub moved : Moved (resolve_step relabel tol (event_at xs us i) (todo xs us (i + 1) g)) xs ys us vs g n i t t'
  pub swaps : t'.swaps ≤ t.swaps + 1
  pub tried : t'.tried ≤ t.tried + max_candidates

-- ---- all events

-- the counts before the first event
abbrev pub fresh : ℕ → Tally
fresh swaps = record { swaps = swaps; tried = 0; angled = false }

-- the first g events have been dealt with
pub record AllDealt (relabel : Bool) (tol : Float) (xs ys : List Float) (us vs : List ℕ) (g n : ℕ) (t t' : Tally) : Type 0 where
  pub size : length ys ≡ length xs
  pub marks : length vs ≡ length us
  pub state : resolved_at ys vs g n g t' ≡ resolved relabel tol (todo xs us 0 g) (resolved_at xs us g n 0 t)
  pub lab : (q : ℕ) → mark_at vs q lab_column ≡ mark_at us q lab_column

-- the slots are as before the first event, and the events are as they were
pub record Begun (xs : List Float) (us vs : List ℕ) (g n : ℕ) : Type 0 where
  pub size : length vs ≡ length us
  pub state : (swaps : ℕ) → resolved_at xs vs g n 0 (fresh swaps) ≡ start_of n swaps
  pub events : (j : ℕ) → j < g → event_at xs vs j ≡ event_at xs us j
  pub lab : (q : ℕ) → mark_at vs q lab_column ≡ mark_at us q lab_column
  pub within : Within us 0 g n → Within vs 0 g n

-- the remainders have become items, and the rest of the state is as it was
pub record Finished (xs : List Float) (us vs : List ℕ) (g n : ℕ) (t : Tally) : Type 0 where
  pub size : length vs ≡ length us
  pub items : newest_first (item_at xs vs) (g + n) ≡ with_rests (resolved_at xs us g n g t) n
  pub content : (s : ℕ) → mark_at vs s content_column ≡ mark_at us s content_column
  pub lab : (q : ℕ) → mark_at vs q lab_column ≡ mark_at us q lab_column
