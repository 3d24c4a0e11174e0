-- Counting needs the map of a matchgate, and so does emission: the operation is made when the block is counted, and kept in the block's record, after the
-- places that the item is read from, until it is emitted. Assumes nothing. Only inner functions rest on this.
use Rattle.std.specs.Prelude.{◌≡◌, cond, List, ℕ, ◌<◌, ◌≤◌, eqb, length, get_or, take, drop, Float}
use Rattle.std.proofs.Math.Seq.{paste}
use Rattle.std.specs.Float.{nan}
use Rattle.laws.specs.Bounds.{op_places}
use Rattle.gate.specs.declared.matrix.Mat4.{Mat4}
use Rattle.work.specs.Rows.{record_at, float_place, item_end, kept_row}
use Rattle.work.specs.Marks.{mark_at}
use Rattle.work.specs.Columns.{kind_column, a_column, b_column, match_item}
use Rattle.majorana.specs.Majorana.{majorana_map2_of}
use Rattle.order.specs.Arrangement.{beside_of}
use Rattle.fuse.specs.Layout.{matrix4_of}
use Rattle.detect.specs.declared.count.Counts.{Counts}
use Rattle.detect.specs.Operation.{two_places}
use Rattle.detect.specs.Emit.{oriented_of, lower_of}
use Rattle.detect.specs.Records.{modes_in}

-- the places of the operation of a matchgate v on the modes i and j
abbrev pub match_places : ℕ → ℕ → Mat4 → List Float
match_places i j v = two_places (lower_of i j) (majorana_map2_of (oriented_of i j v)).q

-- where record i keeps them
abbrev pub kept_place : ℕ → ℕ
kept_place i = float_place i kept_row

-- ---- written

-- of a matchgate on the modes i and j, from p on, if they are neighbours: else the block is bad, and nothing is emitted
unfoldable pub match_kept : ℕ → ℕ → ℕ → Mat4 → List Float → List Float
match_kept p i j v l = cond (beside_of i j) (paste l p (match_places i j v) op_places) l

-- of a block whose kind has this mark
unfoldable pub two_kept : ℕ → ℕ → ℕ → ℕ → Mat4 → List Float → List Float
two_kept mark p i j v l = cond (eqb mark match_item) (match_kept p i j v l) l

-- of the item of record i
abbrev pub record_kept : List Float → List ℕ → ℕ → List Float
record_kept xs us i =
    two_kept (mark_at us i kind_column) (kept_place i) (modes_in us (mark_at us i a_column)) (modes_in us (mark_at us i b_column)) (matrix4_of xs i) xs

-- ---- there

-- record i, if it is a matchgate's, has its operation
abbrev pub KeptAt : List Float → List ℕ → ℕ → Type 0
KeptAt xs us i =
    mark_at us i kind_column ≡ match_item
    → take op_places (drop (kept_place i) xs) ≡ match_places (modes_in us (mark_at us i a_column)) (modes_in us (mark_at us i b_column)) (matrix4_of xs i)

-- the first m records have
abbrev pub Kept : List Float → List ℕ → ℕ → Type 0
Kept xs us m = (i : ℕ) → i < m → KeptAt xs us i

-- what the count c of the first m records leaves: the places of the items are as they were, and if nothing is bad the operations are kept
pub record Counted (c : Counts) (xs ys : List Float) (us : List ℕ) (m : ℕ) : Type 0 where
  pub size : length ys ≡ length xs
  pub same : (i q : ℕ) → record_at i ≤ q → q < float_place i item_end → get_or ys q nan ≡ get_or xs q nan
  pub kept : c.bad ≡ 0 → Kept ys us m
