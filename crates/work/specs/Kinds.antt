-- The kinds of a record as numbers: of an event, then of an item. Assumes nothing. Only inner functions rest on this.
use Rattle.std.specs.Prelude.{Bool, cond, ◌&&◌, ℕ, eqb, leb, Option, Some, None}
use Rattle.work.specs.declared.kinds.Kind.{Kind}
use Rattle.work.specs.Columns.{gone_kind, one_kind, two_kind, three_kind}
use Rattle.work.specs.Columns.{one_item, match_item, diagonal_item, interaction_item, neither_item, opaque_item}

-- the number that stands for a kind
abbrev pub kind_number : Kind → ℕ
kind_number Kind.Gone = gone_kind
kind_number Kind.One = one_kind
kind_number Kind.Two = two_kind
kind_number Kind.Three = three_kind
kind_number Kind.OneItem = one_item
kind_number Kind.MatchItem = match_item
kind_number Kind.DiagonalItem = diagonal_item
kind_number Kind.InteractionItem = interaction_item
kind_number Kind.NeitherItem = neither_item
kind_number Kind.OpaqueItem = opaque_item

-- the kind that a number stands for
unfoldable pub kind_of : ℕ → Option Kind
kind_of v =
    cond (eqb v gone_kind) (Some Kind.Gone)
    (cond (eqb v one_kind) (Some Kind.One)
    (cond (eqb v two_kind) (Some Kind.Two)
    (cond (eqb v three_kind) (Some Kind.Three)
    (cond (eqb v one_item) (Some Kind.OneItem)
    (cond (eqb v match_item) (Some Kind.MatchItem)
    (cond (eqb v diagonal_item) (Some Kind.DiagonalItem)
    (cond (eqb v interaction_item) (Some Kind.InteractionItem)
    (cond (eqb v neither_item) (Some Kind.NeitherItem)
    (cond (eqb v opaque_item) (Some Kind.OpaqueItem) None)))))))))

-- it is an item's
abbrev pub is_item_of : ℕ → Bool
is_item_of k = leb one_item k && leb k opaque_item

-- the kind of the item that a record with this mark holds
unfoldable pub item_kind_of : ℕ → Option Kind
item_kind_of k = cond (is_item_of k) (kind_of k) None
