-- The matchgate pairs of the items in the lent work: item i is record i, and its pair the wires that stand there. Assumes nothing.
-- Only inner functions rest on this.
use Rattle.std.specs.Prelude.{◌≡◌, cond, List, [], ◌∷◌, ℕ, ◌<◌, eqb}
use Rattle.laws.specs.Views.{list_of}
use Rattle.work.specs.Marks.{mark_at}
use Rattle.work.specs.Columns.{kind_column, a_column, b_column, match_item}
use Rattle.order.specs.declared.edges.Pair.{Pair}
use Rattle.order.specs.Weights.{pair_of}

-- what a record has of its item: the kind and the wires
pub record ItemRow : Type 0 where
  pub kind : ℕ
  pub a : ℕ
  pub b : ℕ

abbrev pub item_row : List ℕ → ℕ → ItemRow
item_row us i = record { kind = mark_at us i kind_column; a = mark_at us i a_column; b = mark_at us i b_column }

-- one pair for each block that is a matchgate
unfoldable pub pairs_of : List ItemRow → List Pair
pairs_of [] = []
pairs_of (t ∷ ts) = cond (eqb t.kind match_item) (pair_of t.a t.b ∷ pairs_of ts) (pairs_of ts)

-- the pairs of the first g records
abbrev pub pairs_in : List ℕ → ℕ → List Pair
pairs_in us g = pairs_of (list_of g (item_row us))

-- the wires of the matchgates are below n
abbrev pub WiresBelow : List ℕ → ℕ → ℕ → Type 0
WiresBelow us g n = (i : ℕ) → i < g → mark_at us i kind_column ≡ match_item → (mark_at us i a_column < n) × (mark_at us i b_column < n)
