-- The items in the lent work as the passes over them read them. Assumes nothing. Only inner functions rest on this.
use Rattle.std.specs.Prelude.{cond, List, ℕ, ◌*◌, ◌<◌, eqb, Float}
use Rattle.work.specs.Marks.{mark_at, column}
use Rattle.work.specs.Columns.{kind_column, a_column, b_column, lab_column, content_column, order_column, pos_column, start_column, one_item, opaque_item}
use Rattle.fuse.specs.Layout.{matrix2_of, matrix4_of}
use Rattle.detect.specs.declared.count.Counts.{Counts}
use Rattle.detect.specs.declared.tables.Tables.{Tables}
use Rattle.detect.specs.Report.{table}
use Rattle.resolve.specs.Items as Items
use Rattle.resolve.specs.Items.{Item, newest_first, ItemBelow, ItemsBelow}
use Rattle.resolve.specs.Slots.{kind_at, residual_at, item_at}

-- the item of a record of kind k
abbrev pub item_by : ℕ → Item → Item → Item
item_by k x y = cond (eqb k one_item) x (cond (eqb k opaque_item) Items.opaque y)

abbrev pub record_item : List Float → List ℕ → ℕ → Item
record_item xs us i =
    item_by (mark_at us i kind_column) (Items.one (mark_at us i a_column) (matrix2_of xs i))
    (Items.two (kind_at (mark_at us i kind_column)) (mark_at us i a_column) (mark_at us i b_column) (residual_at xs i) (matrix4_of xs i))

-- the items of the first m records
abbrev pub items_in : List Float → List ℕ → ℕ → List Item
items_in xs us m = newest_first (item_at xs us) m

-- the modes of the wires, as the order leaves them
abbrev pub modes_in : List ℕ → ℕ → ℕ
modes_in us = column pos_column us

-- the mode of qubit q: of the wire in its slot
abbrev pub qubit_mode : List ℕ → ℕ → ℕ
qubit_mode us q = mark_at us (mark_at us (mark_at us q lab_column) content_column) pos_column

-- the first n marks of a column are below b
abbrev pub ColumnBelow : List ℕ → ℕ → ℕ → ℕ → Type 0
ColumnBelow us c n b = (k : ℕ) → k < n → mark_at us k c < b

-- counts that grow without wrapping
pub record Small (c : Counts) : Type 0 where
  pub blocks : c.blocks < 65536
  pub two : c.two < 65536
  pub gaussian : c.gaussian < 65536
  pub bad : c.bad < 65536
  pub nonadjacent : c.nonadjacent < 65536
  pub interactions : c.interactions < 65536
  pub operations : c.operations < 3 * 65536

-- order, path starts and modes of n qubits
abbrev pub tables_of : List ℕ → ℕ → Tables
tables_of us n = record { order = table n (column order_column us); starts = table n (column start_column us); modes = table n (qubit_mode us) }
