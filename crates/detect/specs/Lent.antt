-- What the count of the items, their emission and the report promise, said of the lent work. Assumes nothing. Only inner functions rest on this.
use Rattle.std.specs.Prelude.{◌≡◌, List, ℕ, ◌+◌, ◌≤◌}
use Rattle.laws.specs.Bounds.{max_qubits}
use Rattle.tape.specs.declared.header.Header.{Header}
use Rattle.tape.specs.declared.gates.Gate.{Gate}
use Rattle.work.specs.Columns.{lab_column, content_column, order_column, pos_column, start_column}
use Rattle.work.specs.Lent.{Lent, Has, FloatsOnly, SameSizes}
use Rattle.resolve.specs.Items.{Item, ItemBelow, ItemsBelow}
use Rattle.detect.specs.declared.count.Counts.{Counts}
use Rattle.detect.specs.declared.report.Report.{Report}
use Rattle.detect.specs.Operation.{Operation}
use Rattle.detect.specs.Emit.{operations_in}
use Rattle.detect.specs.Records.{record_item, items_in, ColumnBelow}
use Rattle.detect.specs.Kept.{Kept, Counted}
use Rattle.detect.specs.Lending.{Read}
use Rattle.detect.specs.Program.{Detected}

-- ---- what is there

-- the records are those of the gates and qubits of a tape t with the header h, which passes 1 to 8
pub record WorkFor (t : List ℕ) (h : Header) (w : Lent) : Type 0 where
  pub tape : Read t h w.gates
  pub slots : w.slots ≡ h.n

-- the items
abbrev pub all_items : Lent → List Item
all_items w = items_in w.floats w.marks (w.gates + w.slots)

-- their wires are wires
abbrev pub Held : Lent → Type 0
Held w = ItemsBelow w.slots (all_items w)

-- record i is there, and the wires of its item are wires
abbrev pub ItemThere : Lent → ℕ → Type 0
ItemThere w i = Has w i × ItemBelow w.slots (record_item w.floats w.marks i)

-- the operations of the matchgates are kept
abbrev pub AllKept : Lent → Type 0
AllKept w = Kept w.floats w.marks (w.gates + w.slots)

-- the operations of the items
abbrev pub all_operations : Lent → List Operation
all_operations w = operations_in w.floats w.marks (w.gates + w.slots)

-- slots, content and modes of the qubits are below their number, for a table of the modes
pub record QubitsThere (w : Lent) : Type 0 where
  pub few : w.slots ≤ max_qubits
  pub slots : ColumnBelow w.marks lab_column w.slots w.slots
  pub content : ColumnBelow w.marks content_column w.slots w.slots
  pub modes : ColumnBelow w.marks pos_column w.slots w.slots

-- and order and path starts are small enough for theirs
pub record TablesThere (w : Lent) : Type 0 where
  pub qubits : QubitsThere w
  pub order : ColumnBelow w.marks order_column w.slots 65536
  pub starts : ColumnBelow w.marks start_column w.slots 65536

-- ---- what is done

-- all items have been counted, with the count c
pub record CountsAll (c : Counts) (w v : Lent) : Type 0 where
  pub rest : FloatsOnly w v
  pub counted : Counted c w.floats v.floats w.marks (w.gates + w.slots)

-- the report r of the gates gs has been made
pub record Detects (h : Header) (gs : List Gate) (w v : Lent) (r : Report) : Type 0 where
  pub sizes : SameSizes w v
  pub detected : Detected h gs w.gates v.floats v.marks r
