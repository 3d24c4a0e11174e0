-- What ordering promises of the lent work: its records are as many as gates and slots, its wires as many as slots.
-- Assumes nothing. Only inner functions rest on this.
use Rattle.std.specs.Prelude.{List, ◌+◌}
use Rattle.work.specs.Lent.{Lent, MarksOnly}
use Rattle.order.specs.declared.edges.Pair.{Pair}
use Rattle.order.specs.declared.choice.Ordering.{Ordering}
use Rattle.order.specs.Choice.{Arrangement}
use Rattle.order.specs.Pairs.{pairs_in, WiresBelow}
use Rattle.order.specs.Slice.{Arranges}

-- the matchgate pairs of all records
abbrev pub pairs_of_work : Lent → List Pair
pairs_of_work w = pairs_in w.marks (w.gates + w.slots)

-- the wires of the matchgates are slots
abbrev pub WiresInSlots : Lent → Type 0
WiresInSlots w = WiresBelow w.marks (w.gates + w.slots) w.slots

-- the marks and the answer are an arrangement's of all slots
pub record Orders (w v : Lent) (a : Arrangement) (r : Ordering) : Type 0 where
  pub rest : MarksOnly w v
  pub arranged : Arranges w.marks v.marks w.slots a r
