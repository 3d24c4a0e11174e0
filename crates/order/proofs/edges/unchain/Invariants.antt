-- `order::edges::unchain` meets its contract: the first w wires have no edge. Assumes nothing.
use Prim.Native.Nat.{◌≤◌}
use Rattle.order.specs.Marks.{Same}
use Rattle.order.specs.Slice.{Unchained}
use Rattle.order.proofs.edges.unchain.Given as goal

abbrev pub invariant-loop-w : goal.invariant-loop-w
invariant-loop-w l = record {
  up : l.w ≤ l.initial.marks.wires;
  same : Same l.initial.marks l.marks;
  unchained : Unchained l.initial.marks.entries.now l.marks.entries.now l.w;
}
