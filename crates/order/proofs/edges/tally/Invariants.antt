-- `order::edges::tally` meets its contract: the items from i on are counted. Assumes nothing.
use Rattle.order.specs.Marks.{Same}
use Rattle.order.proofs.EdgeSteps.{Tallying}
use Rattle.order.proofs.edges.tally.Given as goal

abbrev pub invariant-loop-i : goal.invariant-loop-i
invariant-loop-i l = record {
  same : Same l.fn.marks l.marks;
  tallying : Tallying l.initial.marks.entries.now l.marks.entries.now (l.fn.marks.items) l.fn.marks.wires l.m l.i;
}
