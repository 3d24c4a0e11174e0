-- `order::edges::covered` meets its contract: by the laws of covered weight. Assumes nothing.
use native.Mathlib.Omega.{arith}
use Rattle.order.specs.Slice.{edge_at}
use Rattle.order.proofs.Sums.{covered_none, covered_more}
use Rattle.order.proofs.edges.covered.Goals as goal

pub loop-i-init : goal.loop-i-init
loop-i-init c = record { down = omega arith; sum = covered_none _ _ _; small = omega arith }

pub loop-i-preserved : goal.loop-i-preserved
loop-i-preserved c =
    let was = c.loop-i.invariant in
    let marks = c.args.marks.now.entries.now in
    record {
      down = omega arith;
      sum = covered_more _ (edge_at marks) _ _ _ _ (omega arith) (omega arith) was.sum c.covers.ensures;
      small = omega arith;
    }
