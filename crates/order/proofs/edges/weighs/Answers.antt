-- `order::edges::weighs` meets its contract: by the laws of weights. Assumes nothing.
use mathlib.Core.Path.{ap}
use native.Mathlib.Omega.{arith}
use Rattle.order.specs.declared.edges.Edge.{Edge}
use Rattle.order.specs.Slice.{edge_at}
use Rattle.order.proofs.Sums.{weighs-none, weighs-more}
use Rattle.order.proofs.edges.weighs.Goals as goal

pub loop-i-init : goal.loop-i-init
loop-i-init c = record { down = omega arith; sum = weighs-none _ _; small = omega arith }

pub loop-i-preserved : goal.loop-i-preserved
loop-i-preserved c =
    let was = c.loop-i.invariant in
    let marks = c.args.marks.now.entries.now in
    let weight = ap (λ (e : Edge). e.weight) c.edge_in.ensures in
    record {
      down = omega arith;
      sum = weighs-more (edge_at marks) _ _ _ _ (omega arith) (omega arith) was.sum weight;
      small = omega arith;
    }
