-- `order::edges::unchain` meets its contract: the first w wires have no edge. Assumes nothing.
use native.Mathlib.Omega.{arith}
use Rattle.order.proofs.SameMarks.{same_then}
use Rattle.order.proofs.Chains.{unchain-more}
use Rattle.order.proofs.edges.unchain.Goals as goal

pub loop-w-preserved : goal.loop-w-preserved
loop-w-preserved c =
    let was = c.loop-w.invariant in
    record {
      up = omega arith;
      same = same_then _ _ _ was.same c.put_mark.ensures.same;
      unchained = unchain-more _ _ _ _ (omega arith) was.unchained c.put_mark.ensures.now;
    }
