-- `order::edges::tally` meets its contract: the items from i on are counted. Assumes nothing.
use mathlib.Core.Path.{sym}
use native.Mathlib.Omega.{arith}
use Rattle.order.proofs.SameMarks.{same_then}
use Rattle.order.proofs.EdgeSteps.{unchain-below, tally-start, tally-loads, tally-below, tally-more, tally-from, tally-ends}
use Rattle.order.proofs.edges.tally.Goals as goal

pub loop-i-init : goal.loop-i-init
loop-i-init c =
    let start = c.unchain.ensures in
    record { same = start.same; tallying = rw start.same.items (tally-start _ _ _ _ start.unchained) }

pub count_item-m-requires-clause-cases : goal.count_item-m-requires-clause-cases
count_item-m-requires-clause-cases c =
    let was = c.loop-i.invariant in
    rw was.same.wires (
      tally-below _ _ _ _ _ _ was.tallying (omega arith) (unchain-below _ _ _ _ c.unchain.ensures.unchained c.requires),
      tally-loads _ _ _ _ _ _ was.tallying (omega arith) (omega arith),
      was.tallying.chain,
    )

pub loop-i-preserved : goal.loop-i-preserved
loop-i-preserved c =
    let was = c.loop-i.invariant in
    let step = c.count_item-m.ensures in
    record {
      same = same_then _ _ _ was.same step.same;
      tallying = tally-more _ _ _ _ _ _ was.tallying _ _ (omega arith) (rw (sym was.same.wires) step.counted);
    }

pub returns : goal.returns
returns c =
    let was = c.loop-i.invariant in
    record {
      same = was.same;
      tallied = tally-from _ _ _ _ c.unchain.ensures.unchained _ _ (tally-ends _ _ _ _ _ _ was.tallying (omega arith));
    }
