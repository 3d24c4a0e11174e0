-- `tape::check::read_records` meets its contract. The loop's invariant: how far the reading has come. The measure is what is left of the tape. Assumes
-- nothing.
use mathlib.Core.Path.{◌≡◌, sym}
use native.Mathlib.Omega.{arith}
use Rattle.tape.specs.Step as Steps
use Rattle.tape.proofs.RecordLaws.{gate-next, label-next}
use Rattle.tape.proofs.Reading.{refused_is, reads_end, reads_refused}
use Rattle.tape.proofs.check.read_records.Goals.{then-eq, else-eq}
use Rattle.tape.proofs.check.read_records.Goals as goal

pub returns-in_err-record-clause-contents : goal.returns-in_err-record-clause-contents
returns-in_err-record-clause-contents c =
    (refused_is _ _ _ _ c.from_residual.ensures.1 (reads_refused _ _ _ _ _ _ _ c.loop-record.invariant _ _ c.in_err-record.ensures)).0

pub returns-in_err-record-clause-label : goal.returns-in_err-record-clause-label
returns-in_err-record-clause-label c =
    (refused_is _ _ _ _ c.from_residual.ensures.1 (reads_refused _ _ _ _ _ _ _ c.loop-record.invariant _ _ c.in_err-record.ensures)).1

pub overflow_add-gates : goal.overflow_add-gates
overflow_add-gates c =
    let e : ◌≡◌ {A = Steps.Step} _ _ = rw (c.in-Some.is, c.in-Gate.is) at c.in_ok-record.ensures in
    omega (arith, c.loop-record.invariant.count, (gate-next _ _ _ _ _ (sym e)).2, (gate-next _ _ _ _ _ (sym e)).3)

pub loop-record-smaller-in-Gate : goal.loop-record-smaller-in-Gate
loop-record-smaller-in-Gate c =
    let e = rw (c.in-Some.is, c.in-Gate.is) at c.in_ok-record.ensures in
    let n = gate-next _ _ _ _ _ (sym e) in
    omega (arith, n.2, n.3)

pub overflow_add-labels : goal.overflow_add-labels
overflow_add-labels c =
    let n = label-next _ _ _ _ _ _ (sym (rw (c.in-Some.is, c.in-Label.is) at c.in_ok-record.ensures)) in
    omega (arith, c.loop-record.invariant.count, n.0, n.1)

pub loop-record-smaller : goal.loop-record-smaller
loop-record-smaller c =
    let n = label-next _ _ _ _ _ _ (sym (rw (c.in-Some.is, c.in-Label.is) at c.in_ok-record.ensures)) in
    omega (arith, n.0, n.1)

pub returns-clause-contents : goal.returns-clause-contents
returns-clause-contents c =
    (reads_end _ _ _ _ _ _ _ c.loop-record.invariant (rw c.in_default.is at c.in_ok-record.ensures)).0

pub returns-clause-label : goal.returns-clause-label
returns-clause-label c =
    (reads_end _ _ _ _ _ _ _ c.loop-record.invariant (rw c.in_default.is at c.in_ok-record.ensures)).1
