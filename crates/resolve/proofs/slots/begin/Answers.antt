-- `resolve::slots::begin` meets its contract: the first s slots are as before the first event.
-- Assumes nothing.
use native.Mathlib.Omega.{arith}
use Rattle.resolve.specs.Slots.{emptied_marks}
use Rattle.resolve.proofs.Ends.{begin-more, begin-end}
use Rattle.resolve.proofs.slots.begin.Goals as goal

pub loop-s-preserved : goal.loop-s-preserved
unfolding emptied_marks
loop-s-preserved c =
    let w = c.args.work.now in
    let l = c.loop-s in
    let only = l.invariant.0 in
    let made = l.invariant.1 in
    let whole = c.gates-gates.ensures.whole in
    rw (c.put_mark-in-loop-s.ensures.put, c.put_mark.ensures.put, c.put_kind.ensures.put, c.gates-gates.ensures.count)
    (record { floats = only.floats; gates = only.gates; slots = only.slots }, begin-more _ _ _ _ made (omega (arith, made.size, whole.marks)))

pub returns : goal.returns
returns c =
    let w = c.args.work.now in
    let l = c.loop-s in
    record { rest = l.invariant.0; begun = begin-end w.floats w.marks l.work.marks w.gates w.slots l.s (omega arith) l.invariant.1 }
