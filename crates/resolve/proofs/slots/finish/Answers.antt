-- `resolve::slots::finish` meets its contract: the remainders of the first s slots are items.
-- Assumes nothing.
use mathlib.Core.Path.{sym, ◌∙◌}
use native.Mathlib.Omega.{arith}
use borrow.Author.Tests.{eqb-true, eqb-false}
use Rattle.resolve.proofs.Ends.{finish-item, finish-gone, finish-end}
use Rattle.resolve.proofs.slots.finish.Goals as goal
use Rattle.resolve.proofs.slots.finish.Goals.{then-is, else-is}

pub loop-s-preserved : goal.loop-s-preserved
loop-s-preserved c =
    let w = c.args.work.now in
    let l = c.loop-s in
    let only = l.invariant.0 in
    let made = l.invariant.1 in
    let same = c.gates-gates.ensures.count in
    let kind = rw same at c.is.ensures.value in
    let whole = c.gates-gates.ensures.whole in
    elim c.if-is.branch [
      | then-is v ↦ rw (v.work-is, v.put_mark.ensures.put, same) (
        record { floats = only.floats; gates = only.gates; slots = only.slots },
        finish-item _ _ _ _ _ made v.mark-wire.result (omega (arith, made.size, whole.marks)) (eqb-true _ _ (sym kind ∙ v.if-is.true))
            v.mark-wire.ensures.value,
      )
      | else-is v ↦ rw (v.work-is, v.put_kind.ensures.put, same) (
        record { floats = only.floats; gates = only.gates; slots = only.slots },
        finish-gone _ _ _ _ _ made (omega (arith, made.size, whole.marks)) (eqb-false _ _ (sym kind ∙ v.if-is.false)),
      )
    ]

pub returns : goal.returns
returns c =
    let w = c.args.work.now in
    let l = c.loop-s in
    record { rest = l.invariant.0; finished = λ t. finish-end w.floats w.marks l.work.marks w.gates w.slots l.s t (omega arith) l.invariant.1 }
