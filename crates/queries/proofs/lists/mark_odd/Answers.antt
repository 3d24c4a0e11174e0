-- `queries::lists::mark_odd` meets its contract: the marks are those of the places passed, none of which is bad. Assumes nothing.
use Rattle.std.proofs.Common.{◌∙◌, refl, sym, arith, length-set, le-leb}
use borrow.Author.Tests.{lt-leb}
use Rattle.queries.specs.Lists.{oddly, bad_place}
use native.Mathlib.Nat.{sub-zero, le_refl}
use Rattle.queries.proofs.Searches.{first-hit, first-miss, first-none}
use Rattle.queries.proofs.Marking.{span-turn, odd-turn}
use Rattle.queries.proofs.lists.mark_odd.Goals as goal

pub loop-i-init : goal.loop-i-init
unfolding bad_place oddly
loop-i-init c = (refl, rw sub-zero, record { low = le_refl _; end = omega arith; before = λ k h. refl; after = λ k h l. refl }, c.requires)

pub returns-then-q-checked : goal.returns-then-q-checked
returns-then-q-checked c =
    let l = c.loop-i in
    let place = sym (first-hit _ l.i _ (omega arith) (le-leb _ _ c.if-q-checked.true)) ∙ l.invariant.1 in
    record { answer = rw (← place) (omega arith, refl); marks = rw (← place) l.invariant.3 }

pub loop-i-preserved : goal.loop-i-preserved
loop-i-preserved c =
    let l = c.loop-i in
    let checked = c.args.checked in (
      simp length-set l.invariant.0,
      sym (first-miss _ l.i _ (omega arith) (lt-leb _ _ c.if-q-checked.false)) ∙ l.invariant.1,
      span-turn checked.n checked.modes.now c.args.qubits.now l.i c.mode_of-k.result l.span c.with-span.result c.mode_of-k.ensures.value l.invariant.2
          c.with-span.ensures.low c.with-span.ensures.end
          (c.with-span.ensures.least checked.n l.invariant.2.end c.mode_of-k.ensures.bound),
      odd-turn checked.n checked.modes.now c.args.qubits.now l.odd l.i c.mode_of-k.result _ c.mode_of-k.ensures.bound c.mode_of-k.ensures.value
          l.invariant.3 refl,
    )

pub returns : goal.returns
returns c =
    let l = c.loop-i in
    let place = sym (first-none _ l.i _ (omega arith)) ∙ l.invariant.1 in
    record { answer = rw (← place) (omega arith, l.invariant.2); marks = rw (← place) l.invariant.3 }
