-- `resolve::settle::close` meets its contract: its slots are emptied one after the other, then it becomes an item.
-- Assumes nothing.
use mathlib.Core.Path.{refl}
use native.Mathlib.Omega.{arith}
use Prim.Native.Nat.{◌<◌}
use Rattle.resolve.specs.Resolve.{emptied}
use Rattle.resolve.specs.Slots.{emptied_marks}
use Rattle.resolve.proofs.Moves.{two-emptied, more-emptied, closed-moved}
use Rattle.resolve.proofs.settle.close.Goals as goal

pub returns : goal.returns
returns c =
    let w = c.args.work.now in
    let i = c.args.i in
    let a = c.mark-a.result in
    let b = c.mark-b.result in
    let d = c.mark-c.result in
    let whole = c.mark-a.ensures.whole in
    let sa : a < w.slots = rw c.mark-a.ensures.value (c.requires.1.a i (omega arith) c.requires.0) in
    let sb : b < w.slots = rw c.mark-b.ensures.value (c.requires.1.b i (omega arith) c.requires.0) in
    let sd : d < w.slots = rw c.mark-c.ensures.value (c.requires.1.c i (omega arith) c.requires.0) in
    let two = emptied_marks (emptied_marks w.marks w.gates a 0) w.gates b 0 in
    let three = emptied_marks two w.gates d 0 in
    let emptied-two = two-emptied _ _ _ _ i whole c.requires.0 c.requires.1 a 0 b 0 sa sb in
    let emptied-three = more-emptied _ _ _ _ i whole c.requires.0 c.requires.1 (λ r. emptied b 0 (emptied a 0 r)) two d 0 sd emptied-two in
    rw (c.put_item.ensures, c.empty-3.ensures, c.empty-2.ensures, c.empty.ensures)
    (record {
      rest = record { floats = refl; gates = refl; slots = refl };
      closed = λ t. rw (← c.mark-a.ensures.value, ← c.mark-b.ensures.value, ← c.mark-c.ensures.value)
          (closed-moved _ _ _ _ i whole c.requires.0 c.requires.1 a b d three t emptied-three);
    })
