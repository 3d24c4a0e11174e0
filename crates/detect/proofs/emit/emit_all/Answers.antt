-- `detect::emit::emit_all` meets its contract: after i records the operations of their items are written. Assumes nothing.
use mathlib.Core.Path.{◌≡◌, refl, sym, ap, ◌∙◌}
use mathlib.Core.Bool.{true}
use mathlib.Core.List.{List, ◌++◌}
use Prim.Native.Nat.{ℕ, ◌+◌, ◌-◌, ◌≤◌, ◌<◌}
use native.Mathlib.Omega.{arith}
use lib.ListN.{length}
use lib.Ieee.{Float}
use borrow.Rule.Slice.PartMut.{put_mid}
use Rattle.work.specs.Columns.{kind_column}
use Rattle.work.specs.Kinds.{is_item_of}
use Rattle.work.specs.Marks.{mark_at}
use Rattle.work.proofs.ItemKinds.{item_some, item_none}
use Rattle.detect.specs.Operation.{all_places}
use Rattle.detect.specs.Emit.{item_operations, operations_in}
use Rattle.detect.specs.Records.{record_item, items_in, modes_in}
use Rattle.detect.proofs.Items.{items-same, items-none, items-few, below_at}
use Rattle.detect.proofs.Placing.{put-none, rest-there, rest-room, put_rest}
use Rattle.detect.proofs.Emitting.{emitted, emitted-none, emitted-more, emitted-same, emitted-fits, turn-put, turn-number, turn-length}
use Rattle.detect.proofs.emit.emit_all.Goals as goal
use Rattle.detect.proofs.emit.emit_all.Goals.{in-Some, in_default}

pub loop-i-init : goal.loop-i-init
loop-i-init c =
    let w = c.args.work.now in (
      rw (emitted-none w.floats w.marks (modes_in w.marks)) (put-none 0 c.args.ops.now),
      sym (ap length (items-none w.floats w.marks)),
      refl,
    )

-- record i has an item, and there is room for its operations
room : (w : List Float) (u : List ℕ) (o : List Float) (m i : ℕ) → length (all_places (operations_in w u m)) ≤ length o → i < m
    → is_item_of (mark_at u i kind_column) ≡ true
    → length (all_places (emitted w u (modes_in u) i ++ item_operations (modes_in u) (length (items_in w u i)) (record_item w u i))) ≤ length o
room w u o m i h t is =
    let pos = modes_in u in
    omega (arith, h, emitted-fits w u pos (i + 1) m (omega (arith, t)), ap (λ os. length (all_places os)) (emitted-more w u pos i is))

pub put_item-p-requires-clause-there : goal.put_item-p-requires-clause-there
put_item-p-requires-clause-there c =
    let w = c.args.work.now in
    let i = c.loop-i.i in
    let t : i < w.gates + w.slots = omega (arith, c.loop-i-test.true, c.gates.ensures.count, c.slots.ensures.count) in
    let is = (item_some _ _ (sym c.item_kind.ensures.value ∙ c.in-Some.is)).1 in
    ((t, below_at w.floats w.marks w.slots (w.gates + w.slots) i c.requires.there.0 t is), c.requires.there.1 i t)

pub put_item-p-requires-clause-kind : goal.put_item-p-requires-clause-kind
put_item-p-requires-clause-kind c = (item_some _ _ (sym c.item_kind.ensures.value ∙ c.in-Some.is)).0

pub put_item-p-requires-clause-room : goal.put_item-p-requires-clause-room
put_item-p-requires-clause-room c =
    let w = c.args.work.now in
    let o = c.args.ops.now in
    let l = c.loop-i in
    let t : l.i < w.gates + w.slots = omega (arith, c.loop-i-test.true, c.gates.ensures.count, c.slots.ensures.count) in
    let is = (item_some _ _ (sym c.item_kind.ensures.value ∙ c.in-Some.is)).1 in
    rw l.invariant.1 (rest-room _ _ _ (room w.floats w.marks o (w.gates + w.slots) l.i c.requires.room t is) l.invariant.0)

pub overflow_add-block : goal.overflow_add-block
overflow_add-block c =
    let w = c.args.work.now in
    let l = c.loop-i in
    let t = c.loop-i-test.true in
    omega (arith, l.invariant.1, items-few w.floats w.marks l.i, t, c.gates.ensures.count, c.slots.ensures.count, c.gates.ensures.whole.few)

pub loop-i-preserved : goal.loop-i-preserved
loop-i-preserved c =
    let w = c.args.work.now in
    let o = c.args.ops.now in
    let l = c.loop-i in
    let pos = modes_in w.marks in
    let t : l.i < w.gates + w.slots = omega (arith, c.loop-i-test.true, c.gates.ensures.count, c.slots.ensures.count) in
    elim c.match-item_kind.branch [
      | in-Some b ↦
          let is = (item_some _ _ (sym c.item_kind.ensures.value ∙ b.in-Some.is)).1 in
          let fits = room w.floats w.marks o (w.gates + w.slots) l.i c.requires.room t is in
          let x = b.put_item-p in
          let p = l.p + x.result in
          let ops = put_mid l.p (length l.ops - l.p) l.ops x.new.ops in
          let new = put_rest l.p l.ops (omega (arith, rest-there _ _ _ fits l.invariant.0)) x.ensures in
          let all = turn-put w.floats w.marks pos l.i l.p p l.block o l.ops ops is l.invariant.0 l.invariant.1 new fits in
          let number = turn-number w.floats w.marks pos l.i l.p p l.block o l.ops ops is l.invariant.0 l.invariant.1 new fits in
          let long = turn-length w.floats w.marks pos l.i l.p p l.block o l.ops ops is l.invariant.0 l.invariant.1 new fits in
          rw (b.ops-is, b.p-is, b.block-is) (all, number, long)
      | in_default b ↦
          let is = item_none _ (sym c.item_kind.ensures.value ∙ b.in_default.is) in
          rw (b.ops-is, b.p-is, b.block-is, emitted-same w.floats w.marks pos l.i is, items-same w.floats w.marks l.i is) l.invariant
    ]
