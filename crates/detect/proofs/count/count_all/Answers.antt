-- `detect::count::count_all` meets its contract: after i records the counts are those of their items, and the operations of
-- matchgates among them are kept. Assumes nothing.
use mathlib.Core.Path.{refl, sym, ap, ap₂, ◌∙◌}
use Prim.Native.Nat.{◌+◌, ◌<◌}
use native.Mathlib.Omega.{arith}
use lib.ListN.{length}
use Rattle.work.specs.Rows.{FloatsAt}
use Rattle.work.proofs.ItemKinds.{item_some, item_none}
use Rattle.detect.specs.Counts.{plus_of, share_of, counts_of}
use Rattle.detect.specs.Records.{record_item, items_in, modes_in}
use Rattle.detect.proofs.Items.{items_more, items-same, items-none, items-few, below_at}
use Rattle.detect.proofs.Sums.{share-adds, counts-add, adds-small, counts-none, counts-more}
use Rattle.detect.proofs.Keeping.{record-stays, counted_none, counted_same, counted-turn}
use Rattle.detect.proofs.count.count_all.Goals as goal
use Rattle.detect.proofs.count.count_all.Goals.{in-Some, in_default}

pub loop-i-init : goal.loop-i-init
loop-i-init c =
    let w = c.args.work.now in (
      sym (ap (counts_of c.args.tol (modes_in w.marks)) (items-none w.floats w.marks) ∙ counts-none c.args.tol (modes_in w.marks)),
      record { marks = refl; gates = refl; slots = refl },
      counted_none w.floats w.marks _,
    )

-- the kind tells that record i has an item
pub share_at-requires-clause-there : goal.share_at-requires-clause-there
share_at-requires-clause-there c =
    let w = c.args.work.now in
    let l = c.loop-i in
    let k = l.invariant.1 in
    let t : l.i < w.gates + w.slots = omega (arith, c.loop-i-test.true, c.gates.ensures.count, c.slots.ensures.count) in
    let is = rw k.marks at (item_some _ _ (sym c.item_kind.ensures.value ∙ c.in-Some.is)).1 in
    let below = below_at w.floats w.marks w.slots (w.gates + w.slots) l.i c.requires t is in
    rw (k.gates, k.slots, k.marks) (t, rw (record-stays w.floats l.work.floats w.marks l.invariant.2.same l.i) below)

pub share_at-requires-clause-kind : goal.share_at-requires-clause-kind
share_at-requires-clause-kind c = (item_some _ _ (sym c.item_kind.ensures.value ∙ c.in-Some.is)).0

pub add-c-requires : goal.add-c-requires
add-c-requires c =
    let w = c.args.work.now in
    let l = c.loop-i in
    let pos = modes_in w.marks in
    let items = items_in w.floats w.marks l.i in
    let t : l.i < w.gates + w.slots = omega (arith, c.loop-i-test.true, c.gates.ensures.count, c.slots.ensures.count) in
    let few : length items < 65536 = omega (arith, items-few w.floats w.marks l.i, c.gates.ensures.whole.few, t) in
    let own = share-adds c.args.tol (modes_in l.work.marks) (record_item l.work.floats l.work.marks l.i) in (
      rw l.invariant.0 (adds-small (counts_of c.args.tol pos items) (length items) few (counts-add c.args.tol pos items)),
      rw c.share_at.ensures.share (adds-small _ 1 (omega arith) own),
    )

pub loop-i-preserved : goal.loop-i-preserved
loop-i-preserved c =
    let w = c.args.work.now in
    let l = c.loop-i in
    let k = l.invariant.1 in
    let old = l.invariant.2 in
    let f = counts_of c.args.tol (modes_in w.marks) in
    let t : l.i < w.gates + w.slots = omega (arith, c.loop-i-test.true, c.gates.ensures.count, c.slots.ensures.count) in
    let fit : FloatsAt l.work.floats l.i = omega (arith, c.item_kind.ensures.whole.floats, t, k.gates, k.slots) in
    elim c.match-item_kind.branch [
      | in-Some b ↦
          let is = rw k.marks at (item_some _ _ (sym c.item_kind.ensures.value ∙ b.in-Some.is)).1 in
          let own = rw k.marks at b.share_at.ensures.share in
          let share = own ∙ ap (share_of c.args.tol (modes_in w.marks)) (record-stays w.floats l.work.floats w.marks old.same l.i) in
          let left = b.work-is ∙ b.share_at.ensures.kept in
          let kept = rw k.marks at (ap (λ v. v.floats) left) in
          let more = ap f (items_more w.floats w.marks l.i is) ∙ counts-more c.args.tol (modes_in w.marks) _ (items_in w.floats w.marks l.i) in (
            b.c-is ∙ b.add-c.ensures ∙ ap₂ plus_of l.invariant.0 share ∙ sym more,
            record { marks = ap (λ v. v.marks) left ∙ k.marks; gates = ap (λ v. v.gates) left ∙ k.gates; slots = ap (λ v. v.slots) left ∙ k.slots },
            counted-turn w.floats w.marks l.c l.work.floats l.i old c.args.tol fit b.share_at.result _ _ own (b.c-is ∙ b.add-c.ensures)
                kept,
          )
      | in_default b ↦
          let is = rw k.marks at (item_none _ (sym c.item_kind.ensures.value ∙ b.in_default.is)) in
          let same = l.invariant.0 ∙ sym (ap f (items-same w.floats w.marks l.i is)) in
          rw (b.work-is, b.c-is) (same, k, counted_same w.floats w.marks l.c l.work.floats l.i old is)
    ]
