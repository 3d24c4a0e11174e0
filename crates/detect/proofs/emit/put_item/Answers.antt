-- `detect::emit::put_item` meets its contract: the kind says which item the record holds. Assumes nothing.
use mathlib.Core.Path.{ap, ◌∙◌}
use native.Mathlib.Omega.{arith}
use lib.ListN.{length}
use Rattle.work.specs.Marks.{mark_at}
use Rattle.work.specs.Kinds.{kind_number}
use Rattle.majorana.specs.Majorana.{majorana_map1_of}
use Rattle.fuse.specs.Layout.{matrix2_of}
use Rattle.detect.specs.Operation.{one, places_of, all_places}
use Rattle.detect.specs.Emit.{item_operations}
use Rattle.detect.specs.Records.{modes_in}
use Rattle.detect.proofs.Items.{record-one, record-opaque}
use Rattle.detect.proofs.Placing.{put-none, put_one, one-long}
use Rattle.detect.proofs.Emitting.{match_of, record-match}
use Rattle.detect.proofs.emit.put_item.Goals as goal

pub returns-in-OpaqueItem : goal.returns-in-OpaqueItem
returns-in-OpaqueItem c =
    let a = c.args in
    let w = a.work.now in
    rw (record-opaque w.floats w.marks a.i (c.requires.kind ∙ ap kind_number c.in-OpaqueItem.is)) (put-none 0 a.ops.now)

-- the operation of a matchgate is in its record
pub put-requires : goal.put-requires
put-requires c =
    let a = c.args in
    let w = a.work.now in
    let kind = c.requires.kind ∙ ap kind_number c.in-MatchItem.is in
    let e = record-match w.floats w.marks (modes_in w.marks) a.block a.i kind in
    let o = match_of w.floats w.marks (modes_in w.marks) a.i in
    (ap length (c.places.ensures.value ∙ c.requires.there.1 kind), omega (arith, c.requires.room, ap (λ os. length (all_places os)) e, one-long o))

pub returns-in-MatchItem : goal.returns-in-MatchItem
unfolding places_of
returns-in-MatchItem c =
    let a = c.args in
    let w = a.work.now in
    let kind = c.requires.kind ∙ ap kind_number c.in-MatchItem.is in
    let o = match_of w.floats w.marks (modes_in w.marks) a.i in
    rw (record-match w.floats w.marks (modes_in w.marks) a.block a.i kind, c.put.ensures.count)
    (put_one 0 a.ops.now o c.put.new.l c.places.result.now (c.places.ensures.value ∙ c.requires.there.1 kind) c.put.ensures.put)

pub put-requires-in-OneItem : goal.put-requires-in-OneItem
put-requires-in-OneItem c =
    let a = c.args in
    let w = a.work.now in
    let pos = modes_in w.marks in
    let e = record-one w.floats w.marks a.i (c.requires.kind ∙ ap kind_number c.in-OneItem.is) in
    let o = one (pos (mark_at w.marks a.i 1)) (majorana_map1_of (matrix2_of w.floats a.i)).q in
    let long = ap (λ x. length (all_places (item_operations pos a.block x))) e in
    (ap length c.one_places.ensures, omega (arith, c.requires.room, long, one-long o))

pub returns-in-OneItem : goal.returns-in-OneItem
unfolding places_of
returns-in-OneItem c =
    let a = c.args in
    let w = a.work.now in
    let q = (majorana_map1_of (matrix2_of w.floats a.i)).q in
    rw (record-one w.floats w.marks a.i (c.requires.kind ∙ ap kind_number c.in-OneItem.is), c.put-in-OneItem.ensures.count)
    (put_one 0 a.ops.now (one (modes_in w.marks (mark_at w.marks a.i 1)) q) c.put-in-OneItem.new.l c.one_places.result
    (c.one_places.ensures ∙ rw (c.majorana_map1-m.ensures, c.matrix.ensures.value, c.wire_mode.ensures)) c.put-in-OneItem.ensures.put)
