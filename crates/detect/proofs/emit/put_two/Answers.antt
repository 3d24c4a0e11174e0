-- `detect::emit::put_two` meets its contract, by kind. Assumes nothing.
use mathlib.Core.Path.{ap, ◌∙◌}
use native.Mathlib.Omega.{arith}
use lib.ListN.{length}
use Rattle.work.specs.Kinds.{kind_number}
use Rattle.classify.specs.Diagonal.{interaction_of, unit_of}
use Rattle.detect.specs.Operation.{interaction, places_of}
use Rattle.detect.specs.Emit.{two_operations}
use Rattle.detect.proofs.Items.{neither}
use Rattle.detect.proofs.Placing.{put-none, put_one, one-long, front-room, rest_of, rest-room, put_next}
use Rattle.detect.proofs.Emitting.{two-diagonal, two-interaction}
use Rattle.detect.proofs.emit.put_two.Goals as goal

pub put_rotations-requires : goal.put_rotations-requires
put_rotations-requires c =
    let a = c.args in
    rw (two-diagonal a.block (kind_number a.kind) a.i a.j a.v (ap kind_number c.in-DiagonalItem.is)) at c.requires.room

pub returns-in-DiagonalItem : goal.returns-in-DiagonalItem
returns-in-DiagonalItem c =
    let a = c.args in
    rw (two-diagonal a.block (kind_number a.kind) a.i a.j a.v (ap kind_number c.in-DiagonalItem.is)) c.put_rotations.ensures

-- an interaction's own operation comes after the rotations

pub put_rotations-p-requires : goal.put_rotations-p-requires
put_rotations-p-requires c =
    let a = c.args in
    front-room _ _ _ (rw (two-interaction a.block (kind_number a.kind) a.i a.j a.v (ap kind_number c.in-InteractionItem.is)) at c.requires.room)

pub put-requires : goal.put-requires
put-requires c =
    let a = c.args in
    let e = two-interaction a.block (kind_number a.kind) a.i a.j a.v (ap kind_number c.in-InteractionItem.is) in
    let room = rest-room _ _ _ (rw e at c.requires.room) c.put_rotations-p.ensures in
    (ap length c.interaction_places.ensures, omega (arith, room, one-long (interaction a.i a.block a.j (unit_of (interaction_of a.v)))))

pub returns-in-InteractionItem : goal.returns-in-InteractionItem
unfolding places_of
returns-in-InteractionItem c =
    let a = c.args in
    let p = c.put_rotations-p in
    let w = interaction a.i a.block a.j (unit_of (interaction_of a.v)) in
    let e = two-interaction a.block (kind_number a.kind) a.i a.j a.v (ap kind_number c.in-InteractionItem.is) in
    let x = c.interaction_places.ensures ∙ rw (c.unit-w.ensures, c.interaction.ensures) in
    let own = put_one 0 (rest_of p.result p.new.ops) w c.put.new.l c.interaction_places.result x c.put.ensures.put in
    rw e (put_next _ _ _ (rw e at c.requires.room) p.ensures (rw c.put.ensures.count own))

pub returns-in_default : goal.returns-in_default
unfolding two_operations
returns-in_default c =
    let a = c.args in
    let d = c.in_default in
    rw (neither a.kind c.requires.no_match d.not-DiagonalItem d.not-InteractionItem).0 (put-none 0 a.ops.now)
