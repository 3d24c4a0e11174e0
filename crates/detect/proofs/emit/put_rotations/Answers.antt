-- `detect::emit::put_rotations` meets its contract: the first wire's rotation, then the second's. Assumes nothing.
use Rattle.detect.specs.Emit.{rotations_of}
use Rattle.detect.proofs.Placing.{front-room, rest-room, put_next}
use Rattle.detect.proofs.emit.put_rotations.Goals as goal

pub put_rotation-p-requires : goal.put_rotation-p-requires
unfolding rotations_of
put_rotation-p-requires c = rw (c.rotation_of.ensures, c.phase_a.ensures) (front-room _ _ _ c.requires)

pub put_rotation-requires : goal.put_rotation-requires
unfolding rotations_of
put_rotation-requires c =
    let first = rw (c.rotation_of.ensures, c.phase_a.ensures) at c.put_rotation-p.ensures in
    rw (c.rotation_of-2.ensures, c.phase_b.ensures) (rest-room _ _ _ c.requires first)

pub returns : goal.returns
unfolding rotations_of
returns c =
    let first = rw (c.rotation_of.ensures, c.phase_a.ensures) at c.put_rotation-p.ensures in
    put_next _ _ _ c.requires first (rw (c.rotation_of-2.ensures, c.phase_b.ensures) at c.put_rotation.ensures)
