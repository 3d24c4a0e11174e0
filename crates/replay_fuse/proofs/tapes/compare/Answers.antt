-- The gates of a tape that the check passes are good.
use Rattle.std.proofs.Common.{sym}
use Rattle.tape.proofs.CursorLaws.{checked-passed}
use Rattle.tape.proofs.GoodLaws.{gates-good}
use Rattle.replay_fuse.proofs.tapes.compare.Goals as goal

pub fused-requires : goal.fused-requires
fused-requires c =
    let p = checked-passed _ _ _ _ (sym c.in-Ok.ensures) in
    record { cursor = p.cursor; count = p.gates; good = λ x m. rw p.header_is (gates-good _ x m) }
