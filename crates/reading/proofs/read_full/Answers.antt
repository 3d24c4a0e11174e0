use Rattle.std.proofs.Common.{◌-◌, length, rules, subst}
use Rattle.std.specs.Io.KnownBytes.{Consumes}
use Rattle.std.proofs.KnownBytes.{Consumes-trans}
use Rattle.reading.proofs.Filled.{filled}
use Rattle.reading.proofs.read_full.Goals as goal

pub loop-done-preserved : goal.loop-done-preserved
loop-done-preserved g c =
    let before = c.loop-done.invariant in
    let all = filled c.loop-done.done (length c.loop-done.space - c.loop-done.done) c.in_ok-n.n c.loop-done.space c.read.new.buf before.1 c.in_ok-n.ensures.bound.0 in
    (search rules, search rules, subst (Consumes _ _) all (Consumes-trans _ _ _ _ _ before.2 c.in_ok-n.ensures.bytes.0))
