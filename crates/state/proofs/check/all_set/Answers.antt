-- `state::check::all_set` meets its contract, a mark a turn. Assumes nothing.
use Rattle.std.proofs.Common.{false, ◌&&◌, get_or, refl, add-one}
use Rattle.laws.specs.Tests.{all_below}
use Rattle.state.proofs.check.all_set.Goals as goal

pub loop-mark-init : goal.loop-mark-init
unfolding all_below
loop-mark-init c = refl

pub loop-mark-preserved : goal.loop-mark-preserved
unfolding all_below
loop-mark-preserved c =
    let l = c.loop-mark in
    rw add-one (λ i. l.invariant i && get_or c.args.seen.now l.mark-index false)
