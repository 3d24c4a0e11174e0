-- `state::check::all_below` meets its contract, an entry a turn. Assumes nothing.
use Rattle.std.proofs.Common.{◌&&◌, ltb, length, refl, add-one}
use Rattle.laws.specs.Tests.{all_below}
use Rattle.laws.specs.Tables.{mode_at}
use Rattle.state.proofs.check.all_below.Goals as goal

pub loop-mode-init : goal.loop-mode-init
unfolding all_below
loop-mode-init c = refl

pub loop-mode-preserved : goal.loop-mode-preserved
unfolding all_below
loop-mode-preserved c =
    let l = c.loop-mode in
    let table = c.args.table.now in
    rw add-one (λ i. l.invariant i && ltb (mode_at table l.mode-index) (length table))
