-- `state::check::mark` meets its contract, a mark a turn. Assumes nothing.
use Rattle.std.proofs.Common.{◌<◌, ltb, length, refl, arith, length-set, ltb-true}
use Rattle.laws.specs.Tables.{mode_at}
use Rattle.laws.proofs.Tests.{all-each}
use Rattle.state.proofs.Permutations.{marked-none, marked_more}
use Rattle.state.proofs.check.mark.Goals as goal

pub loop-mode-init : goal.loop-mode-init
loop-mode-init c = (refl, marked-none c.args.table.now c.args.seen.now c.requires.no_marks.clear)

pub bounds-seen-from : goal.bounds-seen-from
bounds-seen-from c =
    let l = c.loop-mode in
    let table = c.args.table.now in
    let n = length table in
    let some : l.mode-index < n = omega arith in
    let low = all-each (λ q. ltb (mode_at table q) n) n l.mode-index c.requires.below some in
    omega (arith, c.from.ensures, ltb-true (mode_at table l.mode-index) n low, c.requires.no_marks.long, l.invariant.0)

pub loop-mode-preserved : goal.loop-mode-preserved
loop-mode-preserved c =
    let l = c.loop-mode in
    (simp length-set l.invariant.0, marked_more c.args.table.now l.mode-index _ l.seen c.from.ensures l.invariant.1)
