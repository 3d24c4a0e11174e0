-- `local::signs::negate_all` meets its contract: from the front. Assumes nothing.
use Rattle.std.proofs.Common.{◌∙◌, refl, arith, length-set}
use lib.Ieee.{nan, neg}
use Rattle.laws.proofs.Slices.{mapped-none, mapped-more, mapped-all}
use Rattle.local.proofs.signs.negate_all.Goals as goal

pub loop-x-init : goal.loop-x-init
loop-x-init c = (refl, mapped-none neg _)

pub loop-x-preserved : goal.loop-x-preserved
loop-x-preserved c =
    let l = c.loop-x in
    (simp length-set l.invariant.0, mapped-more neg l.x-index nan _ l.v _ (omega arith) l.invariant.1 refl)

pub returns : goal.returns
returns c =
    let l = c.loop-x in
    l.invariant.1 ∙ mapped-all neg l.x-index c.args.v.now (omega arith)
