-- `num::root::normalise` meets its contract: the leading digit's place is known, and moved to 52. Assumes nothing.
use native.Mathlib.Omega.{arith}
use Rattle.num.proofs.root.Turns.{top-place, moved}
use Rattle.num.proofs.root.normalise.Goals as goal

pub overflow_sub-ilog2 : goal.overflow_sub-ilog2
overflow_sub-ilog2 c = top-place c.args.t c.ilog2.result c.requires.1 c.ilog2.ensures.power_le

pub returns : goal.returns
returns c =
    let i = c.ilog2 in
    moved c.args.t i.result c.from-s.result i.ensures.power_le i.ensures.next_power_gt (omega (arith, top-place c.args.t i.result c.requires.1 i.ensures.power_le))
