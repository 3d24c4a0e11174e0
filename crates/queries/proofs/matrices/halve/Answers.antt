-- `queries::matrices::halve` meets its contract: from the front. Assumes nothing.
use Rattle.std.proofs.Common.{◌∙◌, refl, arith, length-set}
use lib.Ieee.{nan, binary64, mul, of_bits}
use Rattle.laws.proofs.Slices.{mapped-none, mapped-more, mapped-all}
use Rattle.pfaffian.specs.Shot.{half}
use Rattle.queries.proofs.matrices.halve.Goals as goal

pub loop-x-init : goal.loop-x-init
loop-x-init c = (refl, mapped-none (mul binary64 half) _)

pub loop-x-preserved : goal.loop-x-preserved
unfolding of_bits
loop-x-preserved c =
    let l = c.loop-x in
    (simp length-set l.invariant.0, mapped-more (mul binary64 half) l.x-index nan _ l.v _ (omega arith) l.invariant.1 refl)

pub returns : goal.returns
returns c =
    let l = c.loop-x in
    l.invariant.1 ∙ mapped-all (mul binary64 half) l.x-index c.args.v.now (omega arith)
