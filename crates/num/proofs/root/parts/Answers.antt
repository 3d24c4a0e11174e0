-- `num::root::parts` meets its contract: a normal number has its leading digit in its place, a subnormal one is moved up. Assumes nothing.
use native.Mathlib.Omega.{arith}
use Rattle.num.proofs.root.Fields.{normal-parts, subnormal-parts}
use Rattle.num.proofs.root.parts.Goals as goal

pub returns-then-e-gt0 : goal.returns-then-e-gt0
returns-then-e-gt0 c = normal-parts c.args.b c.requires.1 c.if-e-gt0.true

pub returns : goal.returns
returns c =
    let e = c.before.before in
    subnormal-parts e.args.b _ _ (omega arith) c.normalise-n.ensures
