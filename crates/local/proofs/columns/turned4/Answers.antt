-- `local::columns::turned4` meets its contract: the first two terms change places, and the others are added to them. Assumes nothing.
use mathlib.Core.Path.{ap}
use lib.Ieee.{of_bits, binary64, add, mul}
use Rattle.laws.specs.Maps.{dot}
use Rattle.laws.proofs.FirstTerms.{dot-turned}
use Rattle.real.specs.Maps.{row4}
use Rattle.local.proofs.columns.turned4.Goals as goal

pub returns : goal.returns
unfolding dot of_bits
returns c =
    let q = row4 c.args.q in
    let v = row4 c.args.v in
    ap (λ x. add binary64 (add binary64 x (mul binary64 (q 2) (v 2))) (mul binary64 (q 3) (v 3))) (dot-turned q v)
