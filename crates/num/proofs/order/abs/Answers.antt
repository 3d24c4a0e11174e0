-- `num::order::abs` meets its contract: the bits of x less the sign's are those of `abs_of x` (`abs-bits`), and no NaN's. Assumes nothing.
use mathlib.Core.Path.{◌≡◌, sym, ◌∙◌, subst}
use mathlib.Core.Bool.{false}
use lib.Dec.{T}
use lib.Ieee.{binary64, fits, is_nan}
use lib.Ieee.Bits.{nan_bits_is}
use Rattle.num.proofs.OrderLaws.{abs-nan, abs-number}
use Rattle.num.proofs.BitLaws.{abs-bits}
use Rattle.num.proofs.order.abs.Goals as goal
use Rattle.num.proofs.order.abs.Goals.{Else-is_nan, Start}

-- x is an f64, as every parameter is
held : (c : Start) → T (fits binary64 c.args.x)
held c = subst T (sym c.well_formed.0.1) tt

number : (c : Else-is_nan) → is_nan c.args.x ≡ false
number c = sym c.is_nan.ensures.value ∙ c.if-is_nan.false

pub returns-then-is_nan : goal.returns-then-is_nan
returns-then-is_nan c = abs-nan _ (sym c.is_nan.ensures.value ∙ c.if-is_nan.true)

pub float_from_bits-result : goal.float_from_bits-result
float_from_bits-result c =
    let x = c.args.x in
    rw (nan_bits_is, abs-bits x (held c.before.before) (number c), abs-number x (number c)) tt

pub returns : goal.returns
returns c = abs-bits c.args.x (held c.before.before) (number c)
