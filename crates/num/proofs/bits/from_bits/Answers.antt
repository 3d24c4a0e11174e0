-- `num::bits::from_bits` meets its contract: the test tells the patterns of a NaN. Assumes nothing.
use mathlib.Core.Path.{sym, ◌∙◌}
use lib.Ieee.{div, of_bits}
use lib.Ieee.Bits.{nan_bits_above}
use borrow.Author.Tests.{lt-ltb, le-ltb}
use Rattle.num.proofs.BitLaws.{is-nan, nan-test}
use Rattle.num.proofs.bits.from_bits.Goals as goal

pub returns-then-b-gt-INFINITY : goal.returns-then-b-gt-INFINITY
unfolding div of_bits
returns-then-b-gt-INFINITY c = sym (is-nan _ (nan-test c.args.b ∙ lt-ltb _ _ c.if-b-gt-INFINITY.true))

pub float_from_bits-result : goal.float_from_bits-result
float_from_bits-result c = rw (nan_bits_above, le-ltb _ _ c.if-b-gt-INFINITY.false) tt
