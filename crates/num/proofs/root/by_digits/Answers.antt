-- `num::root::by_digits` meets its contract: 54 digits, rounded to 53. Assumes nothing.
use Rattle.num.proofs.root.Tested.{by_digits}
use Rattle.num.proofs.root.by_digits.Goals as goal

pub returns : goal.returns
returns c = by_digits c.args.a c.whole_root.result c.requires.0 c.whole_root.ensures
