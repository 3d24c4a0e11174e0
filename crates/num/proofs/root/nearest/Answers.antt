-- `num::root::nearest` meets its contract: by what `adjusted` found, or by digits. Assumes nothing.
use Rattle.num.proofs.root.Cases.{number}
use Rattle.num.proofs.root.nearest.Goals as goal

pub float_to_bits-r : goal.float_to_bits-r
float_to_bits-r c = number _ c.if-guess.true
