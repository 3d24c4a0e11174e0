-- `num::root::guess` meets its contract: the patterns that it makes floats of are no NaN's. Assumes nothing.
use native.Mathlib.Omega.{arith}
use Rattle.num.proofs.root.Tested.{a-number}
use Rattle.num.proofs.root.guess.Goals as goal

pub float_from_bits-v : goal.float_from_bits-v
float_from_bits-v c = a-number _ (omega arith)

pub float_from_bits-y : goal.float_from_bits-y
float_from_bits-y c = a-number _ (omega arith)

pub float_from_bits-k : goal.float_from_bits-k
float_from_bits-k c = a-number _ (omega arith)
