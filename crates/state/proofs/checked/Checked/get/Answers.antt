-- `state::checked::Checked::get` meets its contract. Assumes nothing.
use Rattle.std.proofs.Common.{arith}
use Rattle.state.proofs.checked.Checked.get.Goals as goal

pub overflow_mul-self : goal.overflow_mul-self
overflow_mul-self c = omega arith

pub covariance-requires : goal.covariance-requires
covariance-requires c = record { room = omega arith; row = c.requires.row; col = c.requires.column }
