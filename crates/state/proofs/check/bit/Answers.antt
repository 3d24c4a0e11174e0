-- `state::check::bit` meets its contract: nothing is shifted out. Assumes nothing.
use Rattle.std.proofs.Common.{◌∙◌, le_refl, arith, shl_exact}
use Rattle.state.proofs.check.bit.Goals as goal

pub returns : goal.returns
returns c = shl_exact 1 _ 64 (le_refl 2) (omega (arith, c.requires)) ∙ omega arith
