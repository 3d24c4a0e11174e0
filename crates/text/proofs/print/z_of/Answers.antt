-- `text::print::z_of` meets its contract. Assumes nothing.
use Rattle.std.proofs.Common.{ap, ◌∙◌}
use lib.Ieee.{of_bits}
use Rattle.text.proofs.print.z_of.Goals as goal

pub returns : goal.returns
unfolding of_bits
returns c = ap (λ a. a.told.value) (c.from.ensures ∙ c.expectation_z_product-answer.ensures.answer)
