-- `engine::states::jozkeral_expectation_z_product` meets its contract: the row fits its word. Assumes nothing.
use Rattle.engine.proofs.Rows.{product-fits}
use Rattle.engine.proofs.states.jozkeral_expectation_z_product.Goals as goal

pub tell-requires-clause-fits : goal.tell-requires-clause-fits
tell-requires-clause-fits c = rw c.expectation_z_product-a.ensures.answer (product-fits _ _ _ _ _)
