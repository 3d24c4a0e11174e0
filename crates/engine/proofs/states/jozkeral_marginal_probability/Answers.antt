-- `engine::states::jozkeral_marginal_probability` meets its contract: the row fits its word. Assumes nothing.
use Rattle.engine.proofs.Rows.{marginal-fits}
use Rattle.engine.proofs.states.jozkeral_marginal_probability.Goals as goal

pub tell-requires-clause-fits : goal.tell-requires-clause-fits
tell-requires-clause-fits c = rw c.marginal_probability-a.ensures.answer (marginal-fits _ _ _ _ _ _)
