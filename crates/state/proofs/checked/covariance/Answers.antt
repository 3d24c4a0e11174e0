-- `state::checked::covariance` meets its contract, an entry and two signs. Assumes nothing.
use Rattle.state.proofs.checked.covariance.Goals as goal

pub returns : goal.returns
returns c = rw c.entry-x.ensures
