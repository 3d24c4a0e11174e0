-- `state::operation::map2_at` meets its contract, row by row. Assumes nothing.
use Rattle.state.proofs.operation.map2_at.Goals as goal

pub returns : goal.returns
returns c = rw (c.real2_at-r1.ensures, c.real2_at-r0.ensures)
