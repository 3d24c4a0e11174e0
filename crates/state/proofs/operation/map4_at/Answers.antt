-- `state::operation::map4_at` meets its contract, row by row. Assumes nothing.
use Rattle.state.proofs.operation.map4_at.Goals as goal

pub returns : goal.returns
returns c =
    rw (c.real4_at-r3.ensures, c.real4_at-r2.ensures, c.real4_at-r1.ensures, c.real4_at-r0.ensures)
