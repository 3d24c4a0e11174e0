-- A product's or marginal's answer becomes plain numbers, by its cases. Assumes nothing.
use Rattle.state.specs.Answers.{told}
use Rattle.queries.specs.Answers.{answered}
use Rattle.queries.proofs.number.AnsweredFromResultNumberRefusal.from.Goals as goal

pub returns-in-Ok : goal.returns-in-Ok
unfolding told answered
returns-in-Ok c = rw (c.in-Ok.is, c.from.ensures)

pub returns-in-Err : goal.returns-in-Err
unfolding answered
returns-in-Err c = rw (c.in-Err.is, c.from-in-Err.ensures)
