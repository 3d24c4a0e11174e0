-- A query's answer becomes plain numbers, by its cases. Assumes nothing.
use Rattle.state.specs.Answers.{told}
use Rattle.state.proofs.told.ToldFromResultF64Refusal.from.Goals as goal

pub returns-in-Ok : goal.returns-in-Ok
unfolding told
returns-in-Ok c = rw c.in-Ok.is

pub returns-in-Err : goal.returns-in-Err
unfolding told
returns-in-Err c = rw c.in-Err.is c.from.ensures
