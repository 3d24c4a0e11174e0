-- A refusal becomes its number and place, by its cases. Assumes nothing.
use Rattle.state.specs.Answers.{refusal}
use Rattle.state.proofs.told.ToldFromRefusal.from.Goals as goal

pub returns-in-BadState : goal.returns-in-BadState
unfolding refusal
returns-in-BadState c = rw c.in-BadState.is c.told_refused.ensures

pub returns-in-BadOperation : goal.returns-in-BadOperation
unfolding refusal
returns-in-BadOperation c = rw c.in-BadOperation.is c.told_refused-in-BadOperation.ensures

pub returns-in-BadBits : goal.returns-in-BadBits
unfolding refusal
returns-in-BadBits c = rw c.in-BadBits.is c.told_refused-in-BadBits.ensures

pub returns-in-BadQubit : goal.returns-in-BadQubit
unfolding refusal
returns-in-BadQubit c = rw c.in-BadQubit.is c.told_refused-in-BadQubit.ensures

pub returns-in-SmallWork : goal.returns-in-SmallWork
unfolding refusal
returns-in-SmallWork c = rw c.in-SmallWork.is c.told_refused-in-SmallWork.ensures

pub returns-in-BadShots : goal.returns-in-BadShots
unfolding refusal
returns-in-BadShots c = rw c.in-BadShots.is c.told_refused-in-BadShots.ensures

pub returns-in-BadDraw : goal.returns-in-BadDraw
unfolding refusal
returns-in-BadDraw c = rw c.in-BadDraw.is c.told_refused-in-BadDraw.ensures
