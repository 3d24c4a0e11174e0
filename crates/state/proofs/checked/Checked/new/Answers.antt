-- `state::checked::Checked::new` meets its contract: what question 16 says. Assumes nothing.
use Rattle.state.proofs.Questions.{asked}
use Rattle.state.proofs.checked.Checked.new.Goals as goal

pub invariant_of-result : goal.invariant_of-result
invariant_of-result c =
    let a = asked _ _ _ c.in_ok-check_state.ensures in
    record { few = a.few; room = a.room; permutation = a.permutation }
