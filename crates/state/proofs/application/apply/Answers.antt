-- `state::application::apply` meets its contract, by its questions. Assumes nothing.
use Rattle.std.proofs.Common.{refl, lt-ltb}
use Rattle.std.proofs.lemmas.Result.{err_from_is_err_and}
use Rattle.state.specs.Answers.{done, refusal}
use Rattle.state.specs.Operation.{decode_of}
use Rattle.state.specs.Calls.{decoded_answer, decoded_state, apply_answer, apply_state}
use Rattle.state.proofs.Questions.{asked}
use Rattle.state.proofs.application.apply.Goals as goal

pub returns-in_err-check_state : goal.returns-in_err-check_state
unfolding done refusal apply_answer apply_state
returns-in_err-check_state c =
    let p = err_from_is_err_and c.from_residual.result c.from_residual.ensures.1 in
    let e = c.in_err-check_state.ensures in
    record { answer = rw (p.1, p.2, e.0, e.1); state = rw e.1 }

-- too short to be one
pub returns-then-op-lt-OP_PLACES : goal.returns-then-op-lt-OP_PLACES
unfolding done refusal apply_answer apply_state decode_of decoded_answer decoded_state
returns-then-op-lt-OP_PLACES c =
    let e = c.in_ok-check_state.ensures in
    let short = lt-ltb _ _ c.if-op-lt-OP_PLACES.true in
    record { answer = rw (e, short); state = rw (e, short) }

pub apply_places-requires : goal.apply_places-requires
apply_places-requires c =
    let room = (asked _ _ _ c.in_ok-check_state.ensures).room in
    record { has_state = record { room = room }; has_head = record { room = c.if-op-lt-OP_PLACES.false; first = refl; second = refl } }

pub returns : goal.returns
unfolding apply_answer apply_state
returns c =
    let e = c.in_ok-check_state.ensures in
    record { answer = rw e c.apply_places.ensures.answer; state = rw e c.apply_places.ensures.state }
