-- `state::application::apply_places` meets its contract, by the cases of what was decoded. Assumes nothing.
use Rattle.std.proofs.Common.{rules, ◌≡◌, Option, None, Err, refl, sym, ◌∙◌}
use Rattle.std.specs.Option.{ok_or}
use Rattle.std.proofs.lemmas.Result.{err_from_is_err_and}
use Rattle.state.specs.Answers.{done, refusal}
use Rattle.state.specs.Calls.{decoded_answer, decoded_state}
use Rattle.state.specs.declared.answer.Refusal.{Refusal}
use Rattle.state.specs.declared.answer.Refusal.TheVariants.{BadOperation}
use Rattle.state.specs.declared.operation.Operation.{Operation}
use Rattle.state.proofs.Operations.{decode-fits}
use Rattle.state.proofs.application.apply_places.Goals as goal

-- the refusal where there is no operation
why_is : (o : Option Operation) (e : Refusal) → o ≡ None → Err e ≡ ok_or o BadOperation → e ≡ BadOperation
why_is o e n h = let g = rw n at h in cc

pub returns-in_err-o : goal.returns-in_err-o
unfolding done refusal decoded_answer decoded_state
returns-in_err-o c =
    let p = err_from_is_err_and c.from_residual.result c.from_residual.ensures.1 in
    let e = c.in_err-o.ensures in
    let none = sym c.decode.ensures ∙ e.ok_part in
    let why : c.in_err-o.field-0.0 ≡ BadOperation = why_is _ _ e.ok_part e.value in
    record { answer = rw (p.1, p.2, why, none); state = rw none }

pub apply_operation-requires : goal.apply_operation-requires
apply_operation-requires c =
    record { rows = refl; fits = decode-fits c.args.n c.args.op.now _ (sym c.decode.ensures ∙ c.in_ok-o.ensures.ok_part) }

pub returns : goal.returns
unfolding done decoded_answer decoded_state
returns c =
    let some = sym c.decode.ensures ∙ c.in_ok-o.ensures.ok_part in
    let left : _ ≡ c.apply_operation.new.t.entries.now = search rules in
    record { answer = rw some; state = rw some (left ∙ c.apply_operation.ensures.now) }
