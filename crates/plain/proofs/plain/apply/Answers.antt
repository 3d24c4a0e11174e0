-- `plain::plain::apply` meets its contract, by its questions. Assumes nothing.
use Rattle.std.proofs.Common.{rules, ◌≡◌, refl, sym, ◌∙◌, arith, lt-ltb}
use Rattle.state.specs.Answers.{done, refusal}
use Rattle.state.specs.Operation.{decode_of}
use Rattle.state.specs.Calls.{decoded_answer}
use Rattle.state.proofs.Operations.{decode-fits}
use Rattle.plain.specs.Calls.{plain_answer, decoded_matrix, plain_matrix}
use Rattle.plain.proofs.Room.{few, room}
use Rattle.plain.proofs.plain.apply.Goals as goal

pub returns-then-not-has_matrix : goal.returns-then-not-has_matrix
unfolding done refusal plain_answer plain_matrix
returns-then-not-has_matrix c =
    let e = sym c.has_matrix.ensures ∙ c.if-not-has_matrix.true in
    record { answer = rw e refl; matrix = rw e refl }

-- too short to be one
pub returns-then-op-lt-OP_PLACES : goal.returns-then-op-lt-OP_PLACES
unfolding done refusal plain_answer plain_matrix decode_of decoded_answer decoded_matrix
returns-then-op-lt-OP_PLACES c =
    let e = sym c.has_matrix.ensures ∙ c.if-not-has_matrix.false in
    let short = lt-ltb _ _ c.if-op-lt-OP_PLACES.true in
    record { answer = rw (e, short) refl; matrix = rw (e, short) refl }

pub returns-in_default : goal.returns-in_default
unfolding done refusal plain_answer plain_matrix decoded_answer decoded_matrix
returns-in_default c =
    let e = sym c.has_matrix.ensures ∙ c.if-not-has_matrix.false in
    let none = sym c.decode.ensures ∙ c.in_default.is in
    record { answer = rw (e, none) refl; matrix = rw (e, none) refl }

pub overflow_mul-m : goal.overflow_mul-m
overflow_mul-m c = omega (arith, few c.args.n c.args.entries.now (sym c.has_matrix.ensures ∙ c.if-not-has_matrix.false))

pub invariant_of-m : goal.invariant_of-m
invariant_of-m c = record { room = room c.args.n c.args.entries.now (sym c.has_matrix.ensures ∙ c.if-not-has_matrix.false) }

pub apply_operation-requires : goal.apply_operation-requires
apply_operation-requires c =
    record { rows = refl; fits = decode-fits c.args.n c.args.op.now _ (sym c.decode.ensures ∙ c.in-Some.is) }

pub returns : goal.returns
unfolding done plain_answer plain_matrix decoded_answer decoded_matrix
returns c =
    let e = sym c.has_matrix.ensures ∙ c.if-not-has_matrix.false in
    let some = sym c.decode.ensures ∙ c.in-Some.is in
    let left : _ ≡ c.apply_operation.new.m.entries.now = search rules in
    record { answer = rw (e, some) refl; matrix = rw (e, some) (left ∙ c.apply_operation.ensures.now) }
