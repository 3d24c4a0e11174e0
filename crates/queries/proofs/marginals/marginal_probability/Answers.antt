-- `queries::marginals::marginal_probability` meets its contract, by its questions. Assumes nothing.
use Rattle.std.proofs.Common.{◌≡◌, ℕ, ◌<◌, take, sym, ap, ◌∙◌, lt-ltb, le-ltb, le-leb, le_of_eq}
use Rattle.std.proofs.lemmas.Result.{err_from_is_err_and}
use borrow.Author.Tests.{lt-leb}
use Rattle.laws.proofs.Zeros.{zero_bits}
use Rattle.state.specs.Answers.{refusal}
use Rattle.queries.specs.Answers.{rowless, given, answered}
use Rattle.queries.specs.Lists.{mode_listed, bit_listed, noted, asked}
use Rattle.queries.specs.Calls.{covariance_of, stopped_of, marked_answer, marked_work, marginal_probability_of, marginal_probability_work}
use Rattle.queries.specs.Inner.{mark_at}
use Rattle.queries.proofs.Marking.{marked-none, marked-front}
use Rattle.queries.proofs.Leaving.{answer-alike, work-alike}
use Rattle.queries.proofs.marginals.marginal_probability.Goals as goal

pub returns-in_err-checked : goal.returns-in_err-checked
unfolding answered refusal marginal_probability_of marginal_probability_work
returns-in_err-checked c =
    let p = err_from_is_err_and c.from_residual.result c.from_residual.ensures.1 in
    let e = c.in_err-checked.ensures in
    record { answer = rw (p.1, p.2, e.0, e.1); work = rw e.1 }

pub returns-in_err-check_bits : goal.returns-in_err-check_bits
unfolding answered refusal marginal_probability_of marginal_probability_work
returns-in_err-check_bits c =
    let p = err_from_is_err_and c.from_residual-in_err-check_bits.result c.from_residual-in_err-check_bits.ensures.1 in
    let e = c.in_ok-checked.ensures in
    let b = c.in_err-check_bits.ensures in
    record { answer = rw (p.1, p.2, b.0, e.0, b.1); work = rw (e.0, b.1) }

pub note_bits-requires-clause-none : goal.note_bits-requires-clause-none
note_bits-requires-clause-none c = marked-none _ _ _ c.in_ok-checked.checked.few

pub returns-in_err-note_bits : goal.returns-in_err-note_bits
unfolding answered refusal stopped_of marginal_probability_of marginal_probability_work
returns-in_err-note_bits c =
    let p = err_from_is_err_and c.from_residual-in_err-note_bits.result c.from_residual-in_err-note_bits.ensures.1 in
    let e = c.in_ok-checked.ensures in
    let b = c.in_ok-check_bits.ensures in
    let m = rw (e.1, e.3) at c.in_err-note_bits.ensures.answer in
    record { answer = rw (p.1, p.2, m.2, e.0, b, lt-ltb _ _ m.0, le-leb _ _ m.1); work = rw (e.0, b, lt-ltb _ _ m.0) }

pub returns-in-Agreeing : goal.returns-in-Agreeing
unfolding marginal_probability_of marginal_probability_work
returns-in-Agreeing c =
    let a = c.args in
    let checked = c.in_ok-checked.checked in
    let e = c.in_ok-checked.ensures in
    let b = c.in_ok-check_bits.ensures in
    let m = c.in_ok-note_bits.ensures in
    let r = c.marked_probability.ensures in
    let n = checked.n in
    let all = rw c.in-Agreeing.is at m.answer in
    let end = le-ltb _ _ (le_of_eq (sym (rw (e.1, e.3) at all))) in
    let mode = mode_listed checked.modes.now a.qubits.now in
    let bit = bit_listed a.bits.now in
    let f = asked checked.modes.now a.qubits.now a.bits.now in
    let marked = marked-front _ _ n a.n _ _ (sym e.1) m.asked in
    let alike : (k : ℕ) → k < n → mark_at (take a.n c.note_bits.new.asked) k ≡ f k = λ k h. marked.each k h ∙ ap (λ i. noted mode bit i k) all in
    let w = a.work.now in
    record {
      answer = rw (e.0, b, end)
          (r.answer ∙ answer-alike n _ f alike (covariance_of n checked.state.now) w
          ∙ (λ t. marked_answer (covariance_of (e.1 t) (e.2 t)) (e.1 t) (asked (e.3 t) a.qubits.now a.bits.now) w));
      work = rw (e.0, b, end) (r.work ∙ work-alike n _ f alike w ∙ (λ t. marked_work (e.1 t) (asked (e.3 t) a.qubits.now a.bits.now) w));
    }

pub returns-in-Contradictory : goal.returns-in-Contradictory
unfolding answered stopped_of marginal_probability_of marginal_probability_work
returns-in-Contradictory c =
    let e = c.in_ok-checked.ensures in
    let b = c.in_ok-check_bits.ensures in
    let says = rw c.in-Contradictory.is at c.in_ok-note_bits.ensures.answer in
    let stop = rw (e.1, e.3) at says in
    record {
      answer = rw (e.0, b, lt-ltb _ _ stop.0, lt-leb _ _ stop.1) (ap given (c.rowless.ensures ∙ ap rowless zero_bits));
      work = rw (e.0, b, lt-ltb _ _ stop.0);
    }
