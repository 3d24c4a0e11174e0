-- `queries::samples::sample` meets its contract, by its questions. Assumes nothing.
use Rattle.std.proofs.Common.{rules, ◌≡◌, ◌*◌, ◌∙◌, le-leb}
use Rattle.std.proofs.lemmas.Result.{err_from_is_err_and}
use borrow.Author.Tests.{lt-leb}
use lib.Ieee.{of_bits}
use Rattle.laws.specs.Zeros.{+0}
use Rattle.laws.proofs.Matrix.{filled_is}
use Rattle.state.specs.Answers.{done, refusal}
use Rattle.queries.specs.Calls.{covariance_of, shots_of, shots_out, worked_work, sample_of, sample_work, sample_out}
use Rattle.queries.proofs.samples.sample.Goals as goal

pub returns-in_err-checked : goal.returns-in_err-checked
unfolding done refusal sample_of sample_work sample_out
returns-in_err-checked c =
    let p = err_from_is_err_and c.from_residual.result c.from_residual.ensures.1 in
    let e = c.in_err-checked.ensures in
    record { answer = rw (p.1, p.2, e.0, e.1); work = rw e.1; out = rw e.1 }

pub returns-then-work-dim : goal.returns-then-work-dim
unfolding done refusal worked_work sample_of sample_work sample_out
returns-then-work-dim c =
    let e = c.in_ok-checked.ensures in
    let small = lt-leb _ _ c.if-work-dim.true in
    record { answer = rw (e.0, small); work = rw (e.0, small); out = rw (e.0, small) }

pub returns : goal.returns
unfolding of_bits worked_work sample_of sample_work sample_out
returns c =
    let a = c.args in
    let e = c.in_ok-checked.ensures in
    let r = c.sample_worked-answer.ensures in
    let fits = le-leb _ _ c.if-work-dim.false in
    let dim = 2 * a.n in
    let fills = c.fill.ensures in
    let left : _ ≡ c.fill.new.m.entries.now = search rules in
    record {
      answer = rw (e.0, fits) (r.answer ∙ (λ t. shots_of (e.1 t) a.shots a.draws.now a.out.now));
      work = rw (e.0, fits) (left ∙ rw r.kept.same.dim at fills.now ∙ filled_is dim +0 a.work.now _ _ r.kept.kept);
      out = rw (e.0, fits) (r.out ∙ (λ t. shots_out (covariance_of (e.1 t) (e.2 t)) (e.1 t) (e.3 t) a.shots a.draws.now a.out.now));
    }
