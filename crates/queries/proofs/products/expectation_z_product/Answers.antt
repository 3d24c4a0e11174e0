-- `queries::products::expectation_z_product` meets its contract, by its questions. Assumes nothing.
use Rattle.std.proofs.Common.{sym, ap, ◌∙◌, lt-ltb, le-ltb, le_of_eq}
use Rattle.std.proofs.lemmas.Result.{err_from_is_err_and}
use Rattle.state.specs.Answers.{refusal}
use Rattle.queries.specs.Answers.{answered}
use Rattle.queries.specs.Lists.{odd_modes}
use Rattle.queries.specs.Calls.{covariance_of, product_answer, product_work, expectation_z_product_of, expectation_z_product_work}
use Rattle.queries.proofs.Marking.{marked-none, odd-left}
use Rattle.queries.proofs.products.expectation_z_product.Goals as goal

pub returns-in_err-checked : goal.returns-in_err-checked
unfolding answered refusal expectation_z_product_of expectation_z_product_work
returns-in_err-checked c =
    let p = err_from_is_err_and c.from_residual.result c.from_residual.ensures.1 in
    let e = c.in_err-checked.ensures in
    record { answer = rw (p.1, p.2, e.0, e.1); work = rw e.1 }

pub mark_odd-requires : goal.mark_odd-requires
mark_odd-requires c = marked-none _ _ _ c.in_ok-checked.checked.few

pub returns-in_err-among : goal.returns-in_err-among
unfolding answered refusal expectation_z_product_of expectation_z_product_work
returns-in_err-among c =
    let p = err_from_is_err_and c.from_residual-in_err-among.result c.from_residual-in_err-among.ensures.1 in
    let e = c.in_ok-checked.ensures in
    let m = rw e.1 at c.in_err-among.ensures.answer in
    record { answer = rw (p.1, p.2, m.1, e.0, lt-ltb _ _ m.0); work = rw (e.0, lt-ltb _ _ m.0) }

pub returns : goal.returns
unfolding expectation_z_product_of expectation_z_product_work
returns c =
    let a = c.args in
    let checked = c.in_ok-checked.checked in
    let e = c.in_ok-checked.ensures in
    let m = c.in_ok-among.ensures in
    let r = c.product_marked.ensures in
    let all = rw e.1 at m.answer.0 in
    let left = odd-left checked.n checked.modes.now a.qubits.now _ _ m.answer.0 m.marks in
    let w = a.work.now in
    record {
      answer = rw (e.0, le-ltb _ _ (le_of_eq (sym all)))
          (r.answer ∙ ap (λ l. product_answer (covariance_of checked.n checked.state.now) l w) left
          ∙ (λ t. product_answer (covariance_of (e.1 t) (e.2 t)) (odd_modes (e.1 t) (e.3 t) a.qubits.now) w));
      work = rw (e.0, le-ltb _ _ (le_of_eq (sym all)))
          (r.work ∙ ap (λ l. product_work l w) left ∙ (λ t. product_work (odd_modes (e.1 t) (e.3 t) a.qubits.now) w));
    }
