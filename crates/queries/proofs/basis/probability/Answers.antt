-- `queries::basis::probability` meets its contract, by its questions. Assumes nothing.
use Rattle.std.proofs.Common.{◌≡◌, ℕ, List, true, ap, ◌∙◌}
use Rattle.std.proofs.lemmas.Result.{err_from_is_err_and}
use lib.Ieee.{Float}
use Rattle.state.specs.Questions.{state_ok}
use Rattle.state.specs.Answers.{told, refusal}
use Rattle.queries.specs.Answers.{Answered, answered}
use Rattle.queries.specs.Basis.{basis_mark}
use Rattle.queries.specs.Calls.{covariance_of, marked_answer, marked_work, probability_of, probability_work}
use Rattle.queries.proofs.basis.probability.Goals as goal

pub returns-in_err-checked : goal.returns-in_err-checked
unfolding told refusal probability_of probability_work
returns-in_err-checked c =
    let p = err_from_is_err_and c.from_residual.result c.from_residual.ensures.1 in
    let e = c.in_err-checked.ensures in
    record { answer = rw (p.1, p.2, e.0, e.1); work = rw e.1 }

-- 16 has passed, of a value that is the call's: what the marginal of all qubits tells and leaves is what the definition does
module _ (n n' : ℕ) (s s' : List Float) (modes modes' : List ℕ) (low high : ℕ) (w : List Float)
    (ok : state_ok n s modes ≡ true) (e : n' ≡ n) (f : s' ≡ s) (g : modes' ≡ modes) where
  tells : (a : Answered) → a ≡ marked_answer (covariance_of n' s') n' (basis_mark n' modes' low high) w → a.told ≡ probability_of n s modes low high w
  unfolding probability_of
  tells a h = rw ok (ap (λ a. a.told) h ∙ (λ t. (marked_answer (covariance_of (e t) (f t)) (e t) (basis_mark (e t) (g t) low high) w).told))

  leaves : (v : List Float) → v ≡ marked_work n' (basis_mark n' modes' low high) w → v ≡ probability_work n s modes low high w
  unfolding probability_work
  leaves v h = rw ok (h ∙ (λ t. marked_work (e t) (basis_mark (e t) (g t) low high) w))

pub returns-in_err-basis_number : goal.returns-in_err-basis_number
unfolding told answered
returns-in_err-basis_number c =
    let p = err_from_is_err_and c.from_residual-in_err-basis_number.result c.from_residual-in_err-basis_number.ensures.1 in
    let e = c.in_ok-checked.ensures in
    let r = c.in_err-basis_number.ensures in
    record {
      answer = rw (p.1, p.2) (tells _ _ _ _ _ _ _ _ _ e.0 e.1 e.2 e.3 _ r.answer);
      work = leaves _ _ _ _ _ _ _ _ _ e.0 e.1 e.2 e.3 _ r.work;
    }

pub returns : goal.returns
unfolding told answered
returns c =
    let e = c.in_ok-checked.ensures in
    let r = c.in_ok-basis_number.ensures in
    record { answer = tells _ _ _ _ _ _ _ _ _ e.0 e.1 e.2 e.3 _ r.answer; work = leaves _ _ _ _ _ _ _ _ _ e.0 e.1 e.2 e.3 _ r.work }
