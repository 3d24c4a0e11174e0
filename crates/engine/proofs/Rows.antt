-- A row fits a word, by the laws of the calls' rows (crate `queries`, proofs/Rows.antt). Assumes nothing.
use Rattle.std.proofs.Common.{◌≡◌, refl, List, ℕ, ◌*◌, ◌≤◌, arith}
use Rattle.std.specs.Prelude.{Option, Some, None, Float}
use Rattle.state.proofs.Questions as questions
use Rattle.queries.specs.Answers.{Answered}
use Rattle.queries.specs.Calls.{expectation_z_product_of, marginal_probability_of}
use Rattle.queries.specs.Lists.{odd_modes}
use Rattle.queries.proofs.Rows.{Stop, product-stop, marginal-stop, rows-few}
use Rattle.engine.specs.Answers.{RowFits}

module _ (n : ℕ) (s : List Float) (modes : List ℕ) where
  stop-fits : (dim : ℕ) (a : Answered) (row : Option ℕ) → dim ≤ 2 * n → ((k : ℕ) → row ≡ Some k → Stop n s modes dim a k) → RowFits row
  stop-fits dim a None few h = tt
  stop-fits dim a (Some k) few h =
      let stop = h k refl in
      omega (arith, stop.row.below, few, (questions.asked n s modes stop.asked).few)

  pub product-fits : (qs : List ℕ) (w : List Float) → RowFits (expectation_z_product_of n s modes qs w).row
  unfolding odd_modes
  product-fits qs w = stop-fits _ _ _ (rows-few _ n) (λ k. product-stop n s modes w k qs)

  pub marginal-fits : (qs bits : List ℕ) (w : List Float) → RowFits (marginal_probability_of n s modes qs bits w).row
  marginal-fits qs bits w = stop-fits _ _ _ (rows-few _ n) (λ k. marginal-stop n s modes w k qs bits)
