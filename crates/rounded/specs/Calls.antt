-- THE ENGINE IS THE FORMULA, ROUNDED: BY CALLS. The theorems at every angle (crates `angles`, `answers`) say that the engine's formulas over exact numbers are
-- quantum mechanics. Here the same formulas, the same symbols, have the operations of binary64 in the place of exact ones; and what the calls leave and answer
-- in their callers' slices is that, every bit. From a state slice and a mode table that pass question 16, with the vacuum; then any operations, called one by
-- one; then any query. All floats are meant: NaN, infinities, either zero. Assumes nothing. A public promise rests on this.
use Rattle.std.specs.Prelude.{◌≡◌, true, List, get_or, ℕ, ◌+◌, ◌*◌, ◌<◌, Float}
use Rattle.laws.specs.Matrix.{Mat}
use Rattle.laws.specs.Tables.{mode_at}
use Rattle.local.specs.State.{stored, vacuum}
use Rattle.pfaffian.specs.Shot.{half, draw_from, qubit_bit, word_of}
use Rattle.state.specs.Bounds.{dim_of}
use Rattle.state.specs.Answers.{Told}
use Rattle.state.specs.Questions.{state_ok}
use Rattle.state.specs.Calls.{called}
use Rattle.queries.specs.Marginals.{at_least_zero_of}
use Rattle.queries.specs.Calls.{covariance_of, expectation_z_product_of, marginal_probability_of, probability_of, sample_of, sample_out}
use Rattle.formulas.specs.Engine.{Local, Item, run, get}
use Rattle.formulas.specs.Engine as formula
use Rattle.answers.specs.Asked.{product_answer, marginal_answer, index_answer}
use Rattle.answers.specs.Shots.{shot}
use Rattle.rounded.specs.Floats.{floats, below_zero, float_tests, float_draws, float_odd}
use Rattle.rounded.specs.Operations.{items_in}

-- the formula's covariance after the operations, from the vacuum
abbrev pub covariance_after : List (Item (Local floats)) → Mat
covariance_after os = get floats (run floats below_zero float_odd os (formula.vacuum floats))

-- what is told, where no question refuses, is x
abbrev pub Tells : Told → Float → Type 0
Tells t x = t.number ≡ 0 → t.value ≡ x

-- the state slice s of n qubits is what the operations os make of the vacuum by the formulas, and so are all answers
pub record Rounds (n : ℕ) (modes : List ℕ) (os : List (Item (Local floats))) (s : List Float) : Type 0 where
  -- every entry of the covariance
  pub entry : (r c : ℕ) → r < dim_of n → c < dim_of n → covariance_of n s r c ≡ covariance_after os r c
  -- every query, with whatever is lent to it: a product,
  pub product : (qs : List ℕ) (w : List Float)
      → Tells (expectation_z_product_of n s modes qs w).told (product_answer floats float_tests half (covariance_after os) n modes qs)
  -- a marginal and a basis index, then `max(0.0)`,
  pub marginal : (qs bits : List ℕ) (w : List Float)
      → Tells (marginal_probability_of n s modes qs bits w).told
      (at_least_zero_of (marginal_answer floats float_tests half (covariance_after os) n modes qs bits))
  pub index : (low high : ℕ) (w : List Float)
      → Tells (probability_of n s modes low high w) (at_least_zero_of (index_answer floats float_tests half (covariance_after os) n modes low high))
  -- and the two words of shot i, by its own draws: bit q is the outcome of the mode of qubit q
  pub word : (shots : ℕ) (draws w : List Float) (out : List ℕ) → (sample_of n s modes shots draws w out).number ≡ 0
      → (i j : ℕ) → i < shots → j < 2
      → get_or (sample_out n s modes shots draws w out) (2 * i + j) 0
      ≡ word_of (qubit_bit (mode_at modes) n (shot floats half float_tests float_draws (covariance_after os) 0 n (draw_from draws (i * n)))) (64 * j) 64

-- THE STATEMENT. A call for each of the operations' slices, of which one that question 17 turns down does nothing
abbrev pub RoundedByCalls : Type 0
RoundedByCalls = (n : ℕ) (ops : List (List Float)) (modes : List ℕ) (slice : List Float) → state_ok n slice modes ≡ true
    → Rounds n modes (items_in n ops) (called n modes ops (stored (dim_of n) vacuum slice))
