-- WHAT IT MEANS THAT THE ENGINE'S MARGINAL IS THE FORMULA, ROUNDED: `marked_of` of crate `queries`, by its number, is that of crate `answers`, of which the
-- theorem on marginals speaks, at binary64, and then `max(0.0)`. All floats are meant, and every bit. Definitions only. A public promise rests on this.
use Rattle.std.specs.Prelude.{◌≡◌, ℕ}
use Rattle.laws.specs.Matrix.{Mat}
use Rattle.pfaffian.specs.Shot.{half}
use Rattle.queries.specs.Marginals.{at_least_zero_of, marked_of}
use Rattle.answers.specs.Marginals.{marked_of as marked'}
use Rattle.rounded.specs.Floats.{floats, float_tests}

abbrev pub RoundedMarginals : Type 0
RoundedMarginals = (e : Mat) (n : ℕ) (mark : ℕ → ℕ) → (marked_of e n mark).value ≡ at_least_zero_of (marked' floats half float_tests e n mark)
