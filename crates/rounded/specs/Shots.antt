-- WHAT IT MEANS THAT THE ENGINE'S SHOT IS THE FORMULA, ROUNDED: `shot` of crate `pfaffian` is that of crate `answers`, of which the theorem on shots speaks, at
-- binary64. All floats are meant. Definitions only. A public promise rests on this.
use Rattle.std.specs.Prelude.{◌≡◌, ℕ, Float}
use Rattle.laws.specs.Matrix.{Mat}
use Rattle.pfaffian.specs.Shot.{half, shot}
use Rattle.answers.specs.Shots.{shot as shot'}
use Rattle.rounded.specs.Floats.{floats, float_tests, float_draws}

abbrev pub RoundedShots : Type 0
RoundedShots = (m : Mat) (k n : ℕ) (t : ℕ → Float) → shot m k n t ≡ shot' floats half float_tests float_draws m k n t
