-- WHAT IT MEANS THAT THE ENGINE'S DETERMINANT IS THE FORMULA, ROUNDED: `det` and `odd` of crate `local` are those of crate `formulas`, of which the angle
-- theorem speaks, at binary64. All floats are meant, and every bit. Definitions only. A public promise rests on this.
use Rattle.std.specs.Prelude.{◌≡◌, ℕ}
use Rattle.laws.specs.Matrix.{Mat}
use Rattle.laws.specs.Maps.{Local}
use Rattle.local.specs.Det.{det, odd}
use Rattle.formulas.specs.Determinants.{own_det}
use Rattle.rounded.specs.Floats.{floats, float_tests, float_odd, as_local}

pub record RoundedDeterminants : Type 0 where
  pub determinant : (k : ℕ) (q : Mat) → det k q ≡ own_det floats float_tests k q
  -- whether the determinant is below zero
  pub sign : (o : Local) → odd o ≡ float_odd (as_local o)
