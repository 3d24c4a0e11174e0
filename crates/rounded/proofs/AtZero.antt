-- A worked row at binary64: a sum of no terms is 0.0, and not -0.0. Assumes nothing.
use mathlib.Core.Path.{◌≡◌, refl}
use Rattle.laws.specs.Zeros.{+0, +1}
use Rattle.formulas.specs.Engine.{dot}
use Rattle.rounded.specs.Floats.{floats}

no-terms : dot floats (λ j. +1) (λ j. +1) 0 ≡ +0
unfolding dot
no-terms = refl
