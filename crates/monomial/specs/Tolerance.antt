-- Document 01, question 3: "Is the tolerance a number from 0 to 0.001 (-0.0 is 0)?" Assumes nothing. Only inner functions rest on this.
use Rattle.std.specs.Prelude.{T, Float}
use Rattle.std.specs.Float.{binary64}
use Rattle.std.specs.Float.Ieee.{fits, le}
use Rattle.laws.specs.Bounds.{max_tolerance}
use Rattle.gate.specs.Complex.{f0}

pub record Tolerance (tol : Float) : Type 0 where
  pub held : T (fits binary64 tol)
  pub low : T (le f0 tol)
  pub high : T (le tol max_tolerance)
