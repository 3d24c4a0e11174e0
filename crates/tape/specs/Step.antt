-- What stands at an offset: a gate and where the next record starts, a label and where its bytes start and end (the next record starts there), the
-- tape's end, or the number of the question whose answer is no, and the place. Assumes nothing. A public promise rests on this.
use Rattle.std.specs.Prelude.{ℕ}

pub data Step : Type 0 where
  Gate : ℕ → Step
  Label : ℕ → ℕ → Step
  End : Step
  Refused : ℕ → ℕ → Step
