-- What the questions 1 to 8 say of a tape: its header and how many gates and labels it has, or the number of the question whose answer is no, and the
-- place. Assumes nothing. A public promise rests on this.
use Rattle.std.specs.Prelude.{ℕ}
use Rattle.tape.specs.declared.header.Header.{Header}

pub data Checked : Type 0 where
  Good : Header → ℕ → ℕ → Checked
  Refused : ℕ → ℕ → Checked
