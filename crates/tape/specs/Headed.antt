-- What the questions 1 to 3 say: a good header, or the number of the question whose answer is no, and the place. Assumes nothing. A public promise rests
-- on this. A public promise rests on this.
use Rattle.std.specs.Prelude.{ℕ}
use Rattle.tape.specs.declared.header.Header.{Header}

pub data Headed : Type 0 where
  Good : Header → Headed
  Refused : ℕ → ℕ → Headed
