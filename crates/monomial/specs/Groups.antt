-- Two and four things of a kind, such as the rows of a small matrix and their entries, and when the matrices of the code are related to such, entry
-- by entry. They are data, so that each thing is computed once. Assumes nothing. Only inner functions rest on this.
use Rattle.gate.specs.declared.complex.Complex.{Complex}
use Rattle.gate.specs.declared.matrix.Row2.{Row2}
use Rattle.gate.specs.declared.matrix.Mat2.{Mat2}
use Rattle.gate.specs.declared.matrix.Row4.{Row4}
use Rattle.gate.specs.declared.matrix.Mat4.{Mat4}

pub data Two (A : Type 0) : Type 0 where
  two : A → A → Two A

pub data Four (A : Type 0) : Type 0 where
  four : A → A → A → A → Four A

module _ {C : Type 0} (R : Complex → C → Type 0) where
  abbrev pub Row2Of : Row2 → Two C → Type 0
  Row2Of r (two a b) = R r.c0 a × R r.c1 b

  abbrev pub Mat2Of : Mat2 → Two (Two C) → Type 0
  Mat2Of m (two a b) = Row2Of m.r0 a × Row2Of m.r1 b

  abbrev pub Row4Of : Row4 → Four C → Type 0
  Row4Of r (four a b c d) = R r.c0 a × R r.c1 b × R r.c2 c × R r.c3 d

  abbrev pub Mat4Of : Mat4 → Four (Four C) → Type 0
  Mat4Of m (four a b c d) = Row4Of m.r0 a × Row4Of m.r1 b × Row4Of m.r2 c × Row4Of m.r3 d
