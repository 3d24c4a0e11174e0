-- What the inner functions make of a row. Definitions only. Only inner functions rest on this.
use Rattle.std.specs.Prelude.{◌&&◌, ℕ, eqb, leb}
use Rattle.laws.specs.Zeros.{sg}
use Rattle.laws.specs.Matrix.{Mat}

-- in row i the entries from column s on are negated
abbrev pub part_negated : ℕ → ℕ → Mat → Mat
part_negated i s f r c = sg (eqb r i && leb s c) (f r c)

-- row i's part of the turn
abbrev pub row_turned : ℕ → ℕ → Mat → Mat
row_turned i s f r c = sg (eqb r i && leb s r) (sg (eqb r i && leb s c) (f r c))
