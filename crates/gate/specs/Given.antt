-- A given matrix in bytes: its entries as f64, row by row, real before imaginary ("then entries as f64, row by row, real before imaginary").
-- A public promise rests on this.
use Rattle.std.specs.Prelude.{List, ℕ, ◌+◌}
use Rattle.num.specs.Bits.{f64_at}
use Rattle.gate.specs.Complex.{cx}
use Rattle.gate.specs.Matrix.{mat2, row4, mat4}
use Rattle.gate.specs.declared.complex.Complex.{Complex}
use Rattle.gate.specs.declared.matrix.Row4.{Row4}
use Rattle.gate.specs.declared.matrix.Mat2.{Mat2}
use Rattle.gate.specs.declared.matrix.Mat4.{Mat4}

unfoldable pub complex_at : List ℕ → ℕ → Complex
complex_at s i = cx (f64_at s i) (f64_at s (i + 8))

unfoldable pub given2_at : List ℕ → ℕ → Mat2
given2_at s i = mat2 (complex_at s i) (complex_at s (i + 16)) (complex_at s (i + 32)) (complex_at s (i + 48))

unfoldable pub given_row_at : List ℕ → ℕ → Row4
given_row_at s i = row4 (complex_at s i) (complex_at s (i + 16)) (complex_at s (i + 32)) (complex_at s (i + 48))

unfoldable pub given4_at : List ℕ → ℕ → Mat4
given4_at s i = mat4 (given_row_at s i) (given_row_at s (i + 64)) (given_row_at s (i + 128)) (given_row_at s (i + 192))
