-- `majorana::operators::swap4` meets its contract: all steps of a row but one are skipped.
-- Assumes nothing.
use Rattle.gate.specs.Complex.{is_zero_of}
use Rattle.gate.specs.Matrix.{axpy_of, row_mul_of, mul4_of}
use Rattle.majorana.specs.Majorana.{swap4_of}
use Rattle.majorana.specs.Parts.{scaled_of}
use lib.Ieee.{eq, of_bits}
use Rattle.majorana.proofs.operators.swap4.Goals as goal

pub returns : goal.returns
unfolding swap4_of mul4_of row_mul_of axpy_of is_zero_of scaled_of eq of_bits
returns c = rw (c.scaled-r3.ensures, c.scaled-r2.ensures, c.scaled-r1.ensures, c.scaled-r0.ensures)
