-- `gate::matrix::Mat4Mul::mul` meets its contract: each call's result is what its definition says.
-- Assumes nothing.
use Rattle.gate.specs.Matrix.{row_mul_of, mul4_of}
use Rattle.gate.proofs.matrix.Mat4Mul.mul.Goals as goal

pub returns : goal.returns
unfolding mul4_of row_mul_of
returns c =
    rw (
      c.axpy-r3.ensures,
      c.axpy-12.ensures,
      c.axpy-11.ensures,
      c.axpy-10.ensures,
      c.axpy-r2.ensures,
      c.axpy-9.ensures,
      c.axpy-8.ensures,
      c.axpy-7.ensures,
      c.axpy-r1.ensures,
      c.axpy-6.ensures,
      c.axpy-5.ensures,
      c.axpy-4.ensures,
      c.axpy-r0.ensures,
      c.axpy-3.ensures,
      c.axpy-2.ensures,
      c.axpy.ensures,
    )
