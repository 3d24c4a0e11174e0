-- What the exported functions on Majorana maps write: a map by rows with its residual after it and zeros to the end. The number of a class is
-- `code_of` of `classify`. Assumes nothing. Only inner functions rest on this.
use Rattle.gate.specs.Complex.{cx, f0, c0}
use Rattle.gate.specs.Matrix.{mat2, row4, mat4}
use Rattle.gate.specs.declared.matrix.Mat2.{Mat2}
use Rattle.gate.specs.declared.matrix.Row4.{Row4}
use Rattle.gate.specs.declared.matrix.Mat4.{Mat4}
use Rattle.real.specs.declared.maps.Real4.{Real4}
use Rattle.real.specs.declared.maps.Map2.{Map2}
use Rattle.real.specs.declared.maps.Map4.{Map4}
use Rattle.majorana.specs.declared.maps.Mapped.{Mapped}

unfoldable pub flat2_of : Mapped Map2 → Mat2
flat2_of m = mat2 (cx m.q.r0.x0 m.q.r0.x1) (cx m.q.r1.x0 m.q.r1.x1) (cx m.residual f0) c0

-- two rows of a map as one of complex numbers
abbrev pub joined_of : Real4 → Real4 → Row4
joined_of a b = row4 (cx a.x0 a.x1) (cx a.x2 a.x3) (cx b.x0 b.x1) (cx b.x2 b.x3)

unfoldable pub flat4_of : Mapped Map4 → Mat4
flat4_of m = mat4 (joined_of m.q.r0 m.q.r1) (joined_of m.q.r2 m.q.r3) (row4 (cx m.residual f0) c0 c0 c0) (row4 c0 c0 c0 c0)
