-- What the exported matrix functions read and write: a matrix at the start of a slice. A slice that is too short reads as zeros and is not written.
-- Only inner functions rest on this.
use Rattle.std.specs.Prelude.{cond, List, ℕ, ltb, length, Float}
use Rattle.gate.specs.Complex.{c0}
use Rattle.gate.specs.Matrix.{mat2, row4, mat4}
use Rattle.gate.specs.Lent.{mat2_at, mat4_at, store2_of, store4_of}
use Rattle.gate.specs.declared.matrix.Mat2.{Mat2}
use Rattle.gate.specs.declared.matrix.Mat4.{Mat4}

-- of a matrix of n floats: `loaded` reads it from a slice that is long enough
abbrev pub first_of : {M : Type 0} → ℕ → M → (List Float → ℕ → M) → List Float → M
first_of n zeros loaded a = cond (ltb (length a) n) zeros (loaded a 0)

-- `stored` writes it
abbrev pub put_of : {M : Type 0} → ℕ → (List Float → ℕ → M → List Float) → List Float → M → List Float
put_of n stored out m = cond (ltb (length out) n) out (stored out 0 m)

unfoldable pub first2_of : List Float → Mat2
first2_of a = cond (ltb (length a) 8) (mat2 c0 c0 c0 c0) (mat2_at a 0)

unfoldable pub first4_of : List Float → Mat4
first4_of a = cond (ltb (length a) 32) (mat4 (row4 c0 c0 c0 c0) (row4 c0 c0 c0 c0) (row4 c0 c0 c0 c0) (row4 c0 c0 c0 c0)) (mat4_at a 0)

unfoldable pub put2_of : List Float → Mat2 → List Float
put2_of out m = cond (ltb (length out) 8) out (store2_of out 0 m)

unfoldable pub put4_of : List Float → Mat4 → List Float
put4_of out m = cond (ltb (length out) 32) out (store4_of out 0 m)
