-- The words of the contracts of the inner functions: forms that cost less than the definitions, and are equal to them. Assumes nothing.
-- Only inner functions rest on this.
use Rattle.std.specs.Prelude.{List, [], ◌∷◌, Float}
use Rattle.std.specs.Float.{binary64}
use Rattle.std.specs.Float.Ieee.{add, sub, mul}
use Rattle.num.specs.Order.{max_of}
use Rattle.gate.specs.Complex.{◌+ℂ◌, ◌*ℂ◌, c0}
use Rattle.gate.specs.Matrix.{row4}
use Rattle.gate.specs.declared.complex.Complex.{Complex}
use Rattle.gate.specs.declared.matrix.Row2.{Row2}
use Rattle.gate.specs.declared.matrix.Mat2.{Mat2}
use Rattle.gate.specs.declared.matrix.Row4.{Row4}
use Rattle.gate.specs.declared.matrix.Mat4.{Mat4}
use Rattle.real.specs.declared.maps.Real2.{Real2}
use Rattle.real.specs.declared.maps.Real4.{Real4}
use Rattle.majorana.specs.declared.maps.Fitted.{Fitted}
use Rattle.majorana.specs.Majorana.{coefficients2_of, distance2_of, coefficients4_of, distance4_of}

-- ---- products

-- 0 + x * r: the one step of a row of a product that is not skipped, where the row has one entry, x
unfoldable pub scaled_of : Complex → Row4 → Row4
scaled_of x r = row4 (c0 +ℂ x *ℂ r.c0) (c0 +ℂ x *ℂ r.c1) (c0 +ℂ x *ℂ r.c2) (c0 +ℂ x *ℂ r.c3)

-- ---- traces: the real part alone

-- re (a * b)
abbrev pub re_mul_of : Complex → Complex → Float
re_mul_of a b = sub binary64 (mul binary64 a.re b.re) (mul binary64 a.im b.im)

unfoldable pub re_trace_row2_of : Float → Row2 → Complex → Complex → Float
re_trace_row2_of t r x y = add binary64 (add binary64 t (re_mul_of r.c0 x)) (re_mul_of r.c1 y)

unfoldable pub re_trace_row4_of : Float → Row4 → Row4 → Float
re_trace_row4_of t r s =
    add binary64
    (add binary64 (add binary64 (add binary64 t (re_mul_of r.c0 s.c0)) (re_mul_of r.c1 s.c1)) (re_mul_of r.c2 s.c2))
    (re_mul_of r.c3 s.c3)

-- ---- one row of a map with its part of the residual, from w = U† c U

unfoldable pub fitted2_of : Mat2 → Fitted Real2
fitted2_of w = record { q = coefficients2_of w; d = distance2_of w (coefficients2_of w) }

unfoldable pub fitted4_of : Mat4 → Fitted Real4
fitted4_of w = record { q = coefficients4_of w; d = distance4_of w (coefficients4_of w) }

-- ---- the largest, before any root is taken

unfoldable pub largest_of : Float → List Float → Float
largest_of s [] = s
largest_of s (x ∷ xs) = largest_of (max_of s x) xs
