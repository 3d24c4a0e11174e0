-- Diagonal blocks (document 01, "Diagonal blocks"): the off-diagonal norm of detect.rs, p_a, p_b and w of a diagonal d0..d3, when the phase counts as
-- none, the unit of a complex number, and the rotation that a wire gets. Every operation is one of f64, rounded. Assumes nothing.
-- A public promise rests on this.
use Rattle.std.specs.Prelude.{Bool, cond, not, ◌&&◌, Float, Option, Some, None}
use Rattle.std.specs.Float.{binary64}
use Rattle.std.specs.Float.Ieee.{add, mul, div, neg, lt, le, eq}
use Rattle.std.specs.Float.Ieee.Scale.{finite}
use Rattle.real.specs.Maps.{real2, map2}
use Rattle.real.specs.declared.maps.Map2.{Map2}
use Rattle.num.specs.Order.{abs_of}
use Rattle.num.specs.Root.{sqrt_of}
use Rattle.gate.specs.Complex.{◌*ℂ◌, conj_of, norm_sqr_of, cx, f0, c1}
use Rattle.gate.specs.declared.complex.Complex.{Complex}
use Rattle.gate.specs.declared.matrix.Mat4.{Mat4}

-- ---- the off-diagonal norm

-- s + the squares of a row's three entries off the diagonal
unfoldable pub plus_three_of : Float → Complex → Complex → Complex → Float
plus_three_of s a b c = add binary64 (add binary64 (add binary64 s (norm_sqr_of a)) (norm_sqr_of b)) (norm_sqr_of c)

-- the sum of the squares off the diagonal, row by row
unfoldable pub off_square_of : Mat4 → Float
off_square_of u =
    plus_three_of
    (plus_three_of
    (plus_three_of
    (plus_three_of f0 u.r0.c1 u.r0.c2 u.r0.c3)
    u.r1.c0 u.r1.c2 u.r1.c3)
    u.r2.c0 u.r2.c1 u.r2.c3)
    u.r3.c0 u.r3.c1 u.r3.c2

unfoldable pub offdiag4_of : Mat4 → Float
offdiag4_of u = sqrt_of (off_square_of u)

-- ---- phases

-- "p_a = d2·conj(d0)", of the first wire
unfoldable pub phase_a_of : Mat4 → Complex
phase_a_of u = u.r2.c2 *ℂ conj_of u.r0.c0

-- "p_b = d1·conj(d0)", of the second wire
unfoldable pub phase_b_of : Mat4 → Complex
phase_b_of u = u.r1.c1 *ℂ conj_of u.r0.c0

-- "w = (d0·d3)·conj(d1·d2)", of the two together
unfoldable pub interaction_of : Mat4 → Complex
interaction_of u = u.r0.c0 *ℂ u.r3.c3 *ℂ conj_of (u.r1.c1 *ℂ u.r2.c2)

-- "The phase counts as none when re w > 0 and |im w| ≤ tol × re w"
unfoldable pub phase_none_of : Float → Complex → Bool
phase_none_of tol w = lt f0 w.re && le (abs_of w.im) (mul binary64 tol w.re)

-- ---- units

-- "√(re²+im²)"
unfoldable pub norm_of : Complex → Float
norm_of p = sqrt_of (norm_sqr_of p)

-- "A unit is p divided by √(re²+im²); if that root is not finite and above zero, the unit is (1, 0)"
unfoldable pub unit_of : Complex → Complex
unit_of p = cond (lt f0 (norm_of p) && finite (norm_of p)) (cx (div binary64 p.re (norm_of p)) (div binary64 p.im (norm_of p))) c1

-- ---- rotations

-- "A wire gets a rotation unless its unit has im = 0 and re > 0"
unfoldable pub turns_of : Complex → Bool
turns_of u = not (eq u.im f0 && lt f0 u.re)

-- the rotation of a unit: the one-mode map of diag(1, unit), zero signs aside (law `rotation-is-map`)
unfoldable pub rotation_map_of : Complex → Map2
rotation_map_of u = map2 (real2 u.re (neg u.im)) (real2 u.im u.re)

-- the rotation that a wire with the phase p gets, if it gets one
unfoldable pub rotation_of : Complex → Option Map2
rotation_of p = cond (turns_of (unit_of p)) (Some (rotation_map_of (unit_of p))) None
