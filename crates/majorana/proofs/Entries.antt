-- The four Majorana operators of two modes, entry by entry: what the Kronecker products of the definition come to, signs of zeros included; and
-- products by them, in which each row has one step that is not skipped.
-- Assumes nothing.
use mathlib.Core.Path.{◌≡◌, refl, ap, ◌∙◌}
use lib.Ieee.{Float, binary64, add, sub, mul, eq, of_bits}
use Rattle.gate.specs.Complex.{cx, f0, c0, c1, is_zero_of}
use Rattle.gate.specs.Matrix.{row4, mat4, kron_row_of, kron_of, axpy_of, row_mul_of, mul4_of}
use Rattle.gate.specs.declared.complex.Complex.{Complex}
use Rattle.gate.specs.declared.matrix.Mat4.{Mat4}
use Rattle.named.specs.Table.{f-1, c-1, ci, c-i}
use Rattle.majorana.specs.Majorana.{majorana0, majorana1, majorana2, majorana3}
use Rattle.majorana.specs.Parts.{scaled_of}

-- -0.0, which a product by -1 leaves of a zero
abbrev pub f-0 : Float
f-0 = of_bits binary64 0x8000_0000_0000_0000

abbrev pub c-0 : Complex
c-0 = cx f-0 f0

-- -1 * i
abbrev pub c-1i : Complex
c-1i = cx f-0 f-1

abbrev pub xi : Mat4
xi = mat4 (row4 c0 c0 c1 c0) (row4 c0 c0 c0 c1) (row4 c1 c0 c0 c0) (row4 c0 c1 c0 c0)

abbrev pub yi : Mat4
yi = mat4 (row4 c0 c0 c-i c0) (row4 c0 c0 c0 c-i) (row4 ci c0 c0 c0) (row4 c0 ci c0 c0)

abbrev pub zx : Mat4
zx = mat4 (row4 c0 c1 c0 c0) (row4 c1 c0 c0 c0) (row4 c0 c0 c-0 c-1) (row4 c0 c0 c-1 c-0)

abbrev pub zy : Mat4
zy = mat4 (row4 c0 c-i c0 c0) (row4 ci c0 c0 c0) (row4 c0 c0 c-0 ci) (row4 c0 c0 c-1i c-0)

pub majorana0-is : majorana0 ≡ xi
unfolding majorana0 kron_of kron_row_of add sub mul of_bits
majorana0-is = refl

pub majorana1-is : majorana1 ≡ yi
unfolding majorana1 kron_of kron_row_of add sub mul of_bits
majorana1-is = refl

pub majorana2-is : majorana2 ≡ zx
unfolding majorana2 kron_of kron_row_of add sub mul of_bits
majorana2-is = refl

pub majorana3-is : majorana3 ≡ zy
unfolding majorana3 kron_of kron_row_of add sub mul of_bits
majorana3-is = refl

-- ---- products

xi-times : (u : Mat4) → mul4_of xi u ≡ mat4 (scaled_of c1 u.r2) (scaled_of c1 u.r3) (scaled_of c1 u.r0) (scaled_of c1 u.r1)
unfolding mul4_of row_mul_of axpy_of is_zero_of scaled_of eq of_bits
xi-times u = refl

pub times0-is : (u : Mat4) → mul4_of majorana0 u ≡ mat4 (scaled_of c1 u.r2) (scaled_of c1 u.r3) (scaled_of c1 u.r0) (scaled_of c1 u.r1)
times0-is u = ap (λ m. mul4_of m u) majorana0-is ∙ xi-times u

yi-times : (u : Mat4) → mul4_of yi u ≡ mat4 (scaled_of c-i u.r2) (scaled_of c-i u.r3) (scaled_of ci u.r0) (scaled_of ci u.r1)
unfolding mul4_of row_mul_of axpy_of is_zero_of scaled_of eq of_bits
yi-times u = refl

pub times1-is : (u : Mat4) → mul4_of majorana1 u ≡ mat4 (scaled_of c-i u.r2) (scaled_of c-i u.r3) (scaled_of ci u.r0) (scaled_of ci u.r1)
times1-is u = ap (λ m. mul4_of m u) majorana1-is ∙ yi-times u

zx-times : (u : Mat4) → mul4_of zx u ≡ mat4 (scaled_of c1 u.r1) (scaled_of c1 u.r0) (scaled_of c-1 u.r3) (scaled_of c-1 u.r2)
unfolding mul4_of row_mul_of axpy_of is_zero_of scaled_of eq of_bits
zx-times u = refl

pub times2-is : (u : Mat4) → mul4_of majorana2 u ≡ mat4 (scaled_of c1 u.r1) (scaled_of c1 u.r0) (scaled_of c-1 u.r3) (scaled_of c-1 u.r2)
times2-is u = ap (λ m. mul4_of m u) majorana2-is ∙ zx-times u

zy-times : (u : Mat4) → mul4_of zy u ≡ mat4 (scaled_of c-i u.r1) (scaled_of ci u.r0) (scaled_of ci u.r3) (scaled_of c-1i u.r2)
unfolding mul4_of row_mul_of axpy_of is_zero_of scaled_of eq of_bits
zy-times u = refl

pub times3-is : (u : Mat4) → mul4_of majorana3 u ≡ mat4 (scaled_of c-i u.r1) (scaled_of ci u.r0) (scaled_of ci u.r3) (scaled_of c-1i u.r2)
times3-is u = ap (λ m. mul4_of m u) majorana3-is ∙ zy-times u

-- ---- for the functions' attributes

pub ruleset operators = (majorana0-is, majorana1-is, majorana2-is, majorana3-is)

pub ruleset products = (times0-is, times1-is, times2-is, times3-is)
