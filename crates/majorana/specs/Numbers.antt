-- Whether a map commutes with the particle number: the tests of detect.rs for one mode (`commutes_j2`) and for two (`number_conserving4`), with their
-- own treatment of NaN: the first says no there and the second yes. Assumes nothing. A public promise rests on this.
use Rattle.std.specs.Prelude.{Bool, not, ◌&&◌, Float}
use Rattle.std.specs.Float.{binary64}
use Rattle.std.specs.Float.Ieee.{add, sub, mul, lt, of_bits}
use Rattle.real.specs.Maps.{real4, map4}
use Rattle.real.specs.declared.maps.Map2.{Map2}
use Rattle.real.specs.declared.maps.Real4.{Real4}
use Rattle.real.specs.declared.maps.Map4.{Map4}
use Rattle.num.specs.Order.{abs_of}
use Rattle.gate.specs.Complex.{f0, f1}
use Rattle.named.specs.Table.{f-1}

-- 1e-9
abbrev pub slack : Float
slack = of_bits binary64 0x3e11_2e0b_e826_d695

-- ---- one mode

unfoldable pub commutes_j2_of : Map2 → Bool
commutes_j2_of q =
    lt (abs_of (sub binary64 q.r0.x0 q.r1.x1)) slack && lt (abs_of (add binary64 q.r0.x1 q.r1.x0)) slack

-- ---- two modes

-- J = diag(j, j), j = [[0, 1], [-1, 0]]
abbrev pub jay : Map4
jay = map4 (real4 f0 f1 f0 f0) (real4 f-1 f0 f0 f0) (real4 f0 f0 f0 f1) (real4 f0 f0 f-1 f0)

-- Σ_j r_j s_j, from 0.0
unfoldable pub dot4_of : Real4 → Real4 → Float
dot4_of r s =
    add binary64
    (add binary64 (add binary64 (add binary64 f0 (mul binary64 r.x0 s.x0)) (mul binary64 r.x1 s.x1)) (mul binary64 r.x2 s.x2))
    (mul binary64 r.x3 s.x3)

-- a row times each column of m
unfoldable pub real_row_mul_of : Real4 → Map4 → Real4
real_row_mul_of r m =
    real4 (dot4_of r (real4 m.r0.x0 m.r1.x0 m.r2.x0 m.r3.x0)) (dot4_of r (real4 m.r0.x1 m.r1.x1 m.r2.x1 m.r3.x1))
    (dot4_of r (real4 m.r0.x2 m.r1.x2 m.r2.x2 m.r3.x2)) (dot4_of r (real4 m.r0.x3 m.r1.x3 m.r2.x3 m.r3.x3))

-- not further apart than 1e-9: a NaN is not
unfoldable pub close_of : Float → Float → Bool
close_of a b = not (lt slack (abs_of (sub binary64 a b)))

unfoldable pub close_row_of : Real4 → Real4 → Bool
close_row_of r s = close_of r.x0 s.x0 && close_of r.x1 s.x1 && close_of r.x2 s.x2 && close_of r.x3 s.x3

-- row i of qJ is that of Jq, where r and j are the rows i of q and of J
unfoldable pub commutes_row_of : Map4 → Real4 → Real4 → Bool
commutes_row_of q r j = close_row_of (real_row_mul_of r jay) (real_row_mul_of j q)

unfoldable pub number_conserving4_of : Map4 → Bool
number_conserving4_of q =
    commutes_row_of q q.r0 jay.r0 && commutes_row_of q q.r1 jay.r1 && commutes_row_of q q.r2 jay.r2 && commutes_row_of q q.r3 jay.r3
