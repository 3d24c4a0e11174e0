-- The floats 0.0 and 1.0, a sign in front of a float, and equality up to the sign of a zero: x and y are equal so where nz x ≡ nz y.
-- All floats are meant, the infinities and nan too. Assumes nothing. A public promise rests on this.
use Rattle.std.specs.Prelude.{Bool, true, false, zero, suc, pos, Float}
use Rattle.std.specs.Float.{nan, inf, fin}
use Rattle.std.specs.Float.Ieee.{neg}

-- 0.0
abbrev pub +0 : Float
+0 = fin false 0 (pos 0)

-- 1.0
abbrev pub +1 : Float
+1 = fin false 1 (pos 0)

-- x, negated if b
abbrev pub sg : Bool → Float → Float
sg false x = x
sg true x = neg x

-- x, and +0 for either zero
abbrev pub nz : Float → Float
nz nan = nan
nz (inf s) = inf s
nz (fin s zero e) = +0
nz (fin s (suc m) e) = fin s (suc m) e
