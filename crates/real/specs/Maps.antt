-- Real maps of the Majorana operators of one mode (2 by 2) and of two (4 by 4), the structs of the code: made from their entries, and read by row and
-- column. Assumes nothing. A public promise rests on this.
use Rattle.std.specs.Prelude.{[], ◌∷◌, ℕ, zero, suc, get_or, Float}
use Rattle.std.specs.Float.{nan}
use Rattle.laws.specs.Matrix.{Mat}
use Rattle.laws.specs.Maps.{Local}
use Rattle.real.specs.declared.maps.Real2.{Real2}
use Rattle.real.specs.declared.maps.Real4.{Real4}
use Rattle.real.specs.declared.maps.Map2.{Map2}
use Rattle.real.specs.declared.maps.Map4.{Map4}

-- ---- made

abbrev pub real2 : Float → Float → Real2
real2 x y = record { x0 = x; x1 = y }

abbrev pub map2 : Real2 → Real2 → Map2
map2 a b = record { r0 = a; r1 = b }

abbrev pub real4 : Float → Float → Float → Float → Real4
real4 w x y z = record { x0 = w; x1 = x; x2 = y; x3 = z }

abbrev pub map4 : Real4 → Real4 → Real4 → Real4 → Map4
map4 a b c d = record { r0 = a; r1 = b; r2 = c; r3 = d }

-- ---- read

abbrev pub row2 : Real2 → ℕ → Float
row2 v j = get_or (v.x0 ∷ v.x1 ∷ []) j nan

abbrev pub row4 : Real4 → ℕ → Float
row4 v j = get_or (v.x0 ∷ v.x1 ∷ v.x2 ∷ v.x3 ∷ []) j nan

abbrev pub entry2 : Map2 → Mat
entry2 q zero = row2 q.r0
entry2 q (suc i) = row2 q.r1

abbrev pub entry4 : Map4 → Mat
entry4 q zero = row4 q.r0
entry4 q (suc zero) = row4 q.r1
entry4 q (suc (suc zero)) = row4 q.r2
entry4 q (suc (suc (suc i))) = row4 q.r3

-- ---- on the indices from s on

abbrev pub local2 : ℕ → Map2 → Local
local2 s q = record { start = s; width = 2; map = entry2 q }

abbrev pub local4 : ℕ → Map4 → Local
local4 s q = record { start = s; width = 4; map = entry4 q }
