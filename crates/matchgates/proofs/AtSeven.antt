-- Computed modulo 7: the map of a gate at a true angle, and products of gates: which stands on the left, which qubit is the high bit, and what the other order
-- of qubits is. Assumes nothing.
use mathlib.Core.Path.{◌≡◌, refl}
use mathlib.Core.Bool.{cond}
use mathlib.Core.List.{[], ◌∷◌}
use Prim.Native.Nat.{◌+◌}
use lib.Dec.{eqb}
use Rattle.rings.specs.Rings.{Ops}
use Rattle.formulas.specs.Engine.{Mat, dot}
use Rattle.matchgates.specs.Matrices.{mat_x, mat_z}
use Rattle.matchgates.specs.Maps.{map_of}
use Rattle.matchgates.specs.Complex.{complex, flat}
use Rattle.matchgates.specs.Fused.{singles, turned, swap, in_time, time_product, fused}
use Rattle.matchgates.proofs.Complex.{exact, conjugate}
use Rattle.matchgates.proofs.Seven.{Mod, e0, e1, e2, e6, mod7, real7}

-- ---- a gate at a true angle: 2 + 2 i X X

abbrev ℂ : Ops
ℂ = complex mod7

abbrev real : Mod → ℂ.N
real = flat mod7

abbrev angle : Mat ℂ
angle r c = cond (eqb r c) (real e2) (cond (eqb (r + c) 3) (record { re = e0; im = e2 }) ℂ.zero)

abbrev map : Mat ℂ
map = map_of (exact real7) (conjugate real7) 2 angle

-- it turns the plane of the second and third Majorana operators by a right angle, and leaves the first and last
right-angle : map 1 2 ≡ real e1
unfolding dot real7
right-angle = refl

stays : map 0 0 ≡ real e1
unfolding dot real7
stays = refl

no-more : map 1 1 ≡ real e0
unfolding dot real7
no-more = refl

-- ---- products of gates

abbrev X : Mat mod7
X = mat_x mod7

-- X and then Z is Z X
x-then-z : time_product mod7 2 (X ∷ mat_z mod7 ∷ []) 0 1 ≡ e1
unfolding dot in_time
x-then-z = refl

and-below : time_product mod7 2 (X ∷ mat_z mod7 ∷ []) 1 0 ≡ e6
unfolding dot in_time
and-below = refl

-- X on the first qubit takes index 2 to 0, and X on the second index 1
on-first : fused mod7 (singles (X ∷ []) [] ∷ []) 0 2 ≡ e1
unfolding dot in_time
on-first = refl

on-second : fused mod7 (singles [] (X ∷ []) ∷ []) 0 1 ≡ e1
unfolding dot in_time
on-second = refl

-- in the other order the first is the second
other-order : fused mod7 (turned (fused mod7 (singles (X ∷ []) [] ∷ [])) ∷ []) 0 1 ≡ e1
unfolding dot in_time
other-order = refl

exchanged : swap mod7 1 2 ≡ e1
exchanged = refl
