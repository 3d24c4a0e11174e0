-- Worked rows: the engine's formulas computed over the numbers modulo 13, by its own determinant and its own Pfaffian, beside what quantum mechanics gives
-- (crate `angles` has that from the theorem, proofs/Lost.antt). Assumes nothing.
use mathlib.Core.Path.{◌≡◌, refl}
use mathlib.Core.List.{List, [], ◌∷◌}
use Prim.Native.Nat.{ℕ, ◌+◌, ◌*◌}
use lib.ListN.{get_or}
use Rattle.laws.specs.Lists.{in_order}
use Rattle.laws.specs.Views.{up_from}
use Rattle.formulas.specs.Engine.{Mat, Local, Item, applied, interaction, dot, run, vacuum, get}
use Rattle.formulas.specs.Determinants.{last_largest, eliminated, own_det, own_odd}
use Rattle.formulas.specs.Pfaffians.{search, pf, own_pfaffian}
use Rattle.formulas.proofs.Thirteen.{Mod, e0, e1, e2, e3, e4, e5, e6, e7, e8, e9, e10, e11, e12, mod13, minus_one, tests13}

-- a matrix of w columns by its entries, row by row
abbrev entries : ℕ → List Mod → Mat mod13
entries w l r c = get_or l (w * r + c) e0

-- the angle with cosine 7 and sine 11 about X X of the modes k and k + 1; X of mode k, whose determinant is -1
abbrev turn_entries : List Mod
turn_entries = e1 ∷ e0 ∷ e0 ∷ e0 ∷ e0 ∷ e7 ∷ e11 ∷ e0 ∷ e0 ∷ e2 ∷ e7 ∷ e0 ∷ e0 ∷ e0 ∷ e0 ∷ e1 ∷ []

abbrev turn : ℕ → Item (Local mod13)
turn k = applied (record { start = 2 * k; width = 4; map = entries 4 turn_entries })

abbrev flip : ℕ → Item (Local mod13)
flip k = applied (record { start = 2 * k; width = 2; map = entries 2 (e1 ∷ e0 ∷ e0 ∷ e12 ∷ []) })

-- Z of mode k after a list
abbrev z_after : List (Item (Local mod13)) → ℕ → Mod
z_after os k = get mod13 (run mod13 minus_one (own_odd mod13 tests13 minus_one) os (vacuum mod13)) (2 * k) (2 * k + 1)

-- Z of the first of two modes is 7; an engine with a lost turn gives -1
first-of-two : z_after (turn 0 ∷ flip 0 ∷ interaction ∷ turn 0 ∷ []) 0 ≡ e7
unfolding in_order dot own_det eliminated last_largest up_from
first-of-two = refl

-- Z of the second of three modes is 6; one that turns the next mode only gives 1
second-of-three : z_after (turn 1 ∷ flip 0 ∷ turn 1 ∷ []) 1 ≡ e6
unfolding in_order dot own_det eliminated last_largest up_from
second-of-three = refl

-- the determinant of a turn is 1, though rows are exchanged on the way
turn-even : own_det mod13 tests13 4 (entries 4 turn_entries) ≡ e1
unfolding own_det eliminated last_largest up_from
turn-even = refl

-- a matrix whose first pivot must be looked for: right of the diagonal 0 3 4, 5 6, 1. Its Pfaffian is 0 * 1 - 3 * 6 + 4 * 5 = 2
pivot-sought : own_pfaffian mod13 tests13 4
    (entries 4 (e0 ∷ e0 ∷ e3 ∷ e4 ∷ e0 ∷ e0 ∷ e5 ∷ e6 ∷ e10 ∷ e8 ∷ e0 ∷ e1 ∷ e9 ∷ e7 ∷ e12 ∷ e0 ∷ [])) ≡ e2
unfolding own_pfaffian pf search
pivot-sought = refl
