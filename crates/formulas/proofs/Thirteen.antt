-- There are exact numbers: the whole numbers modulo 13, where 5 * 5 = -1, 7 + 7 = 1, and 7 and 11 are cosine and sine of an angle. So the theorems speak of
-- something. Assumes nothing.
use mathlib.Core.Path.{◌≡◌, refl, sym, ap, ◌∙◌}
use mathlib.Core.Logic.{◌⊎◌, inl, inr}
use mathlib.Core.Bool.{Bool, true, false, ◌||◌, not}
use mathlib.Core.List.{[], ◌∷◌}
use Prim.Native.Nat.{ℕ, ◌%◌, ◌<◌}
use lib.Dec.{lit<}
use lib.ListN.{get_or}
use Rattle.laws.specs.Tests.{all_below}
use Rattle.rings.specs.Rings.{Ops}
use Rattle.formulas.specs.Numbers.{Exact, Tests, Divides}
use Rattle.rings.proofs.Trials.{Placed, every, same, same-is}
use Rattle.formulas.proofs.Modulo.{modulo, last, tests, Tried, commutative, divides}

pub data Mod : Type 0 where
  e0 e1 e2 e3 e4 e5 e6 e7 e8 e9 e10 e11 e12 : Mod

abbrev pub to : Mod → ℕ
to e0 = 0
to e1 = 1
to e2 = 2
to e3 = 3
to e4 = 4
to e5 = 5
to e6 = 6
to e7 = 7
to e8 = 8
to e9 = 9
to e10 = 10
to e11 = 11
to e12 = 12

abbrev from : ℕ → Mod
from k = get_or (e0 ∷ e1 ∷ e2 ∷ e3 ∷ e4 ∷ e5 ∷ e6 ∷ e7 ∷ e8 ∷ e9 ∷ e10 ∷ e11 ∷ e12 ∷ []) (k % 13) e0

pub from-to : (s : Mod) → (to s < 13) × (from (to s) ≡ s)
from-to e0 = (lit< tt, refl)
from-to e1 = (lit< tt, refl)
from-to e2 = (lit< tt, refl)
from-to e3 = (lit< tt, refl)
from-to e4 = (lit< tt, refl)
from-to e5 = (lit< tt, refl)
from-to e6 = (lit< tt, refl)
from-to e7 = (lit< tt, refl)
from-to e8 = (lit< tt, refl)
from-to e9 = (lit< tt, refl)
from-to e10 = (lit< tt, refl)
from-to e11 = (lit< tt, refl)
from-to e12 = (lit< tt, refl)

abbrev thirteen : Placed Mod
thirteen = record { p = 13; from = from; to = to; from-to = from-to }

-- ---- the field

abbrev pub mod13 : Ops
mod13 = modulo thirteen

abbrev pub minus_one : Mod → Bool
minus_one = last thirteen

abbrev pub tests13 : Tests mod13
tests13 = tests thirteen

tried13 : Tried thirteen
unfolding all_below
tried13 = record {
  add-assoc = refl;
  add-comm = refl;
  add-zero = refl;
  add-neg = refl;
  mul-assoc = refl;
  mul-comm = refl;
  one-mul = refl;
  mul-one = refl;
  left = refl;
  right = refl;
  null-zero = refl;
  quotients = refl;
}

pub divides13 : Divides mod13 tests13
divides13 = divides thirteen tried13

abbrev mul : Mod → Mod → Mod
mul = mod13.mul

-- s s is not 1, or s is 1 or -1
roots13 : (s : Mod) → mul s s ≡ e1 → (s ≡ e1) ⊎ (s ≡ e12)
unfolding all_below
roots13 s h = by (same thirteen s e1) refl (every thirteen (λ s. not (same thirteen (mul s s) e1) || (same thirteen s e1 || same thirteen s e12)) refl s)
  where
    by : (b : Bool) → same thirteen s e1 ≡ b → not (same thirteen (mul s s) e1) || (b || same thirteen s e12) ≡ true → (s ≡ e1) ⊎ (s ≡ e12)
    by true e t = inl (same-is thirteen s e1 e)
    by false e t = inr (same-is thirteen s e12 (ap (λ x. not (same thirteen x e1) || same thirteen s e12) (sym h) ∙ t))

pub exact13 : Exact mod13 minus_one
exact13 = record { laws = commutative thirteen tried13; i = e5; i-square = refl; half = e7; halves = refl; roots = roots13; not-below = refl; is-below = refl }
