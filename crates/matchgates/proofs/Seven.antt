-- There are such real numbers: the whole numbers modulo 7, where -1 is no square, 4 + 4 = 1, and 2 is cosine and sine of an angle. Assumes nothing.
use mathlib.Core.Path.{◌≡◌, refl, sym, ap, ◌∙◌}
use mathlib.Core.Logic.{◌⊎◌, inl, inr, ◌≢◌}
use mathlib.Core.Bool.{Bool, true, false, cond, ◌||◌, not, false≢true}
use mathlib.Core.List.{[], ◌∷◌}
use Prim.Native.Nat.{ℕ, ◌%◌, ◌<◌}
use lib.Dec.{lit<}
use lib.ListN.{get_or}
use Rattle.laws.specs.Tests.{all_below}
use Rattle.rings.specs.Rings.{Ops}
use Rattle.formulas.specs.Numbers.{Tests, Divides}
use Rattle.matchgates.specs.Complex.{Real}
use Rattle.rings.proofs.Trials.{Placed, every, every2, same, same-is}
use Rattle.formulas.proofs.Modulo.{modulo, last, tests, Tried, commutative, divides}

pub data Mod : Type 0 where
  e0 e1 e2 e3 e4 e5 e6 : Mod

abbrev to : Mod → ℕ
to e0 = 0
to e1 = 1
to e2 = 2
to e3 = 3
to e4 = 4
to e5 = 5
to e6 = 6

abbrev from : ℕ → Mod
from k = get_or (e0 ∷ e1 ∷ e2 ∷ e3 ∷ e4 ∷ e5 ∷ e6 ∷ []) (k % 7) e0

pub from-to : (s : Mod) → (to s < 7) × (from (to s) ≡ s)
from-to e0 = (lit< tt, refl)
from-to e1 = (lit< tt, refl)
from-to e2 = (lit< tt, refl)
from-to e3 = (lit< tt, refl)
from-to e4 = (lit< tt, refl)
from-to e5 = (lit< tt, refl)
from-to e6 = (lit< tt, refl)

abbrev seven : Placed Mod
seven = record { p = 7; from = from; to = to; from-to = from-to }

-- ---- the field

abbrev pub mod7 : Ops
mod7 = modulo seven

abbrev pub minus_one : Mod → Bool
minus_one = last seven

abbrev pub tests7 : Tests mod7
tests7 = tests seven

pub tried7 : Tried seven
unfolding all_below
tried7 = record {
  add-assoc = refl;
  add-comm = refl;
  add-zero = refl;
  add-neg = refl;
  mul-assoc = refl;
  mul-comm = refl;
  one-mul = refl;
  mul-one = refl;
  left = refl;
  right = refl;
  null-zero = refl;
  quotients = refl;
}

pub divides7 : Divides mod7 tests7
divides7 = divides seven tried7

abbrev mul : Mod → Mod → Mod
mul = mod7.mul

-- where the first test passes the second does
abbrev implies : Bool → Bool → Bool
implies a b = cond a b true

implied : (a b : Bool) → implies a b ≡ true → a ≡ true → b ≡ true
implied true b h e = h
implied false b h e = absurd (false≢true e)

-- a product is nought only if a factor is
pub factor : (s t : Mod) → mul s t ≡ e0 → (s ≡ e0) ⊎ (t ≡ e0)
unfolding all_below
factor s t e =
    by (same seven s e0) refl (implied (same seven (mul s t) e0) (same seven s e0 || same seven t e0)
    (every2 seven (λ s t. implies (same seven (mul s t) e0) (same seven s e0 || same seven t e0)) refl s t) (ap (λ u. same seven u e0) e))
  where
    by : (b : Bool) → same seven s e0 ≡ b → b || same seven t e0 ≡ true → (s ≡ e0) ⊎ (t ≡ e0)
    by true h g = inl (same-is seven s e0 h)
    by false h g = inr (same-is seven t e0 g)

pub no-root : (s : Mod) → mul s s ≢ e6
unfolding all_below
no-root s e = false≢true (sym (ap (λ t. not (same seven t e6)) e) ∙ every seven (λ s. not (same seven (mul s s) e6)) refl s)

unfoldable pub real7 : Real mod7 minus_one
unfolding all_below
real7 = record {
  laws = commutative seven tried7;
  half = e4;
  halves = refl;
  factor = factor;
  no-root = no-root;
  not-below = refl;
  is-below = refl;
}
