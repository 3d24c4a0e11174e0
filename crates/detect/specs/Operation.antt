-- Operations (question 10): "18 places per operation. Each is kind, mode, 16 numbers". Assumes nothing. A public promise rests on this.
use Rattle.std.specs.Prelude.{◌≡◌, List, [], ◌∷◌, ◌++◌, ℕ, ◌+◌, pos, length, take, drop, Float}
use Rattle.std.specs.Float.{binary64}
use Rattle.std.specs.Float.Ieee.{of_bits, of_int}
use Rattle.real.specs.declared.maps.Map2.{Map2}
use Rattle.real.specs.declared.maps.Map4.{Map4}
use Rattle.gate.specs.Complex.{f0, f1, f2}
use Rattle.gate.specs.declared.complex.Complex.{Complex}

pub data Operation : Type 0 where
  -- mode, map
  one : ℕ → Map2 → Operation
  -- the lower mode, map
  two : ℕ → Map4 → Operation
  -- the first wire's mode, block, the second wire's mode, the unit of w
  interaction : ℕ → ℕ → ℕ → Complex → Operation

-- ---- its places

-- 3.0
abbrev pub f3 : Float
f3 = of_bits binary64 0x4008_0000_0000_0000

-- a whole number as a float
abbrev pub whole : ℕ → Float
whole k = of_int binary64 (pos k)

-- "unused places 0.0": kinds 1 and 3 leave twelve
abbrev pub unused_places : List Float
unused_places = f0 ∷ f0 ∷ f0 ∷ f0 ∷ f0 ∷ f0 ∷ f0 ∷ f0 ∷ f0 ∷ f0 ∷ f0 ∷ f0 ∷ []

-- "kind 1 has a 2 by 2 map first"
abbrev pub one_places : ℕ → Map2 → List Float
one_places k q = f1 ∷ whole k ∷ q.r0.x0 ∷ q.r0.x1 ∷ q.r1.x0 ∷ q.r1.x1 ∷ unused_places

-- "kind 2 a 4 by 4"
abbrev pub two_places : ℕ → Map4 → List Float
two_places k q =
    f2 ∷ whole k
    ∷ q.r0.x0 ∷ q.r0.x1 ∷ q.r0.x2 ∷ q.r0.x3
    ∷ q.r1.x0 ∷ q.r1.x1 ∷ q.r1.x2 ∷ q.r1.x3
    ∷ q.r2.x0 ∷ q.r2.x1 ∷ q.r2.x2 ∷ q.r2.x3
    ∷ q.r3.x0 ∷ q.r3.x1 ∷ q.r3.x2 ∷ q.r3.x3
    ∷ []

-- "kind 3 block, second mode and the unit of w"
abbrev pub interaction_places : ℕ → ℕ → ℕ → Complex → List Float
interaction_places k block second w = f3 ∷ whole k ∷ whole block ∷ whole second ∷ w.re ∷ w.im ∷ unused_places

unfoldable pub places_of : Operation → List Float
places_of (one k q) = one_places k q
places_of (two k q) = two_places k q
places_of (interaction k block second w) = interaction_places k block second w

-- the operations one after the other
unfoldable pub all_places : List Operation → List Float
all_places [] = []
all_places (o ∷ os) = places_of o ++ all_places os

-- ---- in a slice

-- xs for what stands from p on; what is before and after stays
abbrev pub placed : ℕ → List Float → List Float → List Float
placed p xs l = take p l ++ xs ++ drop (p + length xs) l

-- "places after the last operation keep their values"
abbrev pub written : List Operation → List Float → List Float
written os l = placed 0 (all_places os) l

-- the operations have been written from p on, up to r
pub record Put (os : List Operation) (p : ℕ) (l m : List Float) (r : ℕ) : Type 0 where
  pub is : m ≡ placed p (all_places os) l
  pub next : r ≡ p + length (all_places os)
