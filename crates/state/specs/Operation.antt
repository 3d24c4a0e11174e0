-- Operations: what the 18 places of one hold, "kind, mode, 16 numbers" (questions 10 and 17), and what it does to the state. Definitions only.
-- A public promise rests on this.
use Rattle.std.specs.Prelude.{ℕ, ◌+◌, ◌-◌, ◌*◌, ◌<◌, Bool, cond, ◌&&◌, List, length, Option, Some, None, pos, ◌==◌, from_bits, nat_lt, slice_index_or, Float}
use Rattle.std.specs.Float.{nan, binary64}
use Rattle.std.specs.Float.Ieee.{of_int, to_unsigned, neg, lt, eq}
use Rattle.laws.specs.Bounds.{op_places}
use Rattle.real.specs.Maps.{local2, local4}
use Rattle.real.specs.declared.maps.Real2.{Real2}
use Rattle.real.specs.declared.maps.Map2.{Map2}
use Rattle.real.specs.declared.maps.Real4.{Real4}
use Rattle.real.specs.declared.maps.Map4.{Map4}
use Rattle.local.specs.State.{State, state_at, stored}
use Rattle.local.specs.Det.{odd}
use Rattle.local.specs.Apply.{step}
use Rattle.state.specs.Bounds.{dim_of}
use Rattle.state.specs.declared.operation.Operation.{Operation}
use Rattle.state.specs.declared.operation.Operation.TheVariants.{One, Two, Interaction}

-- ---- "the mode a whole number from 0 and below n"

-- x is a whole number that a u64 holds: above -1, below 2^64, and what is left of it without its fraction. -0.0 is 0; a NaN is none
unfoldable pub is_whole : Float → Bool
is_whole x =
    lt (neg (from_bits binary64 0x3ff0_0000_0000_0000)) x && (lt x (from_bits binary64 0x43f0_0000_0000_0000)
    && eq (of_int binary64 (pos (to_unsigned 64 x))) x)

-- that mode, if x is one
unfoldable pub mode_of : Float → ℕ → Option ℕ
mode_of x n = cond (is_whole x) (cond (nat_lt (to_unsigned 64 x) n) (Some (to_unsigned 64 x)) None) None

-- ---- the places

abbrev pub place_of : List Float → ℕ → Float
place_of s i = slice_index_or s i nan

abbrev pub real2_of : List Float → ℕ → Real2
real2_of s i = record { x0 = place_of s i; x1 = place_of s (i + 1) }

abbrev pub real4_of : List Float → ℕ → Real4
real4_of s i = record { x0 = place_of s i; x1 = place_of s (i + 1); x2 = place_of s (i + 2); x3 = place_of s (i + 3) }

-- "kind 1 has a 2 by 2 map first"
abbrev pub map2_of : List Float → Map2
map2_of s = record { r0 = real2_of s 2; r1 = real2_of s 4 }

-- "kind 2 a 4 by 4"
abbrev pub map4_of : List Float → Map4
map4_of s = record { r0 = real4_of s 2; r1 = real4_of s 6; r2 = real4_of s 10; r3 = real4_of s 14 }

-- "kind 3 block, second mode and the unit of w"; "its mode unquestioned"
abbrev pub interaction_at : List Float → Operation
interaction_at s = Interaction (place_of s 1) (place_of s 2) (place_of s 3) (record { re = place_of s 4; im = place_of s 5 })

-- ---- question 17

abbrev pub kind_is : List Float → ℕ → Bool
kind_is s bits = eq (place_of s 0) (from_bits binary64 bits)

unfoldable pub one_of : List Float → Option ℕ → Option Operation
one_of s (Some mode) = Some (One mode (map2_of s))
one_of s None = None

unfoldable pub two_of : List Float → Option ℕ → Option Operation
two_of s (Some mode) = Some (Two mode (map4_of s))
two_of s None = None

-- "has the operation 18 places, is the kind 1, 2 or 3, and for 1 and 2 the mode a whole number from 0 and below n, for 2 its successor too?"
unfoldable pub decode_of : ℕ → List Float → Option Operation
decode_of n s =
    cond (nat_lt (length s) op_places) None
    (cond (kind_is s 0x3ff0_0000_0000_0000) (one_of s (mode_of (place_of s 1) n))
    (cond (kind_is s 0x4000_0000_0000_0000) (cond (n == 0) None (two_of s (mode_of (place_of s 1) (n - 1))))
    (cond (kind_is s 0x4008_0000_0000_0000) (Some (interaction_at s)) None)))

-- ---- what an operation does

-- "an interaction does nothing"
unfoldable pub effect : Operation → State → State
effect (One mode q) t = step odd (local2 (2 * mode) q) t
effect (Two mode q) t = step odd (local4 (2 * mode) q) t
effect (Interaction mode block second unit) t = t

-- an engine, by what an operation does to the state; this one's is `effect`
abbrev pub Engine : Type 0
Engine = Operation → State → State

-- to the state of n qubits in a slice
abbrev pub applied : ℕ → Operation → List Float → List Float
applied n o s = stored (dim_of n) (effect o (state_at (dim_of n) s)) s

-- its modes are below n
unfoldable pub Fits : ℕ → Operation → Type 0
Fits n (One mode q) = mode < n
Fits n (Two mode q) = mode + 1 < n
Fits n (Interaction mode block second unit) = Unit {0}
