-- A program run on the vacuum (001, `evolve`): its operations in order, each as `apply` decodes its 18 places. Definitions only.
-- A public promise rests on this.
use Rattle.std.specs.Prelude.{Option, Some, None, List, [], ◌∷◌, ℕ, zero, suc, map, take, drop, Float}
use Rattle.laws.specs.Lists.{All, in_order}
use Rattle.laws.specs.Bounds.{op_places}
use Rattle.detect.specs.Operation.{Operation, one, two, interaction, places_of}
use Rattle.local.specs.State.{State, vacuum}
use Rattle.state.specs.Operation.{interaction_at, decode_of, effect, Engine, Fits}
use Rattle.state.specs.declared.operation.Operation as state
use Rattle.state.specs.declared.operation.Operation.TheVariants.{One, Two}

-- what an operation does to the state by the engine e, this one's `effect` or another's. One that question 17 would turn down does nothing; a program has none
-- (law `program-fits`)
unfoldable pub decoded_by : Engine → Option state.Operation → State → State
decoded_by e (Some o) t = e o t
decoded_by e None t = t

-- operations in their places, in order, on n modes
abbrev pub placed_by : Engine → ℕ → List (List Float) → State → State
placed_by e n ops t = in_order (λ op. decoded_by e (decode_of n op)) ops t

-- those of a program
abbrev pub evolved_by : Engine → ℕ → List Operation → State → State
evolved_by e n os t = placed_by e n (map places_of os) t

abbrev pub evolved_from : ℕ → List Operation → State → State
evolved_from = evolved_by effect

-- from the vacuum
abbrev pub evolved : ℕ → List Operation → State
evolved n os = evolved_from n os vacuum

-- the first k operations that a slice holds, 18 places each
unfoldable pub held_in : ℕ → List Float → List (List Float)
held_in zero l = []
held_in (suc k) l = take op_places l ∷ held_in k (drop op_places l)

abbrev pub evolved_in : ℕ → ℕ → List Float → State → State
evolved_in n k l t = placed_by effect n (held_in k l) t

-- ---- a program that fits n modes

-- the operation as `apply` reads it from its places
abbrev pub read_back : Operation → state.Operation
read_back (one k q) = One k q
read_back (two k q) = Two k q
read_back (interaction k block second w) = interaction_at (places_of (interaction k block second w))

-- question 17 of each operation: "the mode .. below n, for 2 its successor too"; "an interaction .. its mode unquestioned"
abbrev pub AllFit : ℕ → List Operation → Type 0
AllFit n = All (λ o. Fits n (read_back o))
