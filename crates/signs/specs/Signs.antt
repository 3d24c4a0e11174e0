-- WHAT THE SIGN THEOREM SAYS. A circuit is a list of blocks on one mode or on two neighbours (`BlockOp`), each known by what it does to the Paulis on
-- its own modes, and each with an operation of the engine whose map is the signed permutation of its Majorana operators; interactions may stand
-- between. The engine applies the operations in order, from the vacuum. Quantum mechanics pulls an observable back through the blocks, the last one
-- first, and takes its value in |0..0>. The two agree, zero signs aside. The right sides speak of neither determinants nor later modes nor postponed
-- signs, so an engine that loses a turn, turns its own rows too, does not settle, or turns the next mode only is not right. Assumes nothing.
-- A public promise rests on this.
use Rattle.std.specs.Prelude.{◌≡◌, true, Some, List, [], ◌∷◌, ℕ, ◌*◌, ◌≤◌, ◌<◌, length, Float}
use Rattle.laws.specs.Lists.{All, in_order}
use Rattle.laws.specs.Zeros.{nz}
use Rattle.local.specs.Bounds.{state_places}
use Rattle.local.specs.State.{State, state_at, stored, vacuum, get}
use Rattle.state.specs.Bounds.{dim_of}
use Rattle.state.specs.Operation.{Engine, applied, decode_of}
use Rattle.state.specs.Questions.{state_ok}
use Rattle.state.specs.Calls.{called}
use Rattle.state.specs.declared.operation.Operation.{Operation}
use Rattle.queries.specs.Products.{product_of}
use Rattle.signs.specs.Paulis.{float, expectation}
use Rattle.signs.specs.Majoranas.{gamma, paired, zs, DistinctModes}
use Rattle.signs.specs.Circuits.{Permuting, BlockOp, operation, pulled, Within}

-- the operations of a list, in order
abbrev pub run_by : Engine → List BlockOp → State → State
run_by e xs t = in_order (λ x. e (operation x)) xs t

-- a state that is right after the circuit xs on n modes
pub record Right (n : ℕ) (xs : List BlockOp) (t : State) : Type 0 where
  -- every entry of the covariance: -i times two Majorana operators
  pub covariance : (r c : ℕ) → r < 2 * n → c < 2 * n → nz (get t r c) ≡ float (expectation n (pulled xs (paired n (gamma r) (gamma c))))
  -- the Z product of any different modes, which is what a product query reads: of one mode, its Z
  pub product : (js : List ℕ) → DistinctModes n js → nz (product_of (get t) js).value ≡ float (expectation n (pulled xs (zs js)))

-- THE STATEMENT: for every number of modes and every circuit on them
abbrev pub AlwaysRight : Engine → Type 0
AlwaysRight e = (n : ℕ) (xs : List BlockOp) → Within n xs → Right n xs (run_by e xs vacuum)

-- ---- the same in the caller's slice

-- the operations of a list, in order, each applied as `apply` does it
abbrev pub applied_all : ℕ → List BlockOp → List Float → List Float
applied_all n xs s = in_order (λ x. applied n (operation x)) xs s

-- a slice that holds a state, with the vacuum put there first
abbrev pub RightInSlices : Type 0
RightInSlices = (n : ℕ) (xs : List BlockOp) (s : List Float) → Within n xs → state_places (dim_of n) ≤ length s
    → Right n xs (state_at (dim_of n) (applied_all n xs (stored (dim_of n) vacuum s)))

-- ---- the same by calls of `apply`

-- each operation stands in the places of a slice: question 17 reads it there
abbrev pub StandIn : ℕ → List BlockOp → List (List Float) → Type 0
StandIn n [] [] = Unit {0}
StandIn n [] (op ∷ ops) = ⊥
StandIn n (x ∷ xs) [] = ⊥
StandIn n (x ∷ xs) (op ∷ ops) = (decode_of n op ≡ Some (operation x)) × StandIn n xs ops

-- each operation that stands in places is a signed permutation or an interaction
abbrev pub AllPermute : ℕ → List (List Float) → Type 0
AllPermute n = All (λ op. (o : Operation) × (decode_of n op ≡ Some o) × Permuting o)

-- the caller's slice and mode table pass question 16
abbrev pub RightByCalls : Type 0
RightByCalls = (n : ℕ) (xs : List BlockOp) (ops : List (List Float)) (modes : List ℕ) (s : List Float) → Within n xs → StandIn n xs ops
    → state_ok n s modes ≡ true → Right n xs (state_at (dim_of n) (called n modes ops (stored (dim_of n) vacuum s)))
