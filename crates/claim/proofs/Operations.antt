-- A program's operations as `apply` decodes them, one at a time and in lists, on states that hold bits. Assumes nothing.
use mathlib.Core.Path.{◌≡◌, refl, ap}
use mathlib.Core.List.{List, [], ◌∷◌, ◌++◌}
use Prim.Native.Nat.{ℕ, ◌+◌, ◌<◌, ◌≤◌}
use Rattle.laws.specs.Bounds.{max_qubits}
use Rattle.laws.specs.Lists.{in_order}
use Rattle.real.specs.declared.maps.Map2.{Map2}
use Rattle.real.specs.declared.maps.Map4.{Map4}
use Rattle.gate.specs.declared.complex.Complex.{Complex}
use Rattle.detect.specs.Operation.{Operation, one, two, interaction, places_of}
use Rattle.local.specs.State.{State}
use Rattle.state.specs.Operation.{effect, decode_of}
use Rattle.state.specs.declared.operation.Operation.TheVariants.{One, Two}
use Rattle.evolve.specs.Evolve.{decoded_by, evolved_from}
use Rattle.evolve.proofs.Decoding.{decode-one, decode-two, decode-interaction}

-- ---- lists

pub evolved-append : (n : ℕ) (os ps : List Operation) (t : State) → evolved_from n (os ++ ps) t ≡ evolved_from n ps (evolved_from n os t)
unfolding in_order
evolved-append n [] ps t = refl
evolved-append n (o ∷ os) ps t = evolved-append n os ps (decoded_by effect (decode_of n (places_of o)) t)

-- ---- what is applied

module _ (n : ℕ) (few : n ≤ max_qubits) (t : State) where
  pub one-applied : (k : ℕ) (q : Map2) → k < n → evolved_from n (one k q ∷ []) t ≡ effect (One k q) t
  unfolding in_order decoded_by
  one-applied k q l = ap (λ d. decoded_by effect d t) (decode-one n k q l few)

  pub two-applied : (k : ℕ) (q : Map4) → k + 1 < n → evolved_from n (two k q ∷ []) t ≡ effect (Two k q) t
  unfolding in_order decoded_by
  two-applied k q l = ap (λ d. decoded_by effect d t) (decode-two n k q l few)

  -- "an interaction does nothing"
  pub interaction-applied : (k block second : ℕ) (w : Complex) → evolved_from n (interaction k block second w ∷ []) t ≡ t
  unfolding in_order decoded_by effect
  interaction-applied k block second w = ap (λ d. decoded_by effect d t) (decode-interaction n k block second w)
