-- `apply` reads back what the compiler writes: an operation's own 18 places decode to its mode and its numbers. Assumes nothing.
use mathlib.Core.Path.{◌≡◌, refl, ap}
use mathlib.Core.Bool.{false}
use Prim.Native.Nat.{ℕ, ◌+◌, ◌-◌, ◌≤◌, ◌<◌}
use native.Mathlib.Omega.{arith}
use lib.Dec.{eqb}
use lib.Ieee.{of_bits, eq}
use borrow.Author.Tests.{ne_eqb}
use Rattle.laws.specs.Bounds.{max_qubits}
use Rattle.real.specs.declared.maps.Map2.{Map2}
use Rattle.real.specs.declared.maps.Map4.{Map4}
use Rattle.gate.specs.declared.complex.Complex.{Complex}
use Rattle.detect.specs.Operation.{one, two, interaction, places_of}
use Rattle.state.specs.Operation.{interaction_at, one_of, two_of, decode_of}
use Rattle.state.specs.declared.operation.Operation.TheVariants.{One, Two}
use Rattle.std.proofs.Common.{Some}
use Rattle.state.proofs.Wholes.{mode-back}

-- "kind 1"
pub decode-one : (n k : ℕ) (q : Map2) → k < n → n ≤ max_qubits → decode_of n (places_of (one k q)) ≡ Some (One k q)
unfolding decode_of places_of one_of of_bits eq
decode-one n k q h m = ap (one_of (places_of (one k q))) (mode-back k n h m)

-- "kind 2": its successor is a mode too
pub decode-two : (n k : ℕ) (q : Map4) → k + 1 < n → n ≤ max_qubits → decode_of n (places_of (two k q)) ≡ Some (Two k q)
unfolding decode_of places_of two_of of_bits eq
decode-two n k q h m =
    let z : eqb n 0 ≡ false = ne_eqb n 0 (λ e. omega arith) in
    rw (z, mode-back k (n - 1) (omega arith) (omega arith))

-- "kind 3": its mode is not questioned
pub decode-interaction : (n k block second : ℕ) (w : Complex)
    → decode_of n (places_of (interaction k block second w)) ≡ Some (interaction_at (places_of (interaction k block second w)))
unfolding decode_of places_of of_bits eq
decode-interaction n k block second w = refl
