-- CIRCUITS of gates on any qubits, in time order: 2 by 2 matrices on one qubit, 4 by 4 matrices on two. Definitions only. A public promise rests on this.
use Rattle.std.specs.Prelude.{◌≢◌, Bool, List, [], ◌∷◌, ℕ, ◌<◌}
use Rattle.rings.specs.Rings.{Ops}
use Rattle.formulas.specs.Numbers.{Exact}
use Rattle.formulas.specs.Engine.{Mat}
use Rattle.angles.specs.Qubits.{Operators}
use Rattle.matchgates.specs.Maps.{Conjugate, adjoint}
use Rattle.matchgates.specs.Gates.{on_one, placed}

-- a gate of a circuit
pub data Act (𝓝 : Ops) : Type 0 where
  -- on a qubit
  one : ℕ → Mat 𝓝 → Act 𝓝
  -- on two: the first qubit is the high bit of the matrix's indices
  two : ℕ → ℕ → Mat 𝓝 → Act 𝓝

-- on qubits below n, and on two different ones
abbrev pub Fits : {𝓝 : Ops} → ℕ → Act 𝓝 → Type 0
Fits n (one q u) = q < n
Fits n (two p q u) = (p < n) × (q < n) × (p ≢ q)

module _ {𝓝 : Ops} {below : 𝓝.N → Bool} (𝓔 : Exact 𝓝 below) {n : ℕ} {𝓐 : Ops} (𝓠 : Operators 𝓝 𝓔.i n 𝓐) where
  -- its operator
  abbrev pub operator : Act 𝓝 → 𝓐.N
  operator (one q u) = on_one 𝓔 𝓠 q u
  operator (two p q u) = placed 𝓔 𝓠 p q u

  -- U: the later gate stands on the left
  unfoldable pub forth : List (Act 𝓝) → 𝓐.N
  forth [] = 𝓐.one
  forth (g ∷ gs) = 𝓐.mul (forth gs) (operator g)

module _ {𝓝 : Ops} {below : 𝓝.N → Bool} (𝓔 : Exact 𝓝 below) (𝓙 : Conjugate 𝓝 𝓔.i) {n : ℕ} {𝓐 : Ops} (𝓠 : Operators 𝓝 𝓔.i n 𝓐) where
  -- the operator of its adjoint
  abbrev pub reverse : Act 𝓝 → 𝓐.N
  reverse (one q u) = on_one 𝓔 𝓠 q (adjoint 𝓙 u)
  reverse (two p q u) = placed 𝓔 𝓠 p q (adjoint 𝓙 u)

  -- U*
  unfoldable pub back : List (Act 𝓝) → 𝓐.N
  back [] = 𝓐.one
  back (g ∷ gs) = 𝓐.mul (reverse g) (back gs)

  -- U* a U
  abbrev pub conjugated : List (Act 𝓝) → 𝓐.N → 𝓐.N
  conjugated gs a = 𝓐.mul (back gs) (𝓐.mul a (forth 𝓔 𝓠 gs))
