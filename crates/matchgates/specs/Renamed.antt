-- WHAT IT MEANS THAT SWAPS MAY BE RENAMINGS, in exact numbers (crate `fuse`, Relabel; crate `resolve`, `settled`): a swap only changes the slots of its two
-- qubits, a gate acts on the slots that its qubits then have, and in the place of a block u the engine may apply SWAP u and rename. An observable by qubits
-- after the circuit is one by slots after the engine's gates, with no swap left. Definitions only. A public promise rests on this.
use Rattle.std.specs.Prelude.{◌≡◌, ◌≢◌, Bool, List, [], ◌∷◌, map, ℕ, ◌<◌, get_or}
use Rattle.laws.specs.Lists.{All}
use Rattle.laws.specs.Slices.{traded}
use Rattle.laws.specs.Tables.{exchanged}
use Rattle.laws.specs.Views.{list_of}
use Rattle.rings.specs.Rings.{Ops}
use Rattle.formulas.specs.Numbers.{Exact}
use Rattle.formulas.specs.Engine.{Mat}
use Rattle.angles.specs.Qubits.{Axis, Operators}
use Rattle.matchgates.specs.Matrices.{product}
use Rattle.matchgates.specs.Maps.{Conjugate}
use Rattle.matchgates.specs.Gates.{placed}
use Rattle.matchgates.specs.Circuits.{Act, one, two, Fits, conjugated}
use Rattle.matchgates.specs.Fused.{swap}

-- the slot of a qubit
abbrev pub slot : List ℕ → ℕ → ℕ
slot lab q = get_or lab q 0

-- ---- circuits as the engine reads them

-- what stands in the circuit, and how the engine reads it
pub data Step (𝓝 : Ops) : Type 0 where
  -- a gate, on the slots of its qubits
  gate : Act 𝓝 → Step 𝓝
  -- a swap that only renames
  renaming : ℕ → ℕ → Step 𝓝
  -- a gate u: SWAP u is applied, and the qubits renamed
  swapped : ℕ → ℕ → Mat 𝓝 → Step 𝓝

module _ {𝓝 : Ops} where
  -- the gate that stands in the circuit
  abbrev pub meant : Step 𝓝 → Act 𝓝
  meant (gate g) = g
  meant (renaming p q) = two p q (swap 𝓝)
  meant (swapped p q u) = two p q u

  -- on the slots of its qubits
  abbrev pub slotted : List ℕ → Act 𝓝 → Act 𝓝
  slotted lab (one q u) = one (slot lab q) u
  slotted lab (two p q u) = two (slot lab p) (slot lab q) u

  -- the slots after a step
  abbrev pub relabelled : List ℕ → Step 𝓝 → List ℕ
  relabelled lab (gate g) = lab
  relabelled lab (renaming p q) = traded 0 p q lab
  relabelled lab (swapped p q u) = traded 0 p q lab

  unfoldable pub labels : List ℕ → List (Step 𝓝) → List ℕ
  labels lab [] = lab
  labels lab (g ∷ gs) = labels (relabelled lab g) gs

  -- the engine's gates
  unfoldable pub renamed : List ℕ → List (Step 𝓝) → List (Act 𝓝)
  renamed lab [] = []
  renamed lab (gate g ∷ gs) = slotted lab g ∷ renamed lab gs
  renamed lab (renaming p q ∷ gs) = renamed (traded 0 p q lab) gs
  renamed lab (swapped p q u ∷ gs) = two (slot lab p) (slot lab q) (product 𝓝 4 (swap 𝓝) u) ∷ renamed (traded 0 p q lab) gs

-- ---- observables

-- what Paulis of qubits and numbers make
pub data Observable (𝓝 : Ops) : Type 0 where
  pauli : Axis → ℕ → Observable 𝓝
  number : 𝓝.N → Observable 𝓝
  sum times : Observable 𝓝 → Observable 𝓝 → Observable 𝓝

-- of qubits below n
abbrev pub Within : {𝓝 : Ops} → ℕ → Observable 𝓝 → Type 0
Within n (pauli a q) = q < n
Within n (number s) = Unit {0}
Within n (sum s t) = Within n s × Within n t
Within n (times s t) = Within n s × Within n t

-- with qubit s q in the place of q
abbrev pub sent : {𝓝 : Ops} → (ℕ → ℕ) → Observable 𝓝 → Observable 𝓝
sent s (pauli a q) = pauli a (s q)
sent s (number c) = number c
sent s (sum t v) = sum (sent s t) (sent s v)
sent s (times t v) = times (sent s t) (sent s v)

-- its operator
abbrev pub seen : {𝓝 : Ops} {i : 𝓝.N} {n : ℕ} {𝓐 : Ops} → Operators 𝓝 i n 𝓐 → Observable 𝓝 → 𝓐.N
seen 𝓠 (pauli a q) = 𝓠.pauli a q
seen 𝓠 (number s) = 𝓠.num s
seen {𝓐 = 𝓐} 𝓠 (sum s t) = 𝓐.add (seen 𝓠 s) (seen 𝓠 t)
seen {𝓐 = 𝓐} 𝓠 (times s t) = 𝓐.mul (seen 𝓠 s) (seen 𝓠 t)

module _ {𝓝 : Ops} {below : 𝓝.N → Bool} (𝓔 : Exact 𝓝 below) {n : ℕ} {𝓐 : Ops} (𝓠 : Operators 𝓝 𝓔.i n 𝓐) where
  -- THE STATEMENT on SWAP: it is its own inverse, and exchanges the Paulis of its two qubits and no others; SWAP u is u and then SWAP
  pub record SwapRight (p q : ℕ) : Type 0 where
    pub twice : 𝓐.mul (placed 𝓔 𝓠 p q (swap 𝓝)) (placed 𝓔 𝓠 p q (swap 𝓝)) ≡ 𝓐.one
    pub exchanges : (a : Axis) (k : ℕ) → k < n
        → 𝓐.mul (placed 𝓔 𝓠 p q (swap 𝓝)) (𝓐.mul (𝓠.pauli a k) (placed 𝓔 𝓠 p q (swap 𝓝))) ≡ 𝓠.pauli a (exchanged p q k)
    pub after : (u : Mat 𝓝) → placed 𝓔 𝓠 p q (product 𝓝 4 (swap 𝓝) u) ≡ 𝓐.mul (placed 𝓔 𝓠 p q (swap 𝓝)) (placed 𝓔 𝓠 p q u)

  -- of any two qubits
  abbrev pub EverySwap : Type 0
  EverySwap = (p q : ℕ) → p < n → q < n → p ≢ q → SwapRight p q

-- at the start every qubit has the slot of its own number
abbrev pub start : ℕ → List ℕ
start n = list_of n (λ q. q)

-- THE STATEMENT
abbrev pub Renaming : {𝓝 : Ops} {below : 𝓝.N → Bool} (𝓔 : Exact 𝓝 below) (𝓙 : Conjugate 𝓝 𝓔.i) {n : ℕ} {𝓐 : Ops} → Operators 𝓝 𝓔.i n 𝓐 → Type 0
Renaming {𝓝} 𝓔 𝓙 {n} 𝓠 = (gs : List (Step 𝓝)) → All (λ g. Fits n (meant g)) gs → (t : Observable 𝓝) → Within n t
    → conjugated 𝓔 𝓙 𝓠 (map meant gs) (seen 𝓠 t) ≡ conjugated 𝓔 𝓙 𝓠 (renamed (start n) gs) (seen 𝓠 (sent (slot (labels (start n) gs)) t))
