-- THE THEOREM FOR CIRCUITS, in exact numbers, step by step as the engine goes: swaps rename qubits into slots; gates on slots are fused; blocks that are
-- SWAP v rename slots into wires, and diagonal ones are parted; the wires become modes in any order. What the engine then has of a qubit's mode is what the
-- circuit makes of the qubit. Definitions only. A public promise rests on this.
use Rattle.std.specs.Prelude.{◌≡◌, Bool, List, map, ℕ, ◌+◌, ◌*◌, ◌<◌}
use Rattle.laws.specs.Lists.{All}
use Rattle.rings.specs.Rings.{Ops}
use Rattle.formulas.specs.Numbers.{Exact, Tests, Divides}
use Rattle.formulas.specs.Engine.{Local, Item, each, run, vacuum, get}
use Rattle.formulas.specs.Determinants.{own_odd}
use Rattle.angles.specs.Qubits.{Axis, z, Operators}
use Rattle.matchgates.specs.Maps.{Conjugate}
use Rattle.matchgates.specs.Gates.{computed, expected}
use Rattle.matchgates.specs.Circuits.{Act, one, two, Fits, conjugated}
use Rattle.matchgates.specs.Fused.{Fusion, fusion_gate, fusions_acts}
use Rattle.matchgates.specs.Renamed.{Step, meant, slot, labels, renamed, Observable, Within, sent, seen, start}
use Rattle.matchgates.specs.Regrouped.{Alike}

-- the operators 𝓦 of the modes are those of the wires, 𝓠: mode k is the wire l k, and the vacuum is one
pub record Ordered {𝓝 : Ops} {i : 𝓝.N} {n : ℕ} {𝓐 : Ops} (𝓠 𝓦 : Operators 𝓝 i n 𝓐) (l : ℕ → ℕ) : Type 0 where
  pub place : (a : Axis) (k : ℕ) → k < n → 𝓦.pauli a k ≡ 𝓠.pauli a (l k)
  pub number : (s : 𝓝.N) → 𝓦.num s ≡ 𝓠.num s
  pub vacuum : (a : 𝓐.N) → 𝓦.vac a ≡ 𝓠.vac a

-- a gate on modes, as one on wires
abbrev pub moved : {𝓝 : Ops} → (ℕ → ℕ) → Act 𝓝 → Act 𝓝
moved l (one k u) = one (l k) u
moved l (two j k u) = two (l j) (l k) u

module _ {𝓝 : Ops} {below : 𝓝.N → Bool} (𝓔 : Exact 𝓝 below) (𝓙 : Conjugate 𝓝 𝓔.i) {n : ℕ} {𝓐 : Ops} (𝓠 𝓦 : Operators 𝓝 𝓔.i n 𝓐) where
  -- the circuit gs has become the fused blocks hs on slots, and these the blocks bs on modes; mode k is the wire l k, and qubit q ends on mode m q
  pub record Compiled (gs hs : List (Step 𝓝)) (bs : List (Item (Fusion 𝓔 𝓙 n))) (l m : ℕ → ℕ) : Type 0 where
    pub fits : All (λ g. Fits n (meant g)) gs
    pub fusing : Alike 𝓙 n (renamed (start n) gs) (map meant hs)
    pub ordered : Ordered 𝓠 𝓦 l
    pub placing : Alike 𝓙 n (renamed (start n) hs) (map (moved l) (fusions_acts bs))
    pub mode : (q : ℕ) → q < n → (m q < n) × (l (m q) ≡ slot (labels (start n) hs) (slot (labels (start n) gs) q))

  -- THE STATEMENT: every observable of the circuit is one of the blocks; and the parity of each qubit is the engine's
  pub record CircuitRight (odd : Local 𝓝 → Bool) (gs : List (Step 𝓝)) (bs : List (Item (Fusion 𝓔 𝓙 n))) (m : ℕ → ℕ) : Type 0 where
    pub observable : (t : Observable 𝓝) → Within n t
        → expected 𝓔 𝓙 𝓦 (map (each fusion_gate) bs) (seen 𝓦 (sent m t)) ≡ 𝓠.vac (conjugated 𝓔 𝓙 𝓠 (map meant gs) (seen 𝓠 t))
    pub parity : (q : ℕ) → q < n
        → get 𝓝 (run 𝓝 below odd (map (each computed) (map (each fusion_gate) bs)) (vacuum 𝓝)) (2 * m q) (2 * m q + 1)
        ≡ 𝓠.vac (conjugated 𝓔 𝓙 𝓠 (map meant gs) (𝓠.pauli z q))

  -- whatever the circuit and the blocks
  abbrev pub EveryCircuit : (Local 𝓝 → Bool) → Type 0
  EveryCircuit odd = (gs hs : List (Step 𝓝)) (bs : List (Item (Fusion 𝓔 𝓙 n))) (l m : ℕ → ℕ) → Compiled gs hs bs l m → CircuitRight odd gs bs m

-- THE WHOLE STATEMENT: over all exact numbers that divide, of the engine with its own elimination
abbrev pub CircuitTheorem : Type 1
CircuitTheorem = (𝓝 : Ops) (𝓣 : Tests 𝓝) → Divides 𝓝 𝓣 → (below : 𝓝.N → Bool) (𝓔 : Exact 𝓝 below) (𝓙 : Conjugate 𝓝 𝓔.i) (n : ℕ) (𝓐 : Ops)
    (𝓠 𝓦 : Operators 𝓝 𝓔.i n 𝓐) → EveryCircuit 𝓔 𝓙 𝓠 𝓦 (own_odd 𝓝 𝓣 below)
