-- THE ENGINE ON REAL NUMBERS: its state, maps and determinants are real, and its maps are computed from complex matrices in its own words. So what it has is
-- what quantum mechanics has, with no imaginary part. Definitions only. A public promise rests on this.
use Rattle.std.specs.Prelude.{◌≡◌, Bool, List, map, ℕ, ◌+◌, ◌*◌, ◌≤◌, ◌<◌}
use Rattle.rings.specs.Rings.{Ops}
use Rattle.formulas.specs.Numbers.{Exact, Tests, Divides}
use Rattle.formulas.specs.Engine.{Mat, Local, State, Item, each, run, vacuum, get}
use Rattle.formulas.specs.Determinants.{odd, own_odd}
use Rattle.formulas.specs.Pfaffians.{pfaffian, up, own_pfaffian, Alternating}
use Rattle.angles.specs.Qubits.{z, Operators}
use Rattle.matchgates.specs.Maps.{Conjugate}
use Rattle.matchgates.specs.Gates.{Gate, computed, expected, RightEntries}
use Rattle.matchgates.specs.Complex.{complex, flat, Real}
use Rattle.matchgates.specs.Words as Words
use Rattle.matchgates.specs.Circuits.{conjugated}
use Rattle.matchgates.specs.Fused.{Fusion, fusion_gate}
use Rattle.matchgates.specs.Renamed.{Step, meant}
use Rattle.matchgates.specs.Compiled.{Compiled}

module _ {𝓡 : Ops} (𝓣 : Tests 𝓡) (below : 𝓡.N → Bool) (𝓔 : Exact (complex 𝓡) (λ s. below s.re)) (𝓙 : Conjugate (complex 𝓡) 𝓔.i) where
  module _ {n : ℕ} where
    -- to the engine: the map in its own words
    abbrev pub in_words : Gate 𝓔 𝓙 n → Local 𝓡
    in_words g = record { start = 2 * g.start; width = 2 * g.modes; map = Words.entry_of 𝓡 𝓣 g.modes g.matrix }

    -- the state after a list of gates
    abbrev pub real_state : (Local 𝓡 → Bool) → List (Item (Gate 𝓔 𝓙 n)) → State 𝓡
    real_state odd gs = run 𝓡 below odd (map (each in_words) gs) (vacuum 𝓡)

  -- THE STATEMENT: it is the engine on pairs, whose determinants are the textbook's; so all that is said of that one is said of this
  abbrev pub RealRuns : (Local 𝓡 → Bool) → (Local (complex 𝓡) → Bool) → Type 0
  RealRuns odd odd' = (n : ℕ) (gs : List (Item (Gate 𝓔 𝓙 n))) (r c : ℕ)
      → flat 𝓡 (get 𝓡 (real_state odd gs) r c) ≡ get (complex 𝓡) (run (complex 𝓡) (λ s. below s.re) odd' (map (each computed) gs) (vacuum (complex 𝓡))) r c

  module _ {n : ℕ} {𝓐 : Ops} (𝓠 : Operators (complex 𝓡) 𝓔.i n 𝓐) where
    -- THE STATEMENT: from complex matrices to the real covariance
    abbrev pub EveryRealGate : (Local 𝓡 → Bool) → Type 0
    EveryRealGate odd = (gs : List (Item (Gate 𝓔 𝓙 n))) → RightEntries 𝓡 (flat 𝓡) 𝓠 (get 𝓡 (real_state odd gs)) (expected 𝓔 𝓙 𝓠 gs)

-- THE STATEMENT on Pfaffians: the engine's own, of a real alternating matrix, is the textbook's of the same matrix of pairs
abbrev pub RealPfaffians : (𝓡 : Ops) → Tests 𝓡 → Type 0
RealPfaffians 𝓡 𝓣 = (dim most : ℕ) (a : Mat 𝓡) → Alternating 𝓡 dim a → dim ≤ most
    → flat 𝓡 (own_pfaffian 𝓡 𝓣 dim a) ≡ pfaffian (complex 𝓡) (λ r c. flat 𝓡 (a r c)) most (up 0 dim)

-- THE STATEMENT on circuits: the parity of each qubit, from the real engine
module _ {𝓡 : Ops} (𝓣 : Tests 𝓡) (below : 𝓡.N → Bool) (𝓔 : Exact (complex 𝓡) (λ s. below s.re)) (𝓙 : Conjugate (complex 𝓡) 𝓔.i) where
  abbrev pub EveryRealCircuit : {n : ℕ} {𝓐 : Ops} (𝓠 𝓦 : Operators (complex 𝓡) 𝓔.i n 𝓐) → (Local 𝓡 → Bool) → Type 0
  EveryRealCircuit {n} 𝓠 𝓦 odd = (gs hs : List (Step (complex 𝓡))) (bs : List (Item (Fusion 𝓔 𝓙 n))) (l m : ℕ → ℕ) → Compiled 𝓔 𝓙 𝓠 𝓦 gs hs bs l m
      → (q : ℕ) → q < n
      → flat 𝓡 (get 𝓡 (real_state 𝓣 below 𝓔 𝓙 odd (map (each fusion_gate) bs)) (2 * m q) (2 * m q + 1))
      ≡ 𝓠.vac (conjugated 𝓔 𝓙 𝓠 (map meant gs) (𝓠.pauli z q))

-- pairs are exact numbers: with this i, this half and this conjugate
pub record ExactPairs {𝓡 : Ops} {below : 𝓡.N → Bool} (𝓕 : Real 𝓡 below) : Type 0 where
  pub exact : Exact (complex 𝓡) (λ s. below s.re)
  pub i-is : exact.i ≡ record { re = 𝓡.zero; im = 𝓡.one }
  pub half-is : exact.half ≡ flat 𝓡 𝓕.half
  pub conjugate : Conjugate (complex 𝓡) exact.i
  pub conj-is : (s : (complex 𝓡).N) → conjugate.conj s ≡ record { re = s.re; im = 𝓡.neg s.im }

-- THE WHOLE STATEMENT: over all real numbers that divide, of the engine with its own elimination
pub record RealEngine {𝓡 : Ops} {below : 𝓡.N → Bool} {𝓕 : Real 𝓡 below} (𝓟 : ExactPairs 𝓕) (𝓣 : Tests 𝓡) : Type 1 where
  pub runs : RealRuns 𝓣 below 𝓟.exact 𝓟.conjugate (own_odd 𝓡 𝓣 below) (odd (complex 𝓡) (λ s. below s.re))
  pub gates : {n : ℕ} {𝓐 : Ops} (𝓠 : Operators (complex 𝓡) 𝓟.exact.i n 𝓐) → EveryRealGate 𝓣 below 𝓟.exact 𝓟.conjugate 𝓠 (own_odd 𝓡 𝓣 below)
  pub circuits : {n : ℕ} {𝓐 : Ops} (𝓠 𝓦 : Operators (complex 𝓡) 𝓟.exact.i n 𝓐) → EveryRealCircuit 𝓣 below 𝓟.exact 𝓟.conjugate 𝓠 𝓦 (own_odd 𝓡 𝓣 below)
  pub pfaffians : RealPfaffians 𝓡 𝓣

abbrev pub RealTheorem : Type 1
RealTheorem = (𝓡 : Ops) (below : 𝓡.N → Bool) (𝓕 : Real 𝓡 below) → (𝓟 : ExactPairs 𝓕) × ((𝓣 : Tests 𝓡) → Divides 𝓡 𝓣 → RealEngine 𝓟 𝓣)
