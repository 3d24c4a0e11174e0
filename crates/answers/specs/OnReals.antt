-- WHAT QUERIES ANSWER ON REAL NUMBERS. The engine's covariance, its eliminations and its answers are real, and its maps are computed from complex matrices in
-- its own words. Each answer is the value that quantum mechanics gives, with no imaginary part: after every list of gates, and after every circuit.
-- Definitions only. A public promise rests on this.
use Rattle.std.specs.Prelude.{◌≡◌, Bool, true, List, map, ℕ}
use Rattle.laws.specs.Tables.{mode_at}
use Rattle.rings.specs.Rings.{Ops}
use Rattle.formulas.specs.Numbers.{Exact, Tests, Divides}
use Rattle.formulas.specs.Engine.{Local, Item, each, get}
use Rattle.formulas.specs.Determinants.{own_odd}
use Rattle.angles.specs.Qubits.{Operators}
use Rattle.matchgates.specs.Maps.{Conjugate}
use Rattle.matchgates.specs.Gates.{Gate, expected}
use Rattle.matchgates.specs.Complex.{complex, flat, Real}
use Rattle.matchgates.specs.Circuits.{conjugated}
use Rattle.matchgates.specs.Fused.{Fusion, fusion_gate}
use Rattle.matchgates.specs.Renamed.{Step, meant}
use Rattle.matchgates.specs.Compiled.{Compiled}
use Rattle.matchgates.specs.OnReals.{real_state, ExactPairs}
use Rattle.state.specs.Modes.{is_permutation}
use Rattle.answers.specs.Asked.{ByTable, RightAnswers}
use Rattle.answers.specs.Shots.{Draws, NotNull, RightChances}

-- THE STATEMENT, of an engine on real numbers that asks `odd` whether a determinant is below zero: after every list of gates on the modes, by their matrices,
module _ {𝓡 : Ops} {below : 𝓡.N → Bool} (𝓕 : Real 𝓡 below) (𝓣 : Tests 𝓡) (𝓔 : Exact (complex 𝓡) (λ s. below s.re)) (𝓙 : Conjugate (complex 𝓡) 𝓔.i)
    (odd : Local 𝓡 → Bool) where
  abbrev pub RealGatesRight : Type 1
  RealGatesRight = (n : ℕ) (𝓐 : Ops) (𝓠 𝓦 : Operators (complex 𝓡) 𝓔.i n 𝓐) (modes : List ℕ) → is_permutation n modes ≡ true → ByTable 𝓠 𝓦 modes
      → (gs : List (Item (Gate 𝓔 𝓙 n)))
      → RightAnswers 𝓣 𝓕.half (flat 𝓡) 𝓔 𝓠 modes (get 𝓡 (real_state 𝓣 below 𝓔 𝓙 odd gs)) (expected 𝓔 𝓙 𝓦 gs)

  -- and after every circuit that has become blocks on them: the circuit's own
  abbrev pub RealCircuitsRight : Type 1
  RealCircuitsRight = (n : ℕ) (𝓐 : Ops) (𝓠 𝓦 : Operators (complex 𝓡) 𝓔.i n 𝓐) (modes : List ℕ) → is_permutation n modes ≡ true
      → (gs hs : List (Step (complex 𝓡))) (bs : List (Item (Fusion 𝓔 𝓙 n))) (l : ℕ → ℕ) → Compiled 𝓔 𝓙 𝓠 𝓦 gs hs bs l (mode_at modes)
      → RightAnswers 𝓣 𝓕.half (flat 𝓡) 𝓔 𝓠 modes (get 𝓡 (real_state 𝓣 below 𝓔 𝓙 odd (map (each fusion_gate) bs)))
      (λ a. 𝓠.vac (conjugated 𝓔 𝓙 𝓠 (map meant gs) a))

  -- THE STATEMENT on shots, by qubits: after gates and after circuits
  module _ (𝓓 : Draws 𝓡) where
    abbrev pub RealGateShots : Type 1
    RealGateShots = NotNull 𝓣 𝓓
        → (n : ℕ) (𝓐 : Ops) (𝓠 𝓦 : Operators (complex 𝓡) 𝓔.i n 𝓐) (modes : List ℕ) → is_permutation n modes ≡ true → ByTable 𝓠 𝓦 modes
        → (gs : List (Item (Gate 𝓔 𝓙 n)))
        → RightChances 𝓣 𝓓 𝓕.half (flat 𝓡) 𝓔 𝓠 modes (get 𝓡 (real_state 𝓣 below 𝓔 𝓙 odd gs)) (expected 𝓔 𝓙 𝓦 gs)

    abbrev pub RealCircuitShots : Type 1
    RealCircuitShots = NotNull 𝓣 𝓓
        → (n : ℕ) (𝓐 : Ops) (𝓠 𝓦 : Operators (complex 𝓡) 𝓔.i n 𝓐) (modes : List ℕ) → is_permutation n modes ≡ true
        → (gs hs : List (Step (complex 𝓡))) (bs : List (Item (Fusion 𝓔 𝓙 n))) (l : ℕ → ℕ) → Compiled 𝓔 𝓙 𝓠 𝓦 gs hs bs l (mode_at modes)
        → RightChances 𝓣 𝓓 𝓕.half (flat 𝓡) 𝓔 𝓠 modes (get 𝓡 (real_state 𝓣 below 𝓔 𝓙 odd (map (each fusion_gate) bs)))
        (λ a. 𝓠.vac (conjugated 𝓔 𝓙 𝓠 (map meant gs) a))

-- THE WHOLE STATEMENT: over all real numbers that divide, of the engine with its own elimination. Exact numbers and the conjugate are pairs'
pub record RealAnswers {𝓡 : Ops} {below : 𝓡.N → Bool} {𝓕 : Real 𝓡 below} (𝓟 : ExactPairs 𝓕) (𝓣 : Tests 𝓡) : Type 1 where
  pub after-gates : RealGatesRight 𝓕 𝓣 𝓟.exact 𝓟.conjugate (own_odd 𝓡 𝓣 below)
  pub after-circuits : RealCircuitsRight 𝓕 𝓣 𝓟.exact 𝓟.conjugate (own_odd 𝓡 𝓣 below)
  pub gate-shots : (𝓓 : Draws 𝓡) → RealGateShots 𝓕 𝓣 𝓟.exact 𝓟.conjugate (own_odd 𝓡 𝓣 below) 𝓓
  pub circuit-shots : (𝓓 : Draws 𝓡) → RealCircuitShots 𝓕 𝓣 𝓟.exact 𝓟.conjugate (own_odd 𝓡 𝓣 below) 𝓓

abbrev pub RealAnswerTheorem : Type 1
RealAnswerTheorem = (𝓡 : Ops) (below : 𝓡.N → Bool) (𝓕 : Real 𝓡 below) → (𝓟 : ExactPairs 𝓕) × ((𝓣 : Tests 𝓡) → Divides 𝓡 𝓣 → RealAnswers 𝓟 𝓣)
