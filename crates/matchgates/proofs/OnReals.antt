-- THE ENGINE ON REAL NUMBERS, with its own elimination or the textbook's determinants: it is the engine on pairs. Assumes nothing.
use mathlib.Core.Path.{◌≡◌, refl, sym, ap, ◌∙◌}
use mathlib.Core.Bool.{Bool}
use mathlib.Core.List.{List, [], ◌∷◌, map}
use Prim.Native.Nat.{ℕ, ◌+◌, ◌*◌}
use Rattle.rings.specs.Rings.{Ops}
use Rattle.formulas.specs.Numbers.{Tests, Divides}
use Rattle.formulas.specs.Engine.{Local, State, Item, applied, interaction, each, run, vacuum, get}
use Rattle.formulas.specs.Determinants.{odd, own_odd}
use Rattle.formulas.specs.Pfaffians.{up}
use Rattle.angles.specs.Qubits.{Operators}
use Rattle.matchgates.specs.Gates.{Gate, computed, expected, RightEntries}
use Rattle.matchgates.specs.Fused.{fusion_gate}
use Rattle.matchgates.specs.Complex.{complex, flat, Real}
use Rattle.matchgates.specs.OnReals.{in_words, real_state, RealRuns, EveryRealGate, EveryRealCircuit, RealPfaffians, ExactPairs, RealTheorem}
use Rattle.rings.proofs.Rings.{neg-zero}
use Rattle.angles.proofs.OwnOdd.{own-maps, two-or-four}
use Rattle.angles.proofs.OwnPfaffian.{pfaffian-by-elimination}
use Rattle.matchgates.proofs.Complex.{flat-add, flats, exact, conjugate}
use Rattle.matchgates.proofs.Words.{in-words}
use Rattle.matchgates.proofs.Gates.{every-gate}
use Rattle.matchgates.proofs.Compiled.{every-circuit}
use Rattle.matchgates.proofs.Embeds.{Embeds, lift_map, det-to, run-to, vacuum-to, get-to, pfaffian-to}

module _ {𝓡 : Ops} {below : 𝓡.N → Bool} (𝓕 : Real 𝓡 below) where
  abbrev ℂ : Ops
  ℂ = complex 𝓡

  abbrev negative : ℂ.N → Bool
  negative s = below s.re

  pub flat-embeds : Embeds 𝓡 ℂ (flat 𝓡)
  flat-embeds = record {
    zero-to = refl;
    one-to = refl;
    add-to = flat-add 𝓕;
    mul-to = λ s t. sym (flats 𝓕 s t);
    neg-to = λ s. λ i. record { re = 𝓡.neg s; im = sym (neg-zero 𝓕.laws.ring) i };
  }

  module _ {𝓣 : Tests 𝓡} (𝓥 : Divides 𝓡 𝓣) (n : ℕ) where
    abbrev Gates : Type 0
    Gates = List (Item (Gate (exact 𝓕) (conjugate 𝓕) n))

    abbrev real : Gate (exact 𝓕) (conjugate 𝓕) n → Local 𝓡
    real = in_words 𝓣 below (exact 𝓕) (conjugate 𝓕)

    -- the maps
    lifted : (g : Gate (exact 𝓕) (conjugate 𝓕) n) → lift_map (flat 𝓡) flat-embeds (real g) ≡ computed g
    lifted g = λ i. record { start = 2 * g.start; width = 2 * g.modes; map = λ r c. (in-words 𝓕 𝓥).in-map g.modes g.few g.matrix r c i }

    all-lifted : (gs : Gates) → map (each (lift_map (flat 𝓡) flat-embeds)) (map (each real) gs) ≡ map (each computed) gs
    all-lifted [] = refl
    all-lifted (applied g ∷ gs) = λ i. applied (lifted g i) ∷ all-lifted gs i
    all-lifted (interaction ∷ gs) = ap (λ os. interaction ∷ os) (all-lifted gs)

    -- the determinants
    pair-odd : (o : Local 𝓡) → odd ℂ negative (lift_map (flat 𝓡) flat-embeds o) ≡ odd 𝓡 below o
    pair-odd o = ap negative (sym (det-to (flat 𝓡) flat-embeds o.width o.map))

    real-run : (gs : Gates) (r c : ℕ) → flat 𝓡 (get 𝓡 (real_state 𝓣 below (exact 𝓕) (conjugate 𝓕) (odd 𝓡 below) gs) r c)
        ≡ get ℂ (run ℂ negative (odd ℂ negative) (map (each computed) gs) (vacuum ℂ)) r c
    real-run gs r c =
        get-to (flat 𝓡) flat-embeds (real_state 𝓣 below (exact 𝓕) (conjugate 𝓕) (odd 𝓡 below) gs) r c
        ∙ ap (λ t. get ℂ t r c)
        (run-to (flat 𝓡) flat-embeds below negative (λ s. refl) (odd 𝓡 below) (odd ℂ negative) pair-odd (map (each real) gs) (vacuum 𝓡)
        ∙ (λ i. run ℂ negative (odd ℂ negative) (all-lifted gs i) (vacuum-to (flat 𝓡) flat-embeds i)))

    -- ---- the engine's own elimination

    own-run : (gs : Gates) (t : State 𝓡)
        → run 𝓡 below (odd 𝓡 below) (map (each real) gs) t ≡ run 𝓡 below (own_odd 𝓡 𝓣 below) (map (each real) gs) t
    own-run = own-maps 𝓕.laws 𝓥 real (λ g. two-or-four g.modes g.few) below

    own-real-run : (gs : Gates) (r c : ℕ) → flat 𝓡 (get 𝓡 (real_state 𝓣 below (exact 𝓕) (conjugate 𝓕) (own_odd 𝓡 𝓣 below) gs) r c)
        ≡ get ℂ (run ℂ negative (odd ℂ negative) (map (each computed) gs) (vacuum ℂ)) r c
    own-real-run gs r c = ap (λ t. flat 𝓡 (get 𝓡 t r c)) (sym (own-run gs (vacuum 𝓡))) ∙ real-run gs r c

  -- THE REAL ENGINE IS THE ENGINE ON PAIRS
  module _ {𝓣 : Tests 𝓡} (𝓥 : Divides 𝓡 𝓣) where
    pub real-runs : RealRuns 𝓣 below (exact 𝓕) (conjugate 𝓕) (odd 𝓡 below) (odd ℂ negative)
    real-runs n gs = real-run 𝓥 n gs

    pub own-real-runs : RealRuns 𝓣 below (exact 𝓕) (conjugate 𝓕) (own_odd 𝓡 𝓣 below) (odd ℂ negative)
    own-real-runs n gs = own-real-run 𝓥 n gs

    -- so what is right of that one is right of this
    of-pairs : (asked : Local 𝓡 → Bool) → RealRuns 𝓣 below (exact 𝓕) (conjugate 𝓕) asked (odd ℂ negative)
        → {n : ℕ} {𝓐 : Ops} (𝓠 : Operators ℂ (exact 𝓕).i n 𝓐) → EveryRealGate 𝓣 below (exact 𝓕) (conjugate 𝓕) 𝓠 asked
    of-pairs asked same {n = n} 𝓠 gs = record {
      covariance = λ r c hr hc d. same n gs r c ∙ known.covariance r c hr hc d;
      diagonal = λ r h. ap (λ s. s.re) (same n gs r r ∙ known.diagonal r h);
      parity = λ k h. same n gs (2 * k) (2 * k + 1) ∙ known.parity k h;
    }
      where
        known : RightEntries ℂ (λ s. s) 𝓠 (get ℂ (run ℂ negative (odd ℂ negative) (map (each computed) gs) (vacuum ℂ))) (expected (exact 𝓕) (conjugate 𝓕) 𝓠 gs)
        known = every-gate (exact 𝓕) (conjugate 𝓕) 𝓠 gs

    -- THE ANGLE THEOREM FOR GATES, in real numbers
    pub every-real-gate : {n : ℕ} {𝓐 : Ops} (𝓠 : Operators ℂ (exact 𝓕).i n 𝓐) → EveryRealGate 𝓣 below (exact 𝓕) (conjugate 𝓕) 𝓠 (odd 𝓡 below)
    every-real-gate = of-pairs (odd 𝓡 below) real-runs

    pub every-real-gate-by-elimination : {n : ℕ} {𝓐 : Ops} (𝓠 : Operators ℂ (exact 𝓕).i n 𝓐)
        → EveryRealGate 𝓣 below (exact 𝓕) (conjugate 𝓕) 𝓠 (own_odd 𝓡 𝓣 below)
    every-real-gate-by-elimination = of-pairs (own_odd 𝓡 𝓣 below) own-real-runs

    -- and circuits
    pub every-real-circuit : {n : ℕ} {𝓐 : Ops} (𝓠 𝓦 : Operators ℂ (exact 𝓕).i n 𝓐)
        → EveryRealCircuit 𝓣 below (exact 𝓕) (conjugate 𝓕) 𝓠 𝓦 (own_odd 𝓡 𝓣 below)
    every-real-circuit {n = n} 𝓠 𝓦 gs hs bs l m c q h =
        own-real-runs n (map (each fusion_gate) bs) (2 * m q) (2 * m q + 1)
        ∙ (every-circuit (exact 𝓕) (conjugate 𝓕) 𝓠 𝓦 gs hs bs l m c).parity q h

    -- Pfaffians
    pub real-pfaffians : RealPfaffians 𝓡 𝓣
    real-pfaffians dim most a t l =
        ap (flat 𝓡) (pfaffian-by-elimination 𝓕.laws 𝓥 dim most a t l) ∙ pfaffian-to (flat 𝓡) flat-embeds a most (up 0 dim)

abbrev pub exact-pairs : {𝓡 : Ops} {below : 𝓡.N → Bool} (𝓕 : Real 𝓡 below) → ExactPairs 𝓕
exact-pairs 𝓕 = record { exact = exact 𝓕; i-is = refl; half-is = refl; conjugate = conjugate 𝓕; conj-is = λ s. refl }

pub real-theorem : RealTheorem
real-theorem 𝓡 below 𝓕 = (
  exact-pairs 𝓕,
  λ 𝓣 𝓥. record {
    runs = own-real-runs 𝓕 𝓥;
    gates = every-real-gate-by-elimination 𝓕 𝓥;
    circuits = every-real-circuit 𝓕 𝓥;
    pfaffians = real-pfaffians 𝓕 𝓥;
  },
)
