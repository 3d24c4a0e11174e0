-- THE ANGLE THEOREM FOR GATES: a gate is a block, and its map is what the engine computes from its matrix. Assumes nothing.
use mathlib.Core.Path.{◌≡◌, refl, sym, ap, subst, ◌∙◌}
use mathlib.Core.Logic.{◌⊎◌, inl, inr, ◌≢◌}
use mathlib.Core.Bool.{Bool}
use mathlib.Core.List.{List, [], ◌∷◌, map}
use Prim.Native.Nat.{ℕ, ◌+◌, ◌*◌, ◌≤◌, ◌<◌}
use native.Mathlib.Omega.{arith}
use Rattle.rings.specs.Rings.{Ops}
use Rattle.formulas.specs.Numbers.{Exact, Tests, Divides}
use Rattle.formulas.specs.Engine.{Mat, Local, Item, applied, interaction, each, run, vacuum, get}
use Rattle.formulas.specs.Determinants.{odd, own_odd}
use Rattle.angles.specs.Qubits.{z, Operators}
use Rattle.angles.specs.Angles.{Block, operation, pulled, entry_of, Right, EveryAngle, state_after}
use Rattle.matchgates.specs.Matrices.{product, identity}
use Rattle.matchgates.specs.Maps.{Conjugate, adjoint, map_of}
use Rattle.matchgates.specs.Gates.{Gate, computed, on, through, expected, RightEntries, EveryGate, GateTheorem}
use Rattle.angles.proofs.Runs.{every-angle}
use Rattle.angles.proofs.OwnOdd.{every-angle-by-elimination}
use Rattle.matchgates.proofs.Realises.{Realises, realises}
use Rattle.matchgates.proofs.Maps.{maps, exactly-matchgates}

module _ {𝓝 : Ops} {below : 𝓝.N → Bool} (𝓔 : Exact 𝓝 below) (𝓙 : Conjugate 𝓝 𝓔.i) {n : ℕ} {𝓐 : Ops} (𝓠 : Operators 𝓝 𝓔.i n 𝓐) where
  open 𝓐 use {N, one as 𝟙, mul as ◌⋆◌}

  infixl 70 ◌⋆◌
  abbrev On : ℕ → ℕ → Mat 𝓝 → N
  On = on 𝓔 𝓠

  unfoldable pub block : Gate 𝓔 𝓙 n → Block 𝓠
  block g = record {
    start = g.start;
    modes = g.modes;
    few = g.few;
    fits = g.fits;
    u = On g.modes g.start g.matrix;
    v = On g.modes g.start (adjoint 𝓙 g.matrix);
    vu = inverse (adjoint 𝓙 g.matrix) g.matrix g.unitary.after-u;
    uv = inverse g.matrix (adjoint 𝓙 g.matrix) g.unitary.before-u;
    own = λ p j h d. 𝓡.commutes (𝓠.pauli p j) (λ q m l e. 𝓠.apart p q j m h (omega (arith, e, g.fits)) (by j m l e d)) g.matrix;
    map = map_of 𝓔 𝓙 g.modes g.matrix;
    sends = maps 𝓔 𝓙 𝓠 g.modes g.start (On g.modes g.start) 𝓡 g.fits g.matrix g.still;
  }
    where
      𝓡 : Realises 𝓔 𝓠 g.modes g.start (On g.modes g.start)
      𝓡 = realises 𝓔 𝓠 g.modes g.start g.few g.fits

      inverse : (u v : Mat 𝓝) → ((r c : ℕ) → r < 2 * g.modes → c < 2 * g.modes → product 𝓝 (2 * g.modes) u v r c ≡ identity 𝓝 r c)
          → On g.modes g.start u ⋆ On g.modes g.start v ≡ 𝟙
      inverse u v e = sym (𝓡.times u v) ∙ 𝓡.same (product 𝓝 (2 * g.modes) u v) (identity 𝓝) e ∙ 𝓡.whole

      by : (j m : ℕ) → g.start ≤ m → m < g.start + g.modes → (j < g.start) ⊎ (g.start + g.modes ≤ j) → j ≢ m
      by j m l e (inl d) = omega arith
      by j m l e (inr d) = omega arith

  abbrev pub blocks : List (Item (Gate 𝓔 𝓙 n)) → List (Item (Block 𝓠))
  blocks = map (each block)

  pub operations : (gs : List (Item (Gate 𝓔 𝓙 n))) → map (each (operation 𝓠)) (blocks gs) ≡ map (each computed) gs
  unfolding block
  operations [] = refl
  operations (applied g ∷ gs) = ap (λ os. applied (computed g) ∷ os) (operations gs)
  operations (interaction ∷ gs) = ap (λ os. interaction ∷ os) (operations gs)

  pub pulled-through : (gs : List (Item (Gate 𝓔 𝓙 n))) (a : N) → pulled 𝓠 (blocks gs) a ≡ through 𝓔 𝓙 𝓠 gs a
  unfolding block pulled through
  pulled-through [] a = refl
  pulled-through (applied g ∷ gs) a =
      ap (λ b. On g.modes g.start (adjoint 𝓙 g.matrix) ⋆ (b ⋆ On g.modes g.start g.matrix)) (pulled-through gs a)
  pulled-through (interaction ∷ gs) a = pulled-through gs a

  -- an engine that is right for every list of blocks is right for every list of gates
  of-blocks : (asked : Local 𝓝 → Bool) → EveryAngle 𝓔 𝓠 asked → EveryGate 𝓔 𝓙 𝓠 asked
  of-blocks asked every gs = subst (λ os. RightEntries 𝓝 (λ s. s) 𝓠 (get 𝓝 (run 𝓝 below asked os (vacuum 𝓝))) (expected 𝓔 𝓙 𝓠 gs)) (operations gs) right
    where
      known : Right 𝓠 (blocks gs) (state_after 𝓔 𝓠 asked (blocks gs))
      known = every (blocks gs)

      right : RightEntries 𝓝 (λ s. s) 𝓠 (get 𝓝 (state_after 𝓔 𝓠 asked (blocks gs))) (expected 𝓔 𝓙 𝓠 gs)
      right = record {
        covariance = λ r c hr hc d. known.covariance r c hr hc d ∙ ap 𝓠.vac (pulled-through gs (entry_of 𝓠 r c));
        diagonal = known.diagonal;
        parity = λ k h. known.parity k h ∙ ap 𝓠.vac (pulled-through gs (𝓠.pauli z k));
      }

  -- with the textbook's determinant
  pub every-gate : EveryGate 𝓔 𝓙 𝓠 (odd 𝓝 below)
  every-gate = of-blocks (odd 𝓝 below) (every-angle 𝓔 𝓠)

  -- and with the engine's elimination
  pub every-gate-by-elimination : {𝓣 : Tests 𝓝} → Divides 𝓝 𝓣 → EveryGate 𝓔 𝓙 𝓠 (own_odd 𝓝 𝓣 below)
  every-gate-by-elimination {𝓣} 𝓥 = of-blocks (own_odd 𝓝 𝓣 below) (every-angle-by-elimination 𝓥 𝓔 𝓠)

pub gate-theorem : GateTheorem
gate-theorem = record { gates = λ 𝓥 𝓔 𝓙 𝓠. every-gate-by-elimination 𝓔 𝓙 𝓠 𝓥; matrices = λ 𝓔 𝓙 𝓠. exactly-matchgates 𝓔 𝓙 𝓠 }
