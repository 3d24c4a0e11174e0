-- A circuit with a swap, modulo 7, that is compiled: X on qubit 0, and qubits 0 and 1 change places. The engine applies X to mode 0 and renames; it has -1 for
-- qubit 1 and 1 for qubit 0. Assumes nothing.
use mathlib.Core.Path.{◌≡◌, refl}
use mathlib.Core.Logic.{inl, ◌≢◌}
use mathlib.Core.Bool.{Bool}
use mathlib.Core.List.{List, [], ◌∷◌, map}
use Prim.Native.Nat.{ℕ, ◌+◌, ◌*◌, ◌<◌}
use native.Mathlib.Omega.{arith}
use lib.Dec.{lit<, lit≤}
use Rattle.laws.specs.Lists.{in_order}
use Rattle.laws.specs.Tables.{exchanged}
use Rattle.laws.specs.Views.{up_from}
use Rattle.rings.specs.Rings.{Ops}
use Rattle.formulas.specs.Engine.{Mat, Item, applied, each, dot, run, vacuum, get}
use Rattle.formulas.specs.Determinants.{odd}
use Rattle.angles.proofs.Matrices.{operators}
use Rattle.laws.proofs.Below.{below-two}
use Rattle.matchgates.specs.Matrices.{product, identity, mat_x}
use Rattle.matchgates.specs.Maps.{adjoint, rest, Still, Unitary}
use Rattle.matchgates.specs.Gates.{computed}
use Rattle.matchgates.specs.Complex.{complex}
use Rattle.matchgates.specs.Circuits.{one}
use Rattle.matchgates.specs.Fused.{lone, time_product, in_time, Fusion, fusion_gate}
use Rattle.matchgates.specs.Renamed.{Step, gate, renaming, slot, labels, renamed, start}
use Rattle.matchgates.specs.Regrouped.{same}
use Rattle.matchgates.specs.Compiled.{Compiled}
use Rattle.matchgates.proofs.Complex.{exact, conjugate}
use Rattle.matchgates.proofs.Seven.{mod7, minus_one, real7}

abbrev ℂ : Ops
ℂ = complex mod7

-- X, as a product of one gate
abbrev flip : Mat ℂ
flip = time_product ℂ 2 (mat_x ℂ ∷ [])

unitary : Unitary (conjugate real7) 2 flip
unfolding dot real7 in_time
unitary = record {
  after-u = λ r c hr hc.
      below-two (λ r. product ℂ 2 (adjoint (conjugate real7) flip) flip r c ≡ identity ℂ r c)
      (below-two (λ c. product ℂ 2 (adjoint (conjugate real7) flip) flip 0 c ≡ identity ℂ 0 c) refl refl c hc)
      (below-two (λ c. product ℂ 2 (adjoint (conjugate real7) flip) flip 1 c ≡ identity ℂ 1 c) refl refl c hc) r hr;
  before-u = λ r c hr hc.
      below-two (λ r. product ℂ 2 flip (adjoint (conjugate real7) flip) r c ≡ identity ℂ r c)
      (below-two (λ c. product ℂ 2 flip (adjoint (conjugate real7) flip) 0 c ≡ identity ℂ 0 c) refl refl c hc)
      (below-two (λ c. product ℂ 2 flip (adjoint (conjugate real7) flip) 1 c ≡ identity ℂ 1 c) refl refl c hc) r hr;
}

abbrev left : ℕ → Mat ℂ
left = rest (exact real7) (conjugate real7) 1 flip

still : Still (exact real7) (conjugate real7) 1 flip
unfolding dot real7 in_time
still a r c ha hr hc =
    below-two (λ a. left a r c ≡ ℂ.zero)
    (below-two (λ r. left 0 r c ≡ ℂ.zero) (below-two (λ c. left 0 0 c ≡ ℂ.zero) refl refl c hc) (below-two (λ c. left 0 1 c ≡ ℂ.zero) refl refl c hc) r hr)
    (below-two (λ r. left 1 r c ≡ ℂ.zero) (below-two (λ c. left 1 0 c ≡ ℂ.zero) refl refl c hc) (below-two (λ c. left 1 1 c ≡ ℂ.zero) refl refl c hc) r hr)
    a ha

abbrev steps : List (Step ℂ)
steps = gate (one 0 (mat_x ℂ)) ∷ renaming 0 1 ∷ []

-- the block on slots
abbrev fused : List (Step ℂ)
fused = gate (one 0 (mat_x ℂ)) ∷ []

abbrev blocks : List (Item (Fusion (exact real7) (conjugate real7) 2))
blocks =
    applied (record { start = 0; gates = lone (mat_x ℂ ∷ []); few = inl refl; fits = lit≤ tt; unitary = unitary; still = still }) ∷ []

abbrev mode : ℕ → ℕ
mode = exchanged 0 1

is-compiled : Compiled (exact real7) (conjugate real7) (operators (exact real7) 2) (operators (exact real7) 2) steps fused blocks (λ k. k) mode
unfolding renamed labels up_from
is-compiled = record {
  fits = (lit< tt, ((lit< tt, lit< tt, differ), tt));
  ordered = record { place = λ a k h. refl; number = λ s. refl; vacuum = λ a. refl };
  fusing = same;
  placing = same;
  mode = below-two (λ q. (mode q < 2) × (mode q ≡ slot (labels (start 2) fused) (slot (labels (start 2) steps) q))) (lit< tt, refl) (lit< tt, refl);
}
  where
    differ : ◌≢◌ {A = ℕ} 0 1
    differ e = absurd (omega (arith, e))

abbrev below : ℂ.N → Bool
below s = minus_one s.re

-- what the engine has of qubit q
abbrev has : ℕ → ℂ.N
has q = get ℂ (run ℂ below (odd ℂ below) (map (each computed) (map (each fusion_gate) blocks)) (vacuum ℂ)) (2 * mode q) (2 * mode q + 1)

qubit-0 : has 0 ≡ ℂ.one
unfolding dot real7 in_time in_order
qubit-0 = refl

qubit-1 : has 1 ≡ ℂ.neg ℂ.one
unfolding dot real7 in_time in_order
qubit-1 = refl
