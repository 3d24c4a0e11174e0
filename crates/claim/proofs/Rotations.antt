-- A diagonal block changes no bit: its rotations keep them, and so does an interaction. Assumes nothing.
use mathlib.Core.Path.{◌≡◌, sym, ◌∙◌, subst}
use mathlib.Core.Bool.{Bool, true, false, not, cond, ◌&&◌, false≢true}
use mathlib.Core.List.{[], ◌∷◌, ◌++◌}
use Prim.Native.Nat.{ℕ, ◌<◌, ◌≤◌}
use Rattle.laws.specs.Bounds.{max_qubits}
use Rattle.laws.specs.Lists.{in_order}
use Rattle.laws.specs.Phase.{Phase, i0, ◌⊕◌, minus}
use Rattle.laws.proofs.Phases.{eq_phase}
use Rattle.gate.specs.declared.complex.Complex.{Complex}
use Rattle.gate.specs.declared.matrix.Mat4.{Mat4}
use Rattle.classify.specs.Diagonal.{phase_a_of, phase_b_of, unit_of, rotation_of, rotation_map_of}
use Rattle.std.specs.Prelude.{Option, Some, None}
use Rattle.real.specs.declared.maps.Map2.{Map2}
use Rattle.monomial.specs.Groups.{Four, four, Mat4Of}
use Rattle.monomial.specs.Monomial.{IsEntry, unit, Mono4, Has4, diagonal, entries4}
use Rattle.monomial.proofs.Diagonals.{phase-a, phase-b}
use Rattle.monomial.proofs.Rotations.{rotation-is}
use Rattle.detect.specs.Emit.{rotated, rotations_of}
use Rattle.detect.specs.Operation.{interaction}
use Rattle.local.specs.State.{State}
use Rattle.basis.specs.Holds.{HoldsBits}
use Rattle.basis.proofs.Steps.{rotation-holds}
use Rattle.evolve.specs.Evolve.{evolved_from}
use Rattle.claim.proofs.Operations.{evolved-append, one-applied, interaction-applied}

-- ---- the phases of a diagonal block

-- the two phases that its rotations come from
pub record Phased (v : Mat4) : Type 0 where
  pub first : Phase
  pub second : Phase
  pub a : IsEntry (phase_a_of v) (unit first)
  pub b : IsEntry (phase_b_of v) (unit second)

pub diagonal-phased : (v : Mat4) (c : Mono4) → Has4 v c → diagonal c ≡ true → Phased v
diagonal-phased v c h d = by c.swap c.turn_a c.turn_b c.phases h d
  where
    by : (s f g : Bool) (p : Four Phase) → Mat4Of IsEntry v (entries4 s f g p) → (not s && (not f && not g)) ≡ true → Phased v
    by false false false (four k l m n) h d =
        record { first = m ⊕ minus k; second = l ⊕ minus k; a = phase-a v k l m n h; b = phase-b v k l m n h }
    by false false true p h d = absurd (false≢true d)
    by false true g p h d = absurd (false≢true d)
    by true f g p h d = absurd (false≢true d)

-- ---- rotations

module _ (n : ℕ) (few : n ≤ max_qubits) (b : ℕ → Bool) where
  rotated-holds : (k : ℕ) (z : Complex) (l : Phase) → IsEntry z (unit l) → k < n → (t : State) → HoldsBits n b t
      → HoldsBits n b (evolved_from n (rotated k (rotation_of z)) t)
  unfolding in_order
  rotated-holds k z l e lk t h =
      subst (λ (r : Option Map2). HoldsBits n b (evolved_from n (rotated k r) t)) (sym (rotation-is z l e)) (by (not (eq_phase l i0)))
    where
      by : (s : Bool) → HoldsBits n b (evolved_from n (rotated k (cond s (Some (rotation_map_of (unit_of z))) None)) t)
      by true =
          subst (HoldsBits n b) (sym (one-applied n few t k (rotation_map_of (unit_of z)) lk))
          (rotation-holds n k b t z l e lk h)
      by false = h

  module _ (i j : ℕ) (li : i < n) (lj : j < n) (v : Mat4) (p : Phased v) (t : State) (h : HoldsBits n b t) where
    pub rotations-hold : HoldsBits n b (evolved_from n (rotations_of i j v) t)
    unfolding rotations_of
    rotations-hold =
        let os = rotated i (rotation_of (phase_a_of v)) in
        subst (HoldsBits n b) (sym (evolved-append n os (rotated j (rotation_of (phase_b_of v))) t))
        (rotated-holds j (phase_b_of v) p.second p.b lj (evolved_from n os t)
        (rotated-holds i (phase_a_of v) p.first p.a li t h))

    pub interactions-hold : (block : ℕ) (w : Complex) → HoldsBits n b (evolved_from n (rotations_of i j v ++ (interaction i block j w ∷ [])) t)
    interactions-hold block w =
        subst (HoldsBits n b)
        (sym (evolved-append n (rotations_of i j v) (interaction i block j w ∷ []) t
        ∙ interaction-applied n few (evolved_from n (rotations_of i j v) t) i block j w)) rotations-hold
