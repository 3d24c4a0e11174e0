-- Laws of a map applied to the state in a slice: its phases, one after the other, are `step`, over the width of the map; and what `step` reads and
-- makes of rows below dim does not turn on the others. Assumes nothing.
use mathlib.Core.Path.{◌≡◌, refl, sym}
use mathlib.Core.Bool.{Bool, true, false, cond, ◌&&◌}
use mathlib.Core.List.{List, map}
use Prim.Native.Nat.{ℕ, ◌+◌, ◌*◌, ◌-◌, ◌≤◌, ◌<◌}
use lib.ListN.{length}
use lib.Ieee.{Float, neg, lt}
use Rattle.laws.specs.Zeros.{+0, +1, sg}
use Rattle.laws.specs.Slices.{on_part}
use Rattle.laws.specs.Matrix.{at, matrix}
use Rattle.laws.specs.Maps.{Local, inside, rows, cols}
use Rattle.laws.proofs.Maps.{rows-within, cols-within}
use Rattle.local.specs.Bounds.{state_places}
use Rattle.local.specs.State.{State, state_at, stored, Stored}
use Rattle.local.specs.Apply.{later, unsettled, settled, calm, step}
use Rattle.local.specs.Parts.{settled_state}
use Rattle.local.proofs.Stored.{Alike, is-stored, stored_is, alike_is, matrix-step, turn_step}

-- ---- the phases: settled, rows and columns, and the turn or none

module _ (is_odd : Local → Bool) (o : Local) (dim : ℕ) (s₀ s₁ s₃ : List Float) (room : state_places dim ≤ length s₀)
    (band : o.start + o.width ≤ dim)
    (e₁ : s₁ ≡ stored dim (settled_state o (state_at dim s₀)) s₀) (e₃ : s₃ ≡ matrix dim (cols o (rows o (at dim s₁))) s₁) where
  moved : Stored dim s₀ (record { m = cols o (rows o (settled o (state_at dim s₀))); d = calm o (state_at dim s₀).d }) s₃
  moved =
      matrix-step dim s₀ s₁ s₃ (settled_state o (state_at dim s₀)) (λ f. cols o (rows o f)) room
      (λ f g e. cols-within o dim band (rows o f) (rows o g) (rows-within o dim band f g e))
      (stored_is dim s₀ (settled_state o (state_at dim s₀)) s₁ room e₁) e₃

  pub step-turned : (s₄ : List Float) → is_odd o ≡ true → s₄ ≡ on_part (dim * dim + (o.start + o.width)) (dim - (o.start + o.width)) (map neg) s₃
      → s₄ ≡ stored dim (step is_odd o (state_at dim s₀)) s₀
  step-turned s₄ b e =
      is-stored dim s₀ (step is_odd o (state_at dim s₀)) s₄ room
      (alike_is dim s₀ _ (step is_odd o (state_at dim s₀)) s₄ (turn_step dim (o.start + o.width) s₀ s₃ _ room band moved s₄ e) (record {
        entries = λ r c h g. refl;
        signs = λ i h. λ z. cond (sym b z && later o i) (neg (calm o (state_at dim s₀).d i)) (calm o (state_at dim s₀).d i);
      }))

  pub step_kept : is_odd o ≡ false → s₃ ≡ stored dim (step is_odd o (state_at dim s₀)) s₀
  step_kept b =
      is-stored dim s₀ (step is_odd o (state_at dim s₀)) s₃ room
      (alike_is dim s₀ _ (step is_odd o (state_at dim s₀)) s₃ moved (record {
        entries = λ r c h g. refl;
        signs = λ i h. λ z. cond (sym b z && later o i) (neg (calm o (state_at dim s₀).d i)) (calm o (state_at dim s₀).d i);
      }))

-- ---- states that agree on dim rows still do after a step

module _ (is_odd : Local → Bool) (o : Local) (dim : ℕ) (band : o.start + o.width ≤ dim) (t u : State) (a : Alike dim t u) where
  mark-alike : (i : ℕ) → i < dim → unsettled o t.d i ≡ unsettled o u.d i
  mark-alike i h = λ z. inside o i && lt (a.signs i h z) +0

  settled-alike : (r c : ℕ) → r < dim → c < dim → settled o t r c ≡ settled o u r c
  settled-alike r c h g = λ z. sg (mark-alike r h z) (sg (mark-alike c g z) (a.entries r c h g z))

  calm-alike : (i : ℕ) → i < dim → calm o t.d i ≡ calm o u.d i
  calm-alike i h = λ z. cond (mark-alike i h z) +1 (a.signs i h z)

  pub step-alike : Alike dim (step is_odd o t) (step is_odd o u)
  step-alike = record {
    entries = cols-within o dim band (rows o (settled o t)) (rows o (settled o u)) (rows-within o dim band (settled o t) (settled o u) settled-alike);
    signs = λ i h. λ z. cond (is_odd o && later o i) (neg (calm-alike i h z)) (calm-alike i h z);
  }
