-- Laws of an operation applied to the state in a slice: what `effect` reads and makes of rows below dim does not turn on the others, and one operation
-- after another is one effect after another. Assumes nothing.
use Rattle.std.proofs.Common.{◌≡◌, ℕ, ◌*◌, ◌≤◌, List, length, refl, arith}
use lib.Ieee.{Float}
use Rattle.real.specs.Maps.{local2, local4}
use Rattle.local.specs.Bounds.{state_places}
use Rattle.local.specs.State.{State, state_at, stored}
use Rattle.local.specs.Det.{odd}
use Rattle.local.proofs.Stored.{Alike, is-stored, stored_is, is-then, alike_is, read_back}
use Rattle.local.proofs.Steps.{step-alike}
use Rattle.state.specs.Bounds.{dim_of}
use Rattle.state.specs.Operation.{effect, applied, Fits}
use Rattle.state.specs.declared.operation.Operation.{Operation}
use Rattle.state.specs.declared.operation.Operation.TheVariants.{One, Two, Interaction}

-- ---- states that agree on dim rows still do after an operation

pub effect-alike : (n : ℕ) (o : Operation) → Fits n o → (t u : State) → Alike (dim_of n) t u → Alike (dim_of n) (effect o t) (effect o u)
unfolding effect Fits
effect-alike n (One mode q) f t u a = step-alike odd (local2 (2 * mode) q) (dim_of n) (omega arith) t u a
effect-alike n (Two mode q) f t u a = step-alike odd (local4 (2 * mode) q) (dim_of n) (omega arith) t u a
effect-alike n (Interaction mode block second unit) f t u a = a

-- ---- one operation after another: of the slices, so of the states

pub applied-more : (n : ℕ) (o : Operation) (t : State) (s₀ s : List Float) → state_places (dim_of n) ≤ length s₀ → Fits n o
    → s ≡ stored (dim_of n) t s₀ → applied n o s ≡ stored (dim_of n) (effect o t) s₀
applied-more n o t s₀ s room f e =
    let dim = dim_of n in
    let w = stored_is dim s₀ t s room e in
    let w' = stored_is dim s (effect o (state_at dim s)) (applied n o s) (omega (arith, w.long)) refl in
    is-stored dim s₀ (effect o t) (applied n o s) room
    (alike_is dim s₀ (effect o (state_at dim s)) (effect o t) (applied n o s)
    (is-then dim s₀ s (applied n o s) t (effect o (state_at dim s)) w w')
    (effect-alike n o f (state_at dim s) t (read_back dim s₀ t s w)))
