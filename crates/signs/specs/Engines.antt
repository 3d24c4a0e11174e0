-- The engine's step with its two tests as parameters: which indices turn, and which are settled. With the engine's own tests it is the engine; with
-- others it is an engine that is wrong in one way. Assumes nothing. A public promise rests on this.
use Rattle.std.specs.Prelude.{Bool, false, cond, ◌&&◌, ℕ, ◌+◌, ◌*◌, leb, ltb, Float}
use Rattle.std.specs.Float.Ieee.{neg}
use Rattle.laws.specs.Zeros.{+1}
use Rattle.laws.specs.Maps.{Local, rows, cols}
use Rattle.laws.specs.Steps.{negated}
use Rattle.real.specs.Maps.{local2, local4}
use Rattle.local.specs.State.{State}
use Rattle.local.specs.Det.{odd}
use Rattle.local.specs.Apply.{later, unsettled}
use Rattle.state.specs.declared.operation.Operation.TheVariants.{One, Two, Interaction}
use Rattle.state.specs.Operation.{Engine}

abbrev pub Turns : Type 0
Turns = Local → ℕ → Bool

abbrev pub Settles : Type 0
Settles = Local → (ℕ → Float) → ℕ → Bool

abbrev pub step_with : Turns → Settles → Local → State → State
step_with turns settles o t =
    let calm : ℕ → Float = λ i. cond (settles o t.d i) +1 (t.d i) in
    record { m = cols o (rows o (negated (settles o t.d) t.m)); d = λ i. cond (odd o && turns o i) (neg (calm i)) (calm i) }

abbrev pub engine_with : Turns → Settles → Engine
engine_with turns settles (One mode q) t = step_with turns settles (local2 (2 * mode) q) t
engine_with turns settles (Two mode q) t = step_with turns settles (local4 (2 * mode) q) t
engine_with turns settles (Interaction mode block second unit) t = t

-- the engine's own tests
abbrev pub own_engine : Engine
own_engine = engine_with later unsettled

-- ---- wrong ones

-- it never turns
abbrev pub no_turn : Engine
no_turn = engine_with (λ o i. false) unsettled

-- it turns from its own rows on
abbrev pub own_turn : Engine
own_turn = engine_with (λ o i. leb o.start i) unsettled

-- it does not settle
abbrev pub no_settling : Engine
no_settling = engine_with later (λ o d i. false)

-- it turns the next mode only
abbrev pub next_turn : Engine
next_turn = engine_with (λ o i. later o i && ltb i (o.start + o.width + 2)) unsettled
