-- WHAT IT MEANS THAT THE ENGINE'S STEP IS THE FORMULA, ROUNDED: `step`, `get` and `vacuum` of crate `local`, of which `apply` is proved to be made, are those
-- of crate `formulas`, of which the angle theorem speaks, at binary64. All floats are meant, and every bit. Definitions only.
-- A public promise rests on this.
use Rattle.std.specs.Prelude.{◌≡◌, Bool}
use Rattle.laws.specs.Maps.{Local}
use Rattle.local.specs.State.{State, vacuum, get}
use Rattle.local.specs.Apply.{step}
use Rattle.formulas.specs.Engine.{Local as LocalOf, step as step_of, vacuum as vacuum_of, get as get_of}
use Rattle.rounded.specs.Floats.{floats, below_zero, as_local, as_state}

pub record RoundedSteps : Type 0 where
  -- a map applied, whatever `odd` says of it
  pub map : (odd : LocalOf floats → Bool) (o : Local) (t : State)
      → as_state (step (λ p. odd (as_local p)) o t) ≡ step_of floats below_zero odd (as_local o) (as_state t)
  -- an entry with its signs
  pub entry : (t : State) → get t ≡ get_of floats (as_state t)
  pub start : as_state vacuum ≡ vacuum_of floats
