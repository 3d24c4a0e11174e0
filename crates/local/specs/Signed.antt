-- The state in lent places as one value: what a function makes of it. Assumes nothing. Only inner functions rest on this.
use Rattle.std.specs.Prelude.{◌≡◌, List, Float}
use Rattle.local.specs.State.{State, state_at, stored}
use Rattle.local.specs.declared.signed.Signed.{Signed}

-- the state that t holds
abbrev pub state_of : Signed → State
state_of t = state_at t.dim t.entries.now

-- t' is t still: it has the same lent places, and as many rows
pub record Same (t t' : Signed) : Type 0 where
  pub lent : t'.entries.ghost_name ≡ t.entries.ghost_name
  pub dim : t'.dim ≡ t.dim

-- t' is t still, and holds the list xs
pub record Becomes (t t' : Signed) (xs : List Float) : Type 0 where
  pub same : Same t t'
  pub now : t'.entries.now ≡ xs

-- t' is t still, and holds the state u
abbrev pub Holds : Signed → Signed → State → Type 0
Holds t t' u = Becomes t t' (stored t.dim u t.entries.now)
