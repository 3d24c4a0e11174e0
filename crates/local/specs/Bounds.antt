-- The size of a state's slice, named once. Assumes nothing. A public promise rests on this.
use Rattle.std.specs.Prelude.{ℕ, ◌*◌, ◌+◌}

-- places of a state with dim rows: "matrix m by rows, then signs d" (question 15), which is 4n² + 2n
abbrev pub state_places : ℕ → ℕ
state_places dim = dim * dim + dim
