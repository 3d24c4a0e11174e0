-- The rows of a state, named once. Assumes nothing. A public promise rests on this.
use Rattle.std.specs.Prelude.{ℕ, ◌*◌}

-- rows of the covariance of n qubits: two Majorana operators a mode
abbrev pub dim_of : ℕ → ℕ
dim_of n = 2 * n
