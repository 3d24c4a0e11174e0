-- How large the lent work is (question 9): "work 64(G+n) f64 and 32(G+n) u32 places", a record of so many floats and marks for each gate and each qubit.
-- Assumes nothing. A public promise rests on this.
use Rattle.std.specs.Prelude.{ℕ, ◌+◌, ◌*◌}

-- floats and marks of a record
abbrev pub record_floats : ℕ
record_floats = 64

abbrev pub record_marks : ℕ
record_marks = 32

-- places for g gates on n qubits
abbrev pub work_floats : ℕ → ℕ → ℕ
work_floats g n = record_floats * (g + n)

abbrev pub work_marks : ℕ → ℕ → ℕ
work_marks g n = record_marks * (g + n)
