-- The bounds of the paper that more than one crate knows, each named once. Assumes nothing. A public promise rests on this.
use Rattle.std.specs.Prelude.{ℕ, Float}
use Rattle.std.specs.Float.{binary64}
use Rattle.std.specs.Float.Ieee.{of_bits}

-- "n at most 128" (questions 2 and 16)
abbrev pub max_qubits : ℕ
max_qubits = 128

-- "a number from 0 to 0.001" (question 3): the f64 nearest 0.001
abbrev pub max_tolerance : Float
max_tolerance = of_bits binary64 0x3f50_624d_d2f1_a9fc

-- "18 places per operation" (questions 10 and 17)
abbrev pub op_places : ℕ
op_places = 18
