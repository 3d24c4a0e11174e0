-- The bounds of the printing program, each named once. Assumes nothing. A public promise rests on this.
use Rattle.std.specs.Prelude.{ℕ}

-- "over 60,000 bytes"
abbrev pub max_tape : ℕ
max_tape = 60000

-- "over 32 gates or 8 qubits": the most that are printed
abbrev pub printed_gates : ℕ
printed_gates = 32

abbrev pub printed_qubits : ℕ
printed_qubits = 8

-- what is written at most, in bytes: line 1, line 2, the q lines, and a whole text
abbrev pub max_report_line : ℕ
max_report_line = 95

abbrev pub max_order_line : ℕ
max_order_line = 63

abbrev pub max_z_lines : ℕ
max_z_lines = 96

abbrev pub max_text : ℕ
max_text = 256
