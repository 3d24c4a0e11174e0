-- The tapes of the sign rows, byte by byte, and the gate lists that they are parsed to. Assumes nothing.
use mathlib.Core.Path.{◌≡◌, refl}
use mathlib.Core.List.{List, [], ◌∷◌}
use Prim.Native.Nat.{ℕ}
use lib.Ieee.{lt, le, of_bits}
use Rattle.laws.specs.Tests.{all_below}
use Rattle.num.specs.Bits.{le16, le32, le64}
use Rattle.named.specs.Table.{matrix1q_of, matrix2q_of}
use Rattle.tape.specs.Header.{header_at, is_tolerance, header_marked, header_of}
use Rattle.tape.specs.Codes.{qubits_of, floats_of, gate_length}
use Rattle.tape.specs.Records.{marked_at, qubits_below, qubits_differ, entries_small, gate_fault, sound, gate_record_at, record_at}
use Rattle.tape.specs.Gates.{matrix1_at, matrix2_at, gate_at}
use Rattle.tape.specs.Parse.{Content, accepted, with_gate, stepped, walk, after_header, parse}
use Rattle.rows.proofs.SignRow.{header, far_header, gates, far_gates}

-- R(a, b), and then more
abbrev r : ℕ → ℕ → List ℕ → List ℕ
r a b t = 0x51 ∷ 0x47 ∷ 0x10 ∷ a ∷ b ∷ 0x51 ∷ 0x47 ∷ 0x07 ∷ a ∷ 0x51 ∷ 0x47 ∷ 0x10 ∷ a ∷ b ∷ t

-- of n qubits: flags 0, tolerance 0, the limit in its two low bytes, and the gates
abbrev headed : ℕ → ℕ → ℕ → List ℕ → List ℕ
headed n low high t = 0x51 ∷ 0x48 ∷ n ∷ 0 ∷ 0 ∷ 0 ∷ 0 ∷ 0 ∷ 0 ∷ 0 ∷ 0 ∷ 0 ∷ low ∷ high ∷ 0 ∷ 0 ∷ 0 ∷ 0 ∷ 0 ∷ 0 ∷ t

-- X on 0, and then more
abbrev x0 : List ℕ → List ℕ
x0 t = 0x51 ∷ 0x47 ∷ 0x02 ∷ 0 ∷ t

-- n = 3, limit 288 = 32 + 256 * 1
abbrev pub tape : List ℕ
tape = headed 3 32 1 (r 1 2 (x0 (r 0 1 (r 1 2 []))))

-- n = 4, limit 512 = 0 + 256 * 2
abbrev pub far_tape : List ℕ
far_tape = headed 4 0 2 (r 2 3 (x0 (r 0 1 (r 1 2 (r 2 3 [])))))

abbrev pub content : Content
content = record { gates = gates; places = 20 ∷ 25 ∷ 29 ∷ 34 ∷ 38 ∷ 43 ∷ 47 ∷ 52 ∷ 57 ∷ 61 ∷ []; labels = [] }

abbrev pub far_content : Content
far_content = record {
  gates = far_gates;
  places = 20 ∷ 25 ∷ 29 ∷ 34 ∷ 38 ∷ 43 ∷ 47 ∷ 52 ∷ 57 ∷ 61 ∷ 66 ∷ 71 ∷ 75 ∷ [];
  labels = [];
}

pub parses : (parse tape ≡ accepted header content) × (parse far_tape ≡ accepted far_header far_content)
unfolding parse after_header header_of header_marked is_tolerance header_at le64 le32 le16 of_bits lt le walk stepped record_at marked_at gate_record_at
    qubits_of gate_length floats_of gate_fault qubits_below qubits_differ entries_small all_below sound with_gate gate_at matrix1_at matrix2_at matrix1q_of
    matrix2q_of
parses = (refl, refl)
