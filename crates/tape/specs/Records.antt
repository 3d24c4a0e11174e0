-- One record: what stands at an offset of the tape, by the questions 4 to 8 in their order. n is the header's, g the number of gates before the
-- record. Assumes nothing. A public promise rests on this.
use Rattle.std.specs.Prelude.{ℕ, ◌+◌, ◌*◌, ◌-◌, Bool, true, false, cond, not, ◌&&◌, List, ltb, leb, eqb, length, Float}
use Rattle.std.specs.Float.Ieee.{le}
use Rattle.laws.specs.Tests.{all_below}
use Rattle.num.specs.Bits.{byte_at, f64_at}
use Rattle.num.specs.Order.{abs_of}
use Rattle.tape.specs.Bounds.{max_gates, max_label, max_entry, mark_byte, gate_mark, label_mark, leading}
use Rattle.tape.specs.Codes.{qubits_of, floats_of, gate_length}
use Rattle.tape.specs.Step.{Step}
use Rattle.tape.specs.Step.{Gate, Label, End, Refused}

-- "Every record begins with a two-byte mark": 51 and k stand at i
unfoldable pub marked_at : List ℕ → ℕ → ℕ → Bool
marked_at t i k = cond (ltb (length t - i) 2) false (eqb (byte_at t i) mark_byte && eqb (byte_at t (i + 1)) k)

-- ---- a gate

-- its code
abbrev pub code_at : List ℕ → ℕ → ℕ
code_at t i = byte_at t (i + 2)

-- its qubit number j
abbrev pub qubit_at : List ℕ → ℕ → ℕ → ℕ
qubit_at t i j = byte_at t (i + leading + j)

-- where its entries start
abbrev pub entries_at : List ℕ → ℕ → ℕ
entries_at t i = i + leading + qubits_of (code_at t i)

-- 6. Is each qubit below n?
unfoldable pub qubits_below : List ℕ → ℕ → ℕ → ℕ → Bool
qubits_below t i k n = all_below (λ j. ltb (qubit_at t i j) n) k

-- 7. Are they different? There are at most three of them.
unfoldable pub qubits_differ : List ℕ → ℕ → ℕ → Bool
qubits_differ t i k =
    cond (ltb k 2) true
    (cond (eqb (qubit_at t i 0) (qubit_at t i 1)) false
    (cond (ltb k 3) true
    (cond (eqb (qubit_at t i 0) (qubit_at t i 2)) false
    (not (eqb (qubit_at t i 1) (qubit_at t i 2))))))

-- "finite, its absolute value at most 2": a NaN is not at most 2, and an infinity is not either
unfoldable pub small_entry : Float → Bool
small_entry x = le (abs_of x) max_entry

-- 8. Is each f64 of a given matrix finite, its absolute value at most 2? k of them stand from p on
unfoldable pub entries_small : List ℕ → ℕ → ℕ → Bool
entries_small t p k = all_below (λ j. small_entry (f64_at t (p + 8 * j))) k

-- the first of 6 to 8 that has no for an answer, 0 if none has
unfoldable pub gate_fault : List ℕ → ℕ → ℕ → ℕ
gate_fault t i n =
    cond (qubits_below t i (qubits_of (code_at t i)) n)
    (cond (qubits_differ t i (qubits_of (code_at t i)))
    (cond (entries_small t (entries_at t i) (floats_of (code_at t i))) 0 8)
    7)
    6

-- a gate without fault, or the question that it does not pass
unfoldable pub sound : ℕ → ℕ → ℕ → Step
sound fault i next = cond (eqb fault 0) (Gate next) (Refused fault i)

unfoldable pub gate_record_at : List ℕ → ℕ → ℕ → ℕ → Step
gate_record_at t i n g =
    -- 4. Is the gate (any record that begins 51 47) among the first 1,024?
    cond (leb max_gates g) (Refused 4 i)
    -- 5. Is the record whole, its code as above?
    (cond (ltb (length t - i) leading) (Refused 5 i)
    (cond (eqb (qubits_of (code_at t i)) 0) (Refused 5 i)
    (cond (ltb (length t - i) (gate_length (code_at t i))) (Refused 5 i)
    -- 6 to 8
    (sound (gate_fault t i n) i (i + gate_length (code_at t i))))))

-- ---- a label

-- "bytes 20 to 7E"
abbrev pub printable : ℕ → Bool
printable b = leb 0x20 b && leb b 0x7e

-- the k bytes from s on
unfoldable pub label_bytes : List ℕ → ℕ → ℕ → Bool
label_bytes t s k = all_below (λ j. printable (byte_at t (s + j))) k

-- "51 4C, length 0 to 40, bytes 20 to 7E": 5 alone is asked
unfoldable pub label_record_at : List ℕ → ℕ → Step
label_record_at t i =
    cond (ltb (length t - i) leading) (Refused 5 i)
    (cond (ltb max_label (byte_at t (i + 2))) (Refused 5 i)
    (cond (ltb (length t - (i + leading)) (byte_at t (i + 2))) (Refused 5 i)
    (cond (label_bytes t (i + leading) (byte_at t (i + 2))) (Label (i + leading) (i + leading + byte_at t (i + 2))) (Refused 5 i))))

-- ---- any record: a second header has neither mark

unfoldable pub record_at : List ℕ → ℕ → ℕ → ℕ → Step
record_at t i n g =
    cond (leb (length t) i) End
    (cond (marked_at t i gate_mark) (gate_record_at t i n g)
    (cond (marked_at t i label_mark) (label_record_at t i)
    (Refused 5 i)))
