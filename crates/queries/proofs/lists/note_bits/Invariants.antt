-- `queries::lists::note_bits` meets its contract: the marks are those of the places passed, none of which is bad or a contradiction. Assumes nothing.
use Rattle.std.proofs.Common.{◌≡◌, ◌-◌, ◌||◌, length}
use Rattle.queries.specs.Lists.{first_from, outside, mode_listed, bit_listed, contradicts, noted, stop_place}
use Rattle.queries.specs.Inner.{Asked}
use Rattle.queries.proofs.lists.note_bits.Given as goal

abbrev pub invariant-loop-i : goal.invariant-loop-i
invariant-loop-i l =
    (length l.asked ≡ length l.initial.asked)
    × (first_from
    (λ j. outside l.checked.n l.qubits j || contradicts (mode_listed l.checked.modes.now l.qubits) (bit_listed l.bits) j) l.i
    (length l.qubits - l.i)
    ≡ stop_place l.checked.n l.checked.modes.now l.qubits l.bits)
    × Asked l.checked.n (noted (mode_listed l.checked.modes.now l.qubits) (bit_listed l.bits) l.i) l.asked
