-- `queries::basis::note_basis` meets its contract: the marks are those of the qubits passed, no two of which have one mode. Assumes nothing.
use Rattle.std.proofs.Common.{◌≡◌, length}
use Rattle.laws.specs.Tables.{mode_at}
use Rattle.queries.specs.Lists.{noted}
use Rattle.queries.specs.Basis.{basis_bit_of}
use Rattle.queries.specs.Inner.{Asked}
use Rattle.queries.proofs.basis.note_basis.Given as goal

abbrev pub invariant-loop-q : goal.invariant-loop-q
invariant-loop-q l =
    (length l.asked ≡ length l.initial.asked) × Asked l.checked.n (noted (mode_at l.checked.modes.now) (basis_bit_of l.low l.high) l.q) l.asked
