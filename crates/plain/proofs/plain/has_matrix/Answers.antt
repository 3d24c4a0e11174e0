-- `plain::plain::has_matrix` meets its contract, by its tests. Assumes nothing.
use Rattle.std.proofs.Common.{refl, le-leb}
use borrow.Author.Tests.{lt-leb}
use Rattle.plain.specs.Calls.{matrix_ok}
use Rattle.plain.proofs.plain.has_matrix.Goals as goal

pub returns-then-n-le-MAX_QUBITS : goal.returns-then-n-le-MAX_QUBITS
unfolding matrix_ok
returns-then-n-le-MAX_QUBITS c = rw (le-leb _ _ c.if-n-le-MAX_QUBITS.true) refl

pub returns-else-n-le-MAX_QUBITS : goal.returns-else-n-le-MAX_QUBITS
unfolding matrix_ok
returns-else-n-le-MAX_QUBITS c = rw (lt-leb _ _ c.if-n-le-MAX_QUBITS.false) refl
