-- `tape::record::qubits_below` meets its contract. The loop's invariant: the qubits passed are below n. Assumes nothing.
use borrow.Author.Tests.{le-ltb}
use Rattle.laws.proofs.Tests.{all-fails}
use Rattle.tape.specs.Records.{qubits_below}
use Rattle.tape.proofs.record.qubits_below.Goals as goal

pub returns-then-qubit_at-n : goal.returns-then-qubit_at-n
unfolding qubits_below
returns-then-qubit_at-n c =
    all-fails _ _ c.loop-j.j c.loop-j-test.true (rw (← c.qubit_at.ensures) (le-ltb _ _ c.if-qubit_at-n.true))
