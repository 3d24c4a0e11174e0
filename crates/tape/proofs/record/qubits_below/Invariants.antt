-- `tape::record::qubits_below` meets its contract. The loop's invariant: the qubits passed are below n. Assumes nothing.
use mathlib.Core.Path.{◌≡◌}
use mathlib.Core.Bool.{true}
use Rattle.tape.specs.Records.{qubits_below}
use Rattle.tape.proofs.record.qubits_below.Given as goal

abbrev pub invariant-loop-j : goal.invariant-loop-j
invariant-loop-j l = qubits_below l.t l.at l.j l.n ≡ true
