-- `tape::gates::matrix2_at` meets its contract: a code of two qubits is 1F or has its row in the table. Assumes nothing.
use native.Mathlib.Omega.{arith}
use Rattle.tape.proofs.CodeLaws.{gate-room}
use Rattle.tape.proofs.gates.matrix2_at.Goals as goal

pub byte_at-code-requires : goal.byte_at-code-requires
byte_at-code-requires c = omega (arith, gate-room _ _ _ c.requires)
