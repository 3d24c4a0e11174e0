-- `tape::gates::matrix1_at` meets its contract: a code of one qubit is 0F or has its row in the table. Assumes nothing.
use native.Mathlib.Omega.{arith}
use Rattle.tape.proofs.CodeLaws.{gate-room}
use Rattle.tape.proofs.gates.matrix1_at.Goals as goal

pub byte_at-code-requires : goal.byte_at-code-requires
byte_at-code-requires c = omega (arith, gate-room _ _ _ c.requires)
