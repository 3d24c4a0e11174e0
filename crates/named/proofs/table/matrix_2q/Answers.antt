-- `named::table::matrix_2q` meets its contract: the constant array is the definition's list, and the index lies within it.
-- Assumes nothing.
use Prim.Native.Nat.{◌-◌}
use native.Mathlib.Omega.{arith}
use Rattle.named.specs.Table.{matrix2q_of, two_qubit, gate_cnot}
use Rattle.std.proofs.lemmas.List.{get_or_default}
use Rattle.named.proofs.table.matrix_2q.Goals as goal

pub returns : goal.returns
unfolding matrix2q_of
returns c = get_or_default two_qubit (c.args.code - 16) _ gate_cnot (omega arith)
