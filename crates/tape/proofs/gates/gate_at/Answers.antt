-- `tape::gates::gate_at` meets its contract: its tests are the definition's. Assumes nothing.
use mathlib.Core.Path.{◌≡◌, ap, ◌∙◌}
use Rattle.std.specs.Prelude.{◌≢◌}
use Prim.Native.Nat.{ℕ, ◌<◌}
use native.Mathlib.Omega.{arith}
use Rattle.tape.specs.Codes.{qubits_of}
use Rattle.tape.proofs.CodeLaws.{gate-room}
use Rattle.tape.proofs.gates.gate_at.Goals as goal

pub byte_at-code-requires : goal.byte_at-code-requires
byte_at-code-requires c = omega (arith, gate-room _ _ _ c.requires)

pub qubit_at-a-requires : goal.qubit_at-a-requires
qubit_at-a-requires c = let w = c.requires in omega (arith, gate-room _ _ _ w, w.some)

-- what is left of the numbers of qubits
more : (k n : ℕ) → k ≡ n → 0 < n → k ≢ 1 → 1 < n
more k n e w h = omega (arith, h)

pub qubit_at-b-requires : goal.qubit_at-b-requires
qubit_at-b-requires c = omega (arith, gate-room _ _ _ c.requires, more _ _ (c.qubits_of-k.ensures.0 ∙ ap qubits_of c.byte_at-code.ensures.0) c.requires.some c.if-k-eq1.false)

pub qubit_at-c-requires : goal.qubit_at-c-requires
qubit_at-c-requires c =
    omega (arith, gate-room _ _ _ c.requires, more _ _ (c.qubits_of-k.ensures.0 ∙ ap qubits_of c.byte_at-code.ensures.0) c.requires.some c.if-k-eq1.false, c.qubits_of-k.ensures.0 ∙ ap qubits_of c.byte_at-code.ensures.0, c.if-k-eq2.false)
