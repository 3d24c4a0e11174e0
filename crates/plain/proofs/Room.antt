-- What the plain engine's own question gives a call. Assumes nothing.
use Rattle.std.proofs.lemmas.Bool.{and_parts}
use Rattle.std.proofs.Common.{◌≡◌, ℕ, ◌*◌, ◌≤◌, true, leb, List, length, leb-true}
use lib.Ieee.{Float}
use Rattle.laws.specs.Bounds.{max_qubits}
use Rattle.state.specs.Bounds.{dim_of}
use Rattle.plain.specs.Calls.{matrix_ok}

module _ (n : ℕ) (s : List Float) (e : matrix_ok n s ≡ true) where
  pub few : n ≤ max_qubits
  unfolding matrix_ok
  few = leb-true n max_qubits (and_parts (leb n max_qubits) (leb (dim_of n * dim_of n) (length s)) e).0

  pub room : dim_of n * dim_of n ≤ length s
  unfolding matrix_ok
  room = leb-true (dim_of n * dim_of n) (length s) (and_parts (leb n max_qubits) (leb (dim_of n * dim_of n) (length s)) e).1
