-- Question 16, which every state call meets first. Definitions only. A public promise rests on this.
use Rattle.std.specs.Prelude.{ℕ, Bool, ◌&&◌, List, length, nat_le, Float}
use Rattle.laws.specs.Bounds.{max_qubits}
use Rattle.local.specs.Bounds.{state_places}
use Rattle.state.specs.Bounds.{dim_of}
use Rattle.state.specs.Modes.{is_permutation}

-- "is n at most 128, the slice long enough, the mode table's first n a permutation?"
unfoldable pub state_ok : ℕ → List Float → List ℕ → Bool
state_ok n s modes = nat_le n max_qubits && (nat_le (state_places (dim_of n)) (length s) && is_permutation n modes)
