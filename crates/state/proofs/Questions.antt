-- What the answer yes to question 16 gives a call, and that it stays yes. Assumes nothing.
use Rattle.std.proofs.lemmas.Bool.{and_parts}
use Rattle.std.proofs.Common.{◌≡◌, ℕ, ◌*◌, ◌≤◌, true, ◌&&◌, leb, List, length, refl, ap, ◌∙◌, le_trans, mul-le-mul_right, mul-le-mul_left, arith, leb-true}
use lib.Ieee.{Float}
use Rattle.laws.specs.Bounds.{max_qubits}
use Rattle.local.specs.Bounds.{state_places}
use Rattle.local.specs.State.{State, stored}
use Rattle.local.proofs.Stored.{stored_is}
use Rattle.state.specs.Bounds.{dim_of}
use Rattle.state.specs.Modes.{is_permutation}
use Rattle.state.specs.Questions.{state_ok}

pub record Asked (n : ℕ) (s : List Float) (modes : List ℕ) : Type 0 where
  pub few : n ≤ max_qubits
  pub room : state_places (dim_of n) ≤ length s
  pub permutation : is_permutation n modes ≡ true

pub asked : (n : ℕ) (s : List Float) (modes : List ℕ) → state_ok n s modes ≡ true → Asked n s modes
unfolding state_ok
asked n s modes e =
    let few = leb n max_qubits in
    let room = leb (state_places (dim_of n)) (length s) in
    let rest = (and_parts few (room && is_permutation n modes) e).1 in record {
      few = leb-true n max_qubits (and_parts few (room && is_permutation n modes) e).0;
      room = leb-true (state_places (dim_of n)) (length s) (and_parts room (is_permutation n modes) rest).0;
      permutation = (and_parts room (is_permutation n modes) rest).1;
    }

-- few rows, so few places
pub square-few : (n : ℕ) → n ≤ max_qubits → dim_of n * dim_of n ≤ dim_of max_qubits * dim_of max_qubits
square-few n h =
    let d : dim_of n ≤ dim_of max_qubits = omega arith in
    le_trans (mul-le-mul_right {m = dim_of n} (dim_of n) d) (mul-le-mul_left {m = dim_of n} (dim_of max_qubits) d)

-- ---- question 16 asks of a slice only how long it is: a state stored in it meets it again

module _ (n : ℕ) (modes : List ℕ) where
  pub still-ok : (s s₀ : List Float) → length s ≡ length s₀ → state_ok n s₀ modes ≡ true → state_ok n s modes ≡ true
  unfolding state_ok
  still-ok s s₀ e ok = ap (λ (k : ℕ). leb n max_qubits && (leb (state_places (dim_of n)) k && is_permutation n modes)) e ∙ ok

  pub stored_ok : (t : State) (s : List Float) → state_ok n s modes ≡ true → state_ok n (stored (dim_of n) t s) modes ≡ true
  stored_ok t s ok = still-ok (stored (dim_of n) t s) s (stored_is (dim_of n) s t (stored (dim_of n) t s) (asked n s modes ok).room refl).long ok
