-- A state of the engine that is a basis state: the covariance of some bits, with postponed signs that no answer sees; and what the queries read of it.
-- Assumes nothing. Only inner functions rest on this.
use Rattle.std.specs.Prelude.{◌≡◌, Bool, true, List, ℕ, ◌+◌, ◌*◌, ◌<◌, ◌≤◌, T}
use Rattle.std.specs.Float.{binary64}
use Rattle.std.specs.Float.Ieee.{fits}
use Rattle.laws.specs.Zeros.{+1, sg}
use Rattle.laws.specs.Matrix.{Mat}
use Rattle.laws.specs.Tables.{mode_at}
use Rattle.laws.specs.Bounds.{max_qubits}
use Rattle.monomial.specs.Basis.{IsBasis}
use Rattle.local.specs.State.{State}
use Rattle.state.specs.Bounds.{dim_of}
use Rattle.state.specs.Modes.{is_permutation}

-- t holds the basis state of the bits b on n modes. The two signs of a mode are the same, 1.0 or -1.0: they turn together or not at all
pub record HoldsBits (n : ℕ) (b : ℕ → Bool) (t : State) : Type 0 where
  pub matrix : IsBasis (dim_of n) b t.m
  pub signs : (k : ℕ) → k < n → (s : Bool) × (t.d (2 * k) ≡ sg s +1) × (t.d (2 * k + 1) ≡ sg s +1)

-- what the queries read: e is the covariance of the bits b, and the qubit q, whose mode the table gives, has the bit r q
pub record Reads (n : ℕ) (b r : ℕ → Bool) (e : Mat) (modes : List ℕ) : Type 0 where
  pub few : n ≤ max_qubits
  pub covariance : IsBasis (dim_of n) b e
  pub floats : (i j : ℕ) → T (fits binary64 (e i j))
  pub table : is_permutation n modes ≡ true
  pub bits : (q : ℕ) → q < n → b (mode_at modes q) ≡ r q
