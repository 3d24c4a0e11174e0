-- The state of the engine: the covariance m with its postponed signs d, as functions of row and column; where both stand in the state slice; the
-- vacuum; and `get`, an entry with its signs, which is all that a query reads. Assumes nothing. A public promise rests on this.
use Rattle.std.specs.Prelude.{cond, ◌&&◌, List, ◌≡◌, ℕ, ◌+◌, ◌*◌, ◌-◌, ◌%◌, ◌≤◌, ◌<◌, eqb, leb, ltb, get_or, length, Float}
use Rattle.std.specs.Float.{nan, binary64}
use Rattle.std.specs.Float.Ieee.{mul, neg}
use Rattle.laws.specs.Views.{list_of}
use Rattle.laws.specs.Zeros.{+0, +1}
use Rattle.laws.specs.Matrix.{Mat, at, matrix}
use Rattle.local.specs.Bounds.{state_places}

-- "matrix m", "signs d"
pub record State : Type 0 where
  pub m : Mat
  pub d : ℕ → Float

-- the state that a slice holds: m by rows, dim by dim, then d
abbrev pub state_at : ℕ → List Float → State
state_at dim s = record { m = at dim s; d = λ i. get_or s (dim * dim + i) nan }

-- the slice s with the signs d after its matrix
unfoldable pub with_signs : ℕ → (ℕ → Float) → List Float → List Float
with_signs dim d s = list_of (length s) (λ i. cond (leb (dim * dim) i && ltb i (state_places dim)) (d (i - dim * dim)) (get_or s i nan))

-- the slice s with the state t for its own: t's matrix, t's signs, and "the rest unchanged"
unfoldable pub stored : ℕ → State → List Float → List Float
stored dim t s = matrix dim t.m (with_signs dim t.d s)

-- the same, place by place: s is s₀ with t for its state
pub record Stored (dim : ℕ) (s₀ : List Float) (t : State) (s : List Float) : Type 0 where
  pub long : length s ≡ length s₀
  pub entry : (r c : ℕ) → r < dim → c < dim → at dim s r c ≡ t.m r c
  pub sign : (i : ℕ) → i < dim → get_or s (dim * dim + i) nan ≡ t.d i
  pub after : (i : ℕ) → state_places dim ≤ i → get_or s i nan ≡ get_or s₀ i nan

-- the vacuum: 1.0 and -1.0 beside the diagonal, in pairs, and all signs 1.0
abbrev pub vacuum : State
vacuum = record {
  m = λ r c. cond (eqb (r % 2) 0 && eqb c (r + 1)) +1 (cond (eqb (c % 2) 0 && eqb r (c + 1)) (neg +1) +0);
  d = λ i. +1;
}

-- an entry of the covariance: "m times its row's d, then its column's"
abbrev pub get : State → Mat
get t r c = mul binary64 (mul binary64 (t.m r c) (t.d r)) (t.d c)
