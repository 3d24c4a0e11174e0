-- Basis states and signed permutations: the covariance of given bits on the Majorana operators of some neighbouring modes, and maps whose rows have
-- one entry, 1 or -1. Assumes nothing. Only inner functions rest on this.
use Rattle.std.specs.Prelude.{◌≡◌, Bool, true, false, not, cond, ◌&&◌, ℕ, zero, suc, ◌+◌, ◌/◌, ◌%◌, ◌<◌, eqb, ℤ, pos, neg_ℤ}
use Rattle.laws.specs.Dyadic.{Dy, with_sign}
use Rattle.laws.specs.Matrix.{Mat}

-- ---- covariance

-- the covariance of the basis state with these bits: mode k has the indices 2k and 2k + 1, and there 1 and -1, turned round for a bit that is set
abbrev pub basis : (ℕ → Bool) → ℕ → ℕ → ℤ
basis b r c =
    cond (eqb (r % 2) 0 && eqb c (r + 1)) (with_sign (b (r / 2)) 1) (cond (eqb (c % 2) 0 && eqb r (c + 1)) (with_sign (not (b (c / 2))) 1) (pos 0))

-- two bits as a table
abbrev pub bits : Bool → Bool → ℕ → Bool
bits x y zero = x
bits x y (suc k) = y

-- the k rows and columns of m from s on have the values v
abbrev pub Block : ℕ → ℕ → (ℕ → ℕ → ℤ) → Mat → Type 0
Block s k v m = (i j : ℕ) → i < k → j < k → Dy 0 (v i j) (m (s + i) (s + j))

-- the first dim rows and columns of m are the covariance of these bits
abbrev pub IsBasis : ℕ → (ℕ → Bool) → Mat → Type 0
IsBasis dim b m = (r c : ℕ) → r < dim → c < dim → Dy 0 (basis b r c) (m r c)

-- ---- signed permutations

-- a row with 1 or -1 at one place, `at`
pub record Signed : Type 0 where
  pub minus : Bool
  pub at : ℕ

abbrev pub unit_at : Bool → ℕ → Signed
unit_at m i = record { minus = m; at = i }

abbrev pub signed : Bool → ℤ → ℤ
signed false z = z
signed true z = neg_ℤ z

-- its entries
abbrev pub row_z : Signed → ℕ → ℤ
row_z e j = cond (eqb e.at j) (signed e.minus (pos 1)) (pos 0)

-- the k by k map q has these rows
abbrev pub HasRows : ℕ → (ℕ → Signed) → Mat → Type 0
HasRows k p q = (i j : ℕ) → i < k → j < k → Dy 0 (row_z (p i) j) (q i j)

-- q is a signed permutation: each row has one entry, and no two rows have it in the same column
pub record Permutes (k : ℕ) (p : ℕ → Signed) (q : Mat) : Type 0 where
  pub rows : HasRows k p q
  pub within : (i : ℕ) → i < k → (p i).at < k
  pub distinct : (i j : ℕ) → i < k → j < k → (p i).at ≡ (p j).at → i ≡ j

-- v under such a map, rows and then columns
abbrev pub permuted : (ℕ → Signed) → (ℕ → ℕ → ℤ) → ℕ → ℕ → ℤ
permuted p v i j = signed (p j).minus (signed (p i).minus (v (p i).at (p j).at))
