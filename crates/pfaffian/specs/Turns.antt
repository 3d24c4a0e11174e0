-- What the inner functions make of the matrix: the Pfaffian's elimination with row k divided once, and a shot's update right of the diagonal.
-- Laws show that they come to the plain definitions. Assumes nothing. Only inner functions rest on this.
use Rattle.std.specs.Prelude.{◌≡◌, Bool, false, cond, List, ℕ, suc, ◌+◌, ◌*◌, ◌≤◌, ◌<◌, length, get_or, Float}
use Rattle.std.specs.Float.{nan, binary64}
use Rattle.std.specs.Float.Ieee.{add, sub, mul, div, neg}
use Rattle.laws.specs.Tables.{exchanged}
use Rattle.laws.specs.Matrix.{Mat, at, matrix}
use Rattle.laws.specs.Steps.{masked, in_row, cols_from, corner_from, right_from, Formula, by_pair}
use Rattle.real.specs.declared.entries.Square.{Square}
use Rattle.real.specs.Squares.{Same}
use Rattle.pfaffian.specs.Shot.{drawn, after_mode, shot}

-- ---- the Pfaffian

-- row and column p change places with row and column q
abbrev pub brought : ℕ → ℕ → Mat → Mat
brought p q f r c = f (exchanged p q r) (exchanged p q c)

-- row k from column k + 2 on, divided by x
abbrev pub scaled : ℕ → ℕ → Float → List Float → List Float
scaled dim k x m = matrix dim (masked (in_row k (cols_from (k + 2))) (λ r c. div binary64 (at dim m r c) x) (at dim m)) m

-- an entry of the elimination, from itself and from what the rows k (divided) and k + 1 have in its row's and its column's place
abbrev pub less_by : Formula
less_by x tr tc ur uc = add binary64 x (add binary64 (mul binary64 (neg tr) uc) (mul binary64 tc ur))

-- row i of it, and all rows
abbrev pub swept_row : ℕ → ℕ → ℕ → List Float → List Float
swept_row dim k i m = matrix dim (masked (in_row i (corner_from (k + 2))) (by_pair k less_by (at dim m)) (at dim m)) m

abbrev pub swept : ℕ → ℕ → List Float → List Float
swept dim k m = matrix dim (masked (corner_from (k + 2)) (by_pair k less_by (at dim m)) (at dim m)) m

-- the rows and columns from k on are f; anything outside the matrix is as it was
pub record Corner (dim k : ℕ) (m₀ : List Float) (f : Mat) (m : List Float) : Type 0 where
  pub long : length m ≡ length m₀
  pub each : (r c : ℕ) → k ≤ r → r < dim → k ≤ c → c < dim → at dim m r c ≡ f r c
  pub after : (i : ℕ) → dim * dim ≤ i → get_or m i nan ≡ get_or m₀ i nan

-- the same of a matrix as one value
pub record Corners (k : ℕ) (m : Square) (f : Mat) (m' : Square) : Type 0 where
  pub same : Same m m'
  pub corner : Corner m.dim k m.entries.now f m'.entries.now

-- ---- a shot

-- column i from row s on, negated, over row i
abbrev pub laid : ℕ → ℕ → ℕ → List Float → List Float
laid dim i s m = matrix dim (masked (in_row i (cols_from s)) (λ r c. neg (at dim m c r)) (at dim m)) m

-- an entry (c, e) of the update, from itself and from the rows a and b, which hold minus the columns
abbrev pub projected_by : Float → Formula
projected_by f x ac ae bc be = add binary64 x (mul binary64 f (sub binary64 (mul binary64 (neg bc) (neg ae)) (mul binary64 (neg ac) (neg be))))

-- row c of it, and all rows
abbrev pub measured_row : ℕ → ℕ → Float → ℕ → List Float → List Float
measured_row dim a f c m = matrix dim (masked (in_row c (right_from (a + 2))) (by_pair a (projected_by f) (at dim m)) (at dim m)) m

abbrev pub measured : ℕ → ℕ → Float → List Float → List Float
measured dim a f m = matrix dim (masked (right_from (a + 2)) (by_pair a (projected_by f) (at dim m)) (at dim m)) m

-- the rows a and a + 1 made to hold minus the columns, where nobody has yet
abbrev pub laid_pair : ℕ → ℕ → Bool → List Float → List Float
laid_pair dim a fresh m = cond fresh (laid dim (a + 1) (a + 2) (laid dim a (a + 2) m)) m

-- the list m stands for the matrix M with which mode k is reached: right of the diagonal it has M's entries; those below are there as long as m is
-- fresh, and later they are minus those above
pub record Stands (dim k : ℕ) (fresh : Bool) (M : Mat) (m : List Float) : Type 0 where
  pub right : (r c : ℕ) → 2 * k ≤ r → r < c → c < dim → at dim m r c ≡ M r c
  pub below : (r c : ℕ) → 2 * k ≤ r → r < c → c < dim → cond fresh (at dim m c r) (neg (at dim m r c)) ≡ M c r

-- mode k is measured: whatever matrix the list stood for, the outcome is the plain one, and the list then stands for the plain next one
abbrev pub Measures : ℕ → ℕ → Float → Bool → List Float → Bool → Bool → List Float → Type 0
Measures dim k draw fresh m one fresh' m' = (M : Mat) → Stands dim k fresh M m → (one ≡ drawn M k draw) × Stands dim (suc k) fresh' (after_mode M k one) m'

-- the first n places of a list are those of `outcomes`, and the others as they were
pub record Listed (n : ℕ) (outcomes bits₀ bits : List Bool) : Type 0 where
  pub done : (k : ℕ) → k < n → get_or bits k false ≡ get_or outcomes k false
  pub left : (k : ℕ) → n ≤ k → get_or bits k false ≡ get_or bits₀ k false

-- they are the outcomes of a shot of n modes
abbrev pub ShotListed : ℕ → Mat → (ℕ → Float) → List Bool → List Bool → Type 0
ShotListed n e t bits₀ bits = Listed n (shot e 0 n t) bits₀ bits
