-- THE PFAFFIAN over any numbers: the textbook's, by its first row, of the rows and columns of a list; and the engine's (crate `pfaffian`, Pfaffian), which
-- eliminates pairs of rows with the first largest pivot, with the operations and tests of IEEE binary64 made parameters. Definitions only.
-- A public promise rests on this.
use Rattle.std.specs.Prelude.{◌≡◌, ◌≢◌, true, false, cond, List, [], ◌∷◌, ◌++◌, ℕ, zero, suc, ◌-◌, ◌/◌, ◌%◌, ◌≤◌, ◌<◌, eqb}
use Rattle.laws.specs.Lists.{All}
use Rattle.laws.specs.Tables.{exchanged}
use Rattle.rings.specs.Rings.{Ops, IsCommutative}
use Rattle.formulas.specs.Numbers.{Tests, Divides}
use Rattle.formulas.specs.Engine.{Mat}

-- ---- by its first row

module _ (𝓝 : Ops) (m : Mat 𝓝) where
  -- the entry in row r of each x of the list times F of the others, with signs that alternate; `seen` are those before x
  abbrev pub first_row : (List ℕ → 𝓝.N) → ℕ → List ℕ → List ℕ → 𝓝.N
  first_row F r seen [] = 𝓝.zero
  first_row F r seen (x ∷ xs) = 𝓝.add (𝓝.mul (m r x) (F (seen ++ xs))) (𝓝.neg (first_row F r (seen ++ (x ∷ [])) xs))

  -- F is known of shorter lists
  abbrev pub by_first : (List ℕ → 𝓝.N) → List ℕ → 𝓝.N
  by_first F [] = 𝓝.one
  by_first F (r ∷ rs) = first_row F r [] rs

  -- of a list of at most k indices
  unfoldable pub pfaffian : ℕ → List ℕ → 𝓝.N
  pfaffian zero rs = by_first (λ qs. 𝓝.zero) rs
  pfaffian (suc k) rs = by_first (λ qs. pfaffian k qs) rs

-- ---- lists of indices

abbrev pub AllBelow : ℕ → List ℕ → Type 0
AllBelow n = All (λ r. r < n)

-- r is none of the list
abbrev pub Apart : ℕ → List ℕ → Type 0
Apart r = All (λ x. r ≢ x)

abbrev pub Distinct : List ℕ → Type 0
Distinct [] = Unit {0}
Distinct (r ∷ rs) = Apart r rs × Distinct rs

-- s, s + 1, .., s + n - 1
abbrev pub up : ℕ → ℕ → List ℕ
up s zero = []
up s (suc n) = s ∷ up (suc s) n

-- ---- by elimination

module _ (𝓝 : Ops) (𝓣 : Tests 𝓝) where
  -- the first largest |row j|, for n columns from j on, after `best` in column `piv`. Only a larger one takes its place
  unfoldable pub search : (ℕ → 𝓝.N) → ℕ → ℕ → 𝓝.N → ℕ → 𝓝.N × ℕ
  search row zero j best piv = (best, piv)
  search row (suc n) j best piv =
      elim (𝓣.less best (𝓣.size (row j))) [ true ↦ search row n (suc j) (𝓣.size (row j)) j | false ↦ search row n (suc j) best piv ]

  -- the pivot of row k, by its size and its column, from k + 1 on
  abbrev pub pivot_of : (ℕ → 𝓝.N) → ℕ → ℕ → 𝓝.N × ℕ
  pivot_of row k dim = search row (dim - suc (suc k)) (suc (suc k)) (𝓣.size (row (suc k))) (suc k)

  -- the rows p and q change places, then the columns
  abbrev pub pivoted : ℕ → ℕ → Mat 𝓝 → Mat 𝓝
  pivoted p q a = cond (eqb p q) a (λ i j. a (exchanged p q i) (exchanged p q j))

  -- the elimination by the rows k and k + 1: a[i][j] += -ti * a[k + 1][j] + tj * a[k + 1][i], where ti = a[k][i] / akk
  abbrev pub less_pair : ℕ → Mat 𝓝 → Mat 𝓝
  less_pair k a i j =
      let akk = a k (suc k) in
      𝓝.add (a i j) (𝓝.add (𝓝.mul (𝓝.neg (𝓣.div (a k i) akk)) (a (suc k) j)) (𝓝.mul (𝓣.div (a k j) akk) (a (suc k) i)))

  -- p pairs from k on, with `acc` so far: it turns with an exchange, and takes the pivot as a factor. A search that ends at zero ends it with 0
  unfoldable pub pf : Mat 𝓝 → ℕ → ℕ → ℕ → 𝓝.N → 𝓝.N
  pf a zero k dim acc = acc
  pf a (suc p) k dim acc =
      let s = pivot_of (a k) k dim in
      let b = pivoted s.1 (suc k) a in
      let r = pf (less_pair k b) p (suc (suc k)) dim (𝓝.mul (cond (eqb s.1 (suc k)) acc (𝓝.neg acc)) (b k (suc k))) in
      cond (𝓣.null s.0) 𝓝.zero r

  unfoldable pub own_pfaffian : ℕ → Mat 𝓝 → 𝓝.N
  own_pfaffian dim a = cond (eqb (dim % 2) 1) 𝓝.zero (pf a (dim / 2) 0 dim 𝓝.one)

-- an alternating matrix, as far as dim
pub record Alternating (𝓝 : Ops) (dim : ℕ) (m : Mat 𝓝) : Type 0 where
  pub turns : (i j : ℕ) → i < dim → j < dim → m i j ≡ 𝓝.neg (m j i)
  pub nought-at : (i : ℕ) → i < dim → m i i ≡ 𝓝.zero

-- THE STATEMENT: the engine's is the textbook's, of every alternating matrix of every dimension. `most` bounds the list's length
abbrev pub PfaffianByElimination : (𝓝 : Ops) → Tests 𝓝 → Type 0
PfaffianByElimination 𝓝 𝓣 = (dim most : ℕ) (a : Mat 𝓝) → Alternating 𝓝 dim a → dim ≤ most → own_pfaffian 𝓝 𝓣 dim a ≡ pfaffian 𝓝 a most (up 0 dim)

-- THE WHOLE STATEMENT: over every commutative ring that can divide (proved in crate `angles`, OwnPfaffian)
abbrev pub PfaffianTheorem : Type 1
PfaffianTheorem = (𝓝 : Ops) → IsCommutative 𝓝 → (𝓣 : Tests 𝓝) → Divides 𝓝 𝓣 → PfaffianByElimination 𝓝 𝓣
