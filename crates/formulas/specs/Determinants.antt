-- THE DETERMINANT over any numbers: the textbook's, by its first row; and the engine's (crate `local`, Det), a 2 by 2 by its formula, a larger one by
-- elimination with the last largest pivot, with the operations and tests of IEEE binary64 made parameters. Definitions only.
-- A public promise rests on this.
use Rattle.std.specs.Prelude.{◌≡◌, Bool, cond, List, [], ◌∷◌, ℕ, zero, suc, ◌%◌, eqb, ltb}
use Rattle.laws.specs.Lists.{pivot_row, other_rows}
use Rattle.laws.specs.Views.{list_of}
use Rattle.rings.specs.Rings.{Ops, IsCommutative, sg}
use Rattle.formulas.specs.Numbers.{Tests, Divides}
use Rattle.formulas.specs.Engine.{Mat, Local}

-- ---- by its first row

module _ (𝓝 : Ops) where
  -- f 0 + .. + f (k - 1)
  abbrev pub sum : ℕ → (ℕ → 𝓝.N) → 𝓝.N
  sum zero f = 𝓝.zero
  sum (suc k) f = 𝓝.add (sum k f) (f k)

  -- q without its first row and its column j
  abbrev pub without : ℕ → Mat 𝓝 → Mat 𝓝
  without j q r c = q (suc r) (cond (ltb c j) c (suc c))

  abbrev pub det : ℕ → Mat 𝓝 → 𝓝.N
  det zero q = 𝓝.one
  det (suc k) q = sum (suc k) (λ j. sg 𝓝 (eqb (j % 2) 1) (𝓝.mul (q 0 j) (det k (without j q))))

  -- "the determinant is below zero"
  abbrev pub odd : (𝓝.N → Bool) → Local 𝓝 → Bool
  odd below o = below (det o.width o.map)

-- ---- by elimination

module _ (𝓝 : Ops) (𝓣 : Tests 𝓝) where
  abbrev pub Line : Type 0
  Line = List 𝓝.N

  abbrev pub head_of : Line → 𝓝.N
  head_of [] = 𝓣.nothing
  head_of (x ∷ xs) = x

  abbrev pub tail_of : Line → Line
  tail_of [] = []
  tail_of (x ∷ xs) = xs

  pub record Best : Type 0 where
    pub row : ℕ
    pub head : 𝓝.N

  abbrev pub better_of : Best → ℕ → 𝓝.N → Best
  better_of b i x = cond (𝓣.not_below x b.head) (record { row = i; head = x }) b

  unfoldable pub last_largest : List Line → ℕ → Best → ℕ
  last_largest [] i b = b.row
  last_largest (r ∷ rs) i b = last_largest rs (suc i) (better_of b i (head_of r))

  -- xs - f * ys
  abbrev pub less : 𝓝.N → Line → Line → Line
  less f [] ys = []
  less f (x ∷ xs) [] = []
  less f (x ∷ xs) (y ∷ ys) = 𝓝.add x (𝓝.neg (𝓝.mul f y)) ∷ less f xs ys

  abbrev pub lowered : Line → Line → Line
  lowered q r = less (𝓣.div (head_of r) (head_of q)) (tail_of r) (tail_of q)

  abbrev pub lowered_all : Line → List Line → List Line
  lowered_all q [] = []
  lowered_all q (r ∷ rs) = lowered q r ∷ lowered_all q rs

  -- n pivots more, with d so far
  unfoldable pub eliminated : ℕ → List Line → 𝓝.N → 𝓝.N
  eliminated zero rows d = d
  eliminated (suc n) [] d = d
  eliminated (suc n) (r ∷ rs) d =
      let p = last_largest rs 1 (record { row = 0; head = head_of r }) in
      let q = pivot_row p r rs in
      cond (𝓣.null (head_of q)) 𝓝.zero (eliminated n (lowered_all q (other_rows p r rs)) (𝓝.mul (cond (eqb p 0) d (𝓝.neg d)) (head_of q)))

  -- the rows of a k by k map
  abbrev pub lines : ℕ → Mat 𝓝 → List Line
  lines k q = list_of k (λ i. list_of k (q i))

  unfoldable pub own_det : ℕ → Mat 𝓝 → 𝓝.N
  own_det k q = cond (eqb k 2) (𝓝.add (𝓝.mul (q 0 0) (q 1 1)) (𝓝.neg (𝓝.mul (q 0 1) (q 1 0)))) (eliminated k (lines k q) 𝓝.one)

  -- "the determinant is below zero", as the engine asks it
  abbrev pub own_odd : (𝓝.N → Bool) → Local 𝓝 → Bool
  own_odd below o = below (own_det o.width o.map)

-- THE STATEMENT: the engine's is the textbook's, of the two widths that maps have
abbrev pub DetByElimination : (𝓝 : Ops) → Tests 𝓝 → Type 0
DetByElimination 𝓝 𝓣 = (q : Mat 𝓝) → (own_det 𝓝 𝓣 2 q ≡ det 𝓝 2 q) × (own_det 𝓝 𝓣 4 q ≡ det 𝓝 4 q)

-- THE WHOLE STATEMENT: over every commutative ring that can divide (proved in crate `angles`, Elimination)
abbrev pub DetTheorem : Type 1
DetTheorem = (𝓝 : Ops) → IsCommutative 𝓝 → (𝓣 : Tests 𝓝) → Divides 𝓝 𝓣 → DetByElimination 𝓝 𝓣
