-- Laws of a matrix that is laid into work: a whole one, row by row; halved entries; a pair of entries a turn; and that matrices which are alike have
-- the same Pfaffian. Assumes nothing.
use mathlib.Core.Path.{◌≡◌, refl, sym, ap, ◌∙◌}
use mathlib.Core.Logic.{◌≢◌}
use mathlib.Core.List.{List, [], ◌∷◌, ◌++◌, map}
use Prim.Native.Nat.{ℕ, zero, suc, ◌+◌, ◌*◌, ◌/◌, ◌%◌, ◌≤◌, ◌<◌}
use native.Mathlib.Nat.{le_of_eq}
use native.Mathlib.Omega.{arith}
use lib.ListN.{length, take, drop, get_or, set}
use lib.Ieee.{Float, nan, binary64, add, sub}
use borrow.Author.Tests.{eq-eqb, ne_eqb}
use Rattle.laws.specs.Slices.{mapped_to}
use Rattle.laws.specs.Matrix.{Mat, at, matrix, Is}
use Rattle.laws.specs.Steps.{masked, in_row}
use Rattle.laws.specs.Loops.{by_row, by_col}
use Rattle.laws.proofs.Slices.{length-mapped, mapped-done, mapped-left}
use Rattle.laws.proofs.Matrix.{place_in, is-matrix, matrix-is}
use Rattle.laws.proofs.Loops.{up_left}
use Rattle.laws.proofs.Sweep.{Swept, masked_on, sweep-start, sweep-store, sweep-row, sweep-done}
-- a turn makes anew the pair of entries (2n, 2n + 1) and (2n + 1, 2n)
pub use Rattle.laws.proofs.Pairs.{by_half as by_pairs, PairsUpTo, pairs-more}
use Rattle.laws.proofs.Tests.{no-pair}
use Rattle.queries.specs.Products.{index_of}
use Rattle.queries.specs.Inner.{Below, everywhere}
use Rattle.queries.specs.Marginals.{shifted}

-- ---- the state's row for a row of the modes' matrix

module _ (n : ℕ) (list : List ℕ) (w : Below n list) (r : ℕ) (h : r < 2 * length list) where
  pub index-fits : r / 2 < length list
  index-fits = omega arith

  pub row-mode : get_or list (r / 2) 0 < n
  row-mode = w (r / 2) index-fits

  pub index_below : index_of list r < 2 * n
  index_below = omega (arith, row-mode)

-- the two rows of a mode stand together
pub index-next : (list : List ℕ) (j : ℕ) → index_of list (2 * j) + 1 ≡ index_of list (2 * j + 1)
index-next list j =
    let h : (2 * j + 1) / 2 ≡ 2 * j / 2 = omega arith in
    rw h (omega arith)

-- ---- a matrix laid into work: its rows, and the entries of a row

module _ (new : Mat) (dim : ℕ) where
  -- the first n entries of row i are new
  abbrev pub RowUpTo : ℕ → List Float → ℕ → List Float → Type 0
  RowUpTo i m₀ n m = Swept by_col (in_row i everywhere) new dim m₀ n m

  pub row-start : (i : ℕ) (m : List Float) → RowUpTo i m 0 m
  row-start i m = sweep-start by_col (in_row i everywhere) new dim 0 m (λ r c k. absurd (omega arith))

  pub row_more : (i n : ℕ) (m₀ m m' : List Float) (x : Float) → i < dim → n < dim → dim * dim ≤ length m₀ → x ≡ new i n → RowUpTo i m₀ n m
      → m' ≡ set m (i * dim + n) x → RowUpTo i m₀ (n + 1) m'
  row_more i n m₀ m m' x hi hn room e w s = sweep-store everywhere new dim i n m₀ m m' x hi hn room refl e w s

  pub row_done : (i n : ℕ) (m₀ m : List Float) → dim ≤ n → RowUpTo i m₀ n m → m ≡ matrix dim (masked (in_row i everywhere) new (at dim m₀)) m₀
  row_done i n m₀ m h w = sweep-done by_col (in_row i everywhere) new dim m₀ n m w (λ r c g k. omega arith)

  -- the first n rows are new
  abbrev pub RowsUpTo : List Float → ℕ → List Float → Type 0
  RowsUpTo m₀ n m = Swept by_row everywhere new dim m₀ n m

  pub rows_start : (m : List Float) → RowsUpTo m 0 m
  rows_start m = sweep-start by_row everywhere new dim 0 m (λ r c k. absurd (omega arith))

  pub rows_more : (n : ℕ) (m₀ m m' : List Float) → dim * dim ≤ length m₀ → RowsUpTo m₀ n m
      → m' ≡ matrix dim (masked (in_row n everywhere) new (at dim m)) m → RowsUpTo m₀ (n + 1) m'
  rows_more n m₀ m m' room w e = sweep-row everywhere (λ f. new) dim n m₀ m m' (λ f g h r c a b p q. refl) room w e

  pub rows-done : (n : ℕ) (m₀ m : List Float) → dim * dim ≤ length m₀ → dim ≤ n → RowsUpTo m₀ n m → m ≡ matrix dim new m₀
  rows-done n m₀ m room h w =
      let v = matrix-is dim m₀ _ m room (sweep-done by_row everywhere new dim m₀ n m w (λ r c g k. omega arith)) in
      is-matrix dim m₀ new m
      (record { long = v.long; each = λ r c g k. v.each r c g k ∙ masked_on everywhere new (at dim m₀) r c refl; after = v.after })

-- ---- every entry made anew by itself

-- f of the first n places, as a part of the slice
pub mapped-front : {A : Type 0} (f : A → A) (n : ℕ) (l ys : List A) → ys ≡ map f (take n l) → ys ++ drop n l ≡ mapped_to f n l
unfolding mapped_to
mapped-front {A = A} f n l ys e = ap (λ t. t ++ drop n l) e ∙ by n l
  where
    by : (n : ℕ) (l : List A) → map f (take n l) ++ drop n l ≡ mapped_to f n l
    by zero l = refl
    by (suc n) [] = refl
    by (suc n) (x ∷ l) = ap (λ t. f x ∷ t) (by n l)

pub mapped-is : (f : Float → Float) (dim : ℕ) (m₀ m : List Float) → dim * dim ≤ length m₀ → m ≡ mapped_to f (dim * dim) m₀
    → Is dim m₀ (λ r c. f (at dim m₀ r c)) m
mapped-is f dim m₀ m room e = record {
  long = rw e (length-mapped f (dim * dim) m₀);
  each = λ r c h g.
      let p = place_in dim r c h g in
      rw e (mapped-done f (dim * dim) m₀ (r * dim + c) nan p (omega arith));
  after = λ i h. rw e (mapped-left f (dim * dim) m₀ i nan h);
}

-- ---- the pairs of a marginal

module _ (s : ℕ → Float) (a : Mat) where
  shift-upper : (n : ℕ) → shifted s a (2 * n) (2 * n + 1) ≡ add binary64 (a (2 * n) (2 * n + 1)) (s n)
  shift-upper n =
      let z : 2 * n % 2 ≡ 0 = omega arith in
      let q : 2 * n / 2 ≡ n = omega arith in
      rw (eq-eqb (2 * n % 2) 0 z, eq-eqb (2 * n + 1) (2 * n + 1) refl, q)

  shift-lower : (n : ℕ) → shifted s a (2 * n + 1) (2 * n) ≡ sub binary64 (a (2 * n + 1) (2 * n)) (s n)
  shift-lower n =
      let o : (2 * n + 1) % 2 ≢ 0 = λ e. omega arith in
      let z : 2 * n % 2 ≡ 0 = omega arith in
      let q : (2 * n + 1) / 2 ≡ n = omega arith in
      rw (ne_eqb ((2 * n + 1) % 2) 0 o, eq-eqb (2 * n % 2) 0 z, eq-eqb (2 * n + 1) (2 * n + 1) refl, q)

  shift_none : (r c : ℕ) → (r % 2 ≡ 0 → c ≢ r + 1) → (c % 2 ≡ 0 → r ≢ c + 1) → shifted s a r c ≡ a r c
  shift_none r c h g = rw (no-pair r c h, no-pair c r g)

-- pair n is shifted
pub shift-more : (s : ℕ → Float) (dim n : ℕ) (m₀ m m₂ : List Float) (x : Float) → 2 * n + 1 < dim → dim * dim ≤ length m₀ → x ≡ s n
    → PairsUpTo (shifted s (at dim m₀)) dim m₀ n m
    → m₂ ≡ set (set m (2 * n * dim + (2 * n + 1)) (add binary64 (at dim m (2 * n) (2 * n + 1)) x))
    ((2 * n + 1) * dim + 2 * n) (sub binary64 (at dim m (2 * n + 1) (2 * n)) x)
    → PairsUpTo (shifted s (at dim m₀)) dim m₀ (n + 1) m₂
shift-more s dim n m₀ m m₂ x h room ex w e =
    pairs-more (shifted s (at dim m₀)) dim m₀ n m _ m₂ _ _ h room w refl e
    ((λ t. add binary64 (old (2 * n) (2 * n + 1) (omega arith) h (omega arith) t) (ex t)) ∙ sym (shift-upper s (at dim m₀) n))
    ((λ t. sub binary64 (old (2 * n + 1) (2 * n) h (omega arith) (omega arith) t) (ex t)) ∙ sym (shift-lower s (at dim m₀) n))
    (shift_none s (at dim m₀))
  where
    old : (r c : ℕ) → r < dim → c < dim → r / 2 ≡ n → at dim m r c ≡ at dim m₀ r c
    old r c a b k = w.each r c a b ∙ up_left by_pairs _ _ n r c (le_of_eq (sym k))
