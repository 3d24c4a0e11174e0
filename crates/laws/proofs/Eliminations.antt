-- Four eliminations, as uses of the laws of a sweep; their formulas are parameters.
-- A row from a column on: each entry made from itself (the pivot's row divided), or from the entry across the diagonal (a column laid over a row).
-- The rows from k + 2 on, made by the rows k and k + 1: the columns from k + 2 on (the Pfaffian), or those right of the diagonal (a sample).
-- Assumes nothing.
use mathlib.Core.Path.{◌≡◌, sym, ap, ◌∙◌}
use mathlib.Core.Logic.{◌⊎◌, inl, inr, ◌≢◌, ⊎_elim}
use mathlib.Core.Bool.{true, false, true≢false, and-false}
use mathlib.Core.List.{List}
use Prim.Native.Nat.{ℕ, ◌+◌, ◌*◌, ◌≤◌, ◌<◌}
use native.Mathlib.Nat.{le_refl}
use native.Mathlib.Omega.{arith}
use lib.Dec.{eqb, leb}
use lib.ListN.{length, set}
use lib.Ieee.{Float}
use borrow.Author.Tests.{ne_eqb, le-leb, lt-leb, lt-ltb, le-ltb}
use Rattle.laws.specs.Matrix.{Mat, at, matrix}
use Rattle.laws.specs.Steps.{Mask, masked, in_row, cols_from, corner_from, right_from, Formula, by_pair}
use Rattle.laws.specs.Loops.{by_row, by_col}
use Rattle.std.proofs.lemmas.Bool.{cases_lt, cases_eq}
use Rattle.laws.proofs.Sweep.{Swept, Reads, sweep-start, sweep-out, sweep-left, sweep-store, sweep-row}

-- ---- row i from column s on, by a formula h of one float

pub cols-row-start : (s : ℕ) (new : Mat) (dim i : ℕ) (m : List Float) → Swept by_col (in_row i (cols_from s)) new dim m s m
cols-row-start s new dim i m = sweep-start by_col (in_row i (cols_from s)) new dim s m (λ r c k. rw (lt-leb s c k) (and-false (eqb r i)))

module _ (h : Float → Float) (i s dim : ℕ) where
  -- each entry from itself
  abbrev pub Scaled : List Float → ℕ → List Float → Type 0
  Scaled m₀ n m = Swept by_col (in_row i (cols_from s)) (λ r c. h (at dim m₀ r c)) dim m₀ n m

  pub scaled-more : (n : ℕ) (m₀ m m' : List Float) (x : Float) → i < dim → s ≤ n → n < dim → dim * dim ≤ length m₀
      → x ≡ h (at dim m i n) → Scaled m₀ n m → m' ≡ set m (i * dim + n) x → Scaled m₀ (n + 1) m'
  scaled-more n m₀ m m' x hi hs hn room e w e' =
      sweep-store (cols_from s) _ dim i n m₀ m m' x hi hn room (le-leb s n hs) (e ∙ ap h (sweep-left by_col _ _ dim m₀ n m w i n hi hn (le_refl n))) w e'

  -- each entry from the one across the diagonal; column i lies before the mask
  abbrev pub Laid : List Float → ℕ → List Float → Type 0
  Laid m₀ n m = Swept by_col (in_row i (cols_from s)) (λ r c. h (at dim m₀ c r)) dim m₀ n m

  pub laid_more : (n : ℕ) (m₀ m m' : List Float) (x : Float) → i < s → s ≤ n → n < dim → dim * dim ≤ length m₀
      → x ≡ h (at dim m n i) → Laid m₀ n m → m' ≡ set m (i * dim + n) x → Laid m₀ (n + 1) m'
  laid_more n m₀ m m' x hi hs hn room e w e' =
      let i-in : i < dim = omega arith in
      sweep-store (cols_from s) _ dim i n m₀ m m' x i-in hn room (le-leb s n hs)
      (e ∙ ap h (sweep-out by_col _ _ dim m₀ n m w n i hn i-in (rw (lt-leb s i hi) (and-false (eqb n i)))))
      w e'

-- ---- by the rows k and k + 1 and a formula g of five floats, under a mask p

-- row i, and all rows
abbrev pub PairRow : ℕ → Formula → Mask → ℕ → ℕ → List Float → ℕ → List Float → Type 0
PairRow k g p dim i m₀ n m = Swept by_col (in_row i p) (by_pair k g (at dim m₀)) dim m₀ n m

abbrev pub Pair : ℕ → Formula → Mask → ℕ → List Float → ℕ → List Float → Type 0
Pair k g p dim m₀ n m = Swept by_row p (by_pair k g (at dim m₀)) dim m₀ n m

-- the mask leaves out the rows before k + 2, so that the rows k and k + 1 stay
module _ (k : ℕ) (g : Formula) (p : Mask) (dim : ℕ) (low : (r c : ℕ) → r < k + 2 → p r c ≡ false) where
  on-rows : (r c : ℕ) → p r c ≡ true → k + 2 ≤ r
  on-rows r c e = ⊎_elim (λ l. absurd (true≢false (sym e ∙ low r c l))) (λ l. l) (cases_lt r (k + 2))

  pair_reads : Reads dim p (by_pair k g)
  pair_reads f f' same r c hr hc e own =
      let l = on-rows r c e in
      let first : (j : ℕ) → j < dim → f k j ≡ f' k j = λ j b. same k j (omega arith) b (low k j (omega arith)) in
      let second : (j : ℕ) → j < dim → f (k + 1) j ≡ f' (k + 1) j = λ j b. same (k + 1) j (omega arith) b (low (k + 1) j (omega arith)) in
      λ t. g (own t) (first r hr t) (first c hc t) (second r hr t) (second c hc t)

  -- row i: what the rows k and k + 1 have in column i was read before the loop
  pub pair-row-more : (i n : ℕ) (m₀ m m' : List Float) (x : Float) → i < dim → n < dim → dim * dim ≤ length m₀ → p i n ≡ true
      → x ≡ g (at dim m i n) (at dim m₀ k i) (at dim m k n) (at dim m₀ (k + 1) i) (at dim m (k + 1) n)
      → PairRow k g p dim i m₀ n m → m' ≡ set m (i * dim + n) x → PairRow k g p dim i m₀ (n + 1) m'
  pair-row-more i n m₀ m m' x hi hn room on e w e' =
      let l = on-rows i n on in
      let old : (r : ℕ) → r < dim → at dim m r n ≡ at dim m₀ r n = λ r b. sweep-left by_col _ _ dim m₀ n m w r n b hn (le_refl n) in
      sweep-store p _ dim i n m₀ m m' x hi hn room on
      (e ∙ (λ t. g (old i hi t) (at dim m₀ k i) (old k (omega arith) t) (at dim m₀ (k + 1) i) (old (k + 1) (omega arith) t)))
      w e'

  -- all rows: a turn is a callee's row
  pub pair-more : (n : ℕ) (m₀ m m' : List Float) → dim * dim ≤ length m₀
      → Pair k g p dim m₀ n m → m' ≡ matrix dim (masked (in_row n p) (by_pair k g (at dim m)) (at dim m)) m → Pair k g p dim m₀ (n + 1) m'
  pair-more n m₀ m m' room w e = sweep-row p (by_pair k g) dim n m₀ m m' pair_reads room w e

-- ---- the two masks: which rows they leave out, which entries they have, and where the loop over the columns of row i starts

module _ (s : ℕ) where
  pub corner-low : (r c : ℕ) → r < s → corner_from s r c ≡ false
  corner-low r c h = rw (lt-leb s r h)

  pub corner-on : (r c : ℕ) → s ≤ r → s ≤ c → corner_from s r c ≡ true
  corner-on r c h g = rw (le-leb s r h, le-leb s c g)

  pub corner-row-start : (new : Mat) (dim i : ℕ) (m : List Float) → Swept by_col (in_row i (corner_from s)) new dim m s m
  corner-row-start new dim i m =
      sweep-start by_col (in_row i (corner_from s)) new dim s m (λ r c k. rw (lt-leb s c k, and-false (leb s r)) (and-false (eqb r i)))

  pub right-low : (r c : ℕ) → r < s → right_from s r c ≡ false
  right-low r c h = rw (lt-leb s r h)

  pub right-on : (r c : ℕ) → s ≤ r → r < c → right_from s r c ≡ true
  right-on r c h g = rw (le-leb s r h, lt-ltb r c g)

  pub right-row-start : (new : Mat) (dim i : ℕ) (m : List Float) → Swept by_col (in_row i (right_from s)) new dim m (i + 1) m
  right-row-start new dim i m = sweep-start by_col (in_row i (right_from s)) new dim (i + 1) m (λ r c k. out r c (omega arith) (cases_eq r i))
    where
      out : (r c : ℕ) → c ≤ i → (r ≡ i) ⊎ (r ≢ i) → in_row i (right_from s) r c ≡ false
      out r c l (inl e) = rw (e, le-ltb i c l, and-false (leb s i)) (and-false (eqb i i))
      out r c l (inr e) = rw (ne_eqb r i e)
