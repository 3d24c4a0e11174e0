-- Row i of a matrix made anew by the rows a and a + 1 right of the diagonal, and then row i + 1: one loop over the columns makes both, since neither
-- reads the other. Assumes nothing.
use mathlib.Core.Path.{◌≡◌, refl, sym, ap, ◌∙◌}
use mathlib.Core.Logic.{◌⊎◌, inl, inr, ◌≢◌}
use mathlib.Core.Bool.{cond, and-false}
use mathlib.Core.List.{List}
use Prim.Native.Nat.{ℕ, zero, suc, ◌+◌, ◌*◌, ◌≤◌, ◌<◌}
use native.Mathlib.Nat.{add-zero, le_refl, le_of_eq, le_of_suc-le-suc, not-suc-le-zero}
use native.Mathlib.Omega.{arith}
use lib.Dec.{eqb, leb}
use lib.ListN.{length, set}
use lib.Ieee.{Float}
use borrow.Author.Tests.{eq-eqb, ne_eqb, le-ltb}
use Rattle.laws.specs.Matrix.{Mat, at, matrix, Is}
use Rattle.laws.specs.Steps.{masked, in_row, right_from, Formula, by_pair}
use Rattle.laws.specs.Loops.{up_to, by_row, by_col}
use Rattle.std.proofs.lemmas.Bool.{cases_lt, cases_eq}
use Rattle.laws.proofs.Matrix.{Within, is-matrix, matrix-then}
use Rattle.laws.proofs.Loops.{up_done, up_left, none_from, made}
use Rattle.laws.proofs.Stores.{stores-first, stores-more}
use Rattle.laws.proofs.Columns.{column-more, entry_more}
use Rattle.laws.proofs.Sweep.{Swept, masked_on, masked_off}
use Rattle.laws.proofs.Eliminations.{right-on}

-- two numbers by their index
pair : Float → Float → ℕ → Float
pair x y zero = x
pair x y (suc i) = y

-- ---- the two rows

module _ (a : ℕ) (g : Formula) (dim i : ℕ) (m : List Float) where
  -- row i anew, and then row i + 1
  abbrev one : Mat
  one = masked (in_row i (right_from (a + 2))) (by_pair a g (at dim m)) (at dim m)

  abbrev then : Mat → Mat
  then f = masked (in_row (i + 1) (right_from (a + 2))) (by_pair a g f) f

  -- the columns before n have both
  abbrev pub TwoRows : ℕ → List Float → Type 0
  TwoRows n m' = Is dim m (up_to by_col n (then one) (at dim m)) m'

  one-other : (r c : ℕ) → r ≢ i → one r c ≡ at dim m r c
  one-other r c ne = masked_off _ _ _ r c (rw (ne_eqb r i ne))

  both-other : (r c : ℕ) → r ≢ i → r ≢ i + 1 → then one r c ≡ at dim m r c
  both-other r c ne ne' = masked_off _ _ _ r c (rw (ne_eqb r (i + 1) ne')) ∙ one-other r c ne

  both_left : (r c : ℕ) → c ≤ r → then one r c ≡ at dim m r c
  both_left r c l =
      masked_off _ _ _ r c (rw (le-ltb r c l, and-false (leb (a + 2) r)) (and-false (eqb r (i + 1))))
      ∙ masked_off _ _ _ r c (rw (le-ltb r c l, and-false (leb (a + 2) r)) (and-false (eqb r i)))

  module _ (after : a + 2 ≤ i) (inside : i + 1 < dim) (room : dim * dim ≤ length m) where
    upper : (c : ℕ) → i < c → then one i c ≡ by_pair a g (at dim m) i c
    upper c l =
        masked_off _ _ _ i c (rw (ne_eqb i (i + 1) (λ e. omega arith)))
        ∙ masked_on _ _ _ i c (rw (eq-eqb i i refl) (right-on (a + 2) i c after l))

    lower : (c : ℕ) → i + 1 < c → then one (i + 1) c ≡ by_pair a g (at dim m) (i + 1) c
    lower c l =
        let first : (c : ℕ) → one a c ≡ at dim m a c = λ c. one-other a c (λ e. omega arith) in
        let second : (c : ℕ) → one (a + 1) c ≡ at dim m (a + 1) c = λ c. one-other (a + 1) c (λ e. omega arith) in
        masked_on _ _ _ (i + 1) c (rw (eq-eqb (i + 1) (i + 1) refl) (right-on (a + 2) (i + 1) c (omega arith) l))
        ∙ (λ t. g (one-other (i + 1) c (λ e. omega arith) t) (first (i + 1) t) (first c t) (second (i + 1) t) (second c t))

    -- the start: column i + 1, which row i alone has right of the diagonal
    pub two-start : (m' : List Float) (x : Float) → x ≡ by_pair a g (at dim m) i (i + 1) → m' ≡ set m (i * dim + (i + 1)) x → TwoRows (i + 1 + 1) m'
    two-start m' x v e =
        entry_more _ _ dim i (i + 1) m m m' x (omega arith) inside room
        (λ r h ne. next r ne (cases_eq r (i + 1)))
        (v ∙ sym (upper (i + 1) (omega arith)))
        (none_from by_col _ _ dim (i + 1) m (λ r c h l. refl) (λ r c h l k. low r c k (cases_eq r i) (cases_eq r (i + 1))))
        e
      where
        next : (r : ℕ) → r ≢ i → (r ≡ i + 1) ⊎ (r ≢ i + 1) → then one r (i + 1) ≡ at dim m r (i + 1)
        next r ne (inl k) = both_left r (i + 1) (le_of_eq (sym k))
        next r ne (inr k) = both-other r (i + 1) ne k

        low : (r c : ℕ) → c < i + 1 → (r ≡ i) ⊎ (r ≢ i) → (r ≡ i + 1) ⊎ (r ≢ i + 1) → then one r c ≡ at dim m r c
        low r c k (inl q) _ = both_left r c (omega arith)
        low r c k (inr _) (inl q) = both_left r c (omega arith)
        low r c k (inr p) (inr q) = both-other r c p q

    -- a turn: what the rows a and a + 1 have in the columns i and i + 1 was read before the loop
    pub two-more : (n : ℕ) (l m' : List Float) (x y : Float) → i + 1 < n → n < dim
        → x ≡ g (at dim l i n) (at dim m a i) (at dim l a n) (at dim m (a + 1) i) (at dim l (a + 1) n)
        → y ≡ g (at dim l (i + 1) n) (at dim m a (i + 1)) (at dim l a n) (at dim m (a + 1) (i + 1)) (at dim l (a + 1) n)
        → TwoRows n l → m' ≡ set (set l (i * dim + n) x) ((i + 1) * dim + n) y → TwoRows (n + 1) m'
    unfolding pair
    two-more n l m' x y hn h vx vy w e =
        let p : ℕ → ℕ = λ j. (i + j) * dim + n in
        column-more _ _ dim i 2 n (pair x y) m l m' (omega arith) h room (λ r b q. both-other r n (λ k. apart r q (inl k)) (λ k. apart r q (inr k))) put w
        (stores-more p (pair x y) l 1 _ m' (stores-first p (pair x y) l (i * dim + n) _ (rw add-zero) refl) e)
      where
        apart : (r : ℕ) → (r < i) ⊎ (i + 2 ≤ r) → (r ≡ i) ⊎ (r ≡ i + 1) → ⊥
        apart r (inl k) (inl q) = omega arith
        apart r (inl k) (inr q) = omega arith
        apart r (inr k) (inl q) = omega arith
        apart r (inr k) (inr q) = omega arith

        old : (r : ℕ) → r < dim → at dim l r n ≡ at dim m r n
        old r b = w.each r n b h ∙ up_left by_col _ _ n r n (le_refl n)

        put : (j : ℕ) → j < 2 → pair x y j ≡ then one (i + j) n
        put zero b =
            vx
            ∙ (λ t. g (old i (omega arith) t) (at dim m a i) (old a (omega arith) t) (at dim m (a + 1) i) (old (a + 1) (omega arith) t))
            ∙ sym (upper n (omega arith))
            ∙ ap (λ r. then one r n) (sym (add-zero i))
        put (suc zero) b =
            vy
            ∙ (λ t. g (old (i + 1) inside t) (at dim m a (i + 1)) (old a (omega arith) t) (at dim m (a + 1) (i + 1)) (old (a + 1) (omega arith) t))
            ∙ sym (lower n hn)
        put (suc (suc j)) b = absurd (not-suc-le-zero (le_of_suc-le-suc (le_of_suc-le-suc b)))

    within : Within dim then
    unfolding masked
    within f f' same r c h l =
        λ t. cond (in_row (i + 1) (right_from (a + 2)) r c)
        (g (same r c h l t) (same a r (omega arith) h t) (same a c (omega arith) l t) (same (a + 1) r (omega arith) h t) (same (a + 1) c (omega arith) l t))
        (same r c h l t)

    -- the end: row i, and then row i + 1 of what that left
    pub two-done : (n : ℕ) (m' : List Float) → dim ≤ n → TwoRows n m'
        → m' ≡ matrix dim (then (at dim (matrix dim one m))) (matrix dim one m)
    two-done n m' l w =
        made by_col _ _ dim n m m' (λ r c h b. omega arith) w
        ∙ sym (matrix-then dim m (matrix dim one m) (matrix dim (then (at dim (matrix dim one m))) (matrix dim one m)) one then room within refl refl)

-- ---- all rows, two a turn: the last may be left out, since it has nothing right of the diagonal

pub last_row : (s : ℕ) (new : Mat) (dim n : ℕ) (m₀ m : List Float) → dim ≤ n + 1 → Swept by_row (right_from s) new dim m₀ n m
    → m ≡ matrix dim (masked (right_from s) new (at dim m₀)) m₀
last_row s new dim n m₀ m l w = is-matrix dim m₀ _ m (record { long = w.long; each = λ r c h g. w.each r c h g ∙ by r c h g (cases_lt r n); after = w.after })
  where
    by : (r c : ℕ) → r < dim → c < dim → (r < n) ⊎ (n ≤ r) → up_to by_row n (masked (right_from s) new (at dim m₀)) (at dim m₀) r c ≡ masked (right_from s) new (at dim m₀) r c
    by r c h g (inl k) = up_done by_row _ _ n r c k
    by r c h g (inr k) =
        up_left by_row _ _ n r c k ∙ sym (masked_off (right_from s) new (at dim m₀) r c (rw (le-ltb r c (omega arith)) (and-false (leb s r))))
