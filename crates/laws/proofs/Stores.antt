-- Laws of a run of stores, at any places, and of a row that is stored and read back, over its width. By induction on how many stores there are.
-- Assumes nothing.
use mathlib.Core.Path.{◌≡◌, refl, sym, ap, ◌∙◌}
use mathlib.Core.Logic.{◌≢◌, ⊎_elim}
use mathlib.Core.List.{List}
use Prim.Native.Nat.{ℕ, zero, suc, ◌+◌, ◌≤◌, ◌<◌}
use native.Mathlib.Nat.{add-zero, le_of_suc-le-suc, not-suc-le-zero, eq-or-lt_of_le, lt_irrefl}
use native.Mathlib.Omega.{arith}
use lib.ListN.{length, get_or, set, length-set}
use lib.Seq.{get_or-set_same, get_or-set_other}
use Rattle.laws.specs.Slices.{stores, put_row}

-- ---- stores at the places p 0, p 1, .., p (n - 1)

module _ {A : Type 0} (p : ℕ → ℕ) (v : ℕ → A) (l : List A) where
  pub length-stores : (n : ℕ) → length (stores n p v l) ≡ length l
  unfolding stores
  length-stores zero = refl
  length-stores (suc n) = length-set (stores n p v l) (p n) (v n) ∙ length-stores n

  pub stores-other : (n i : ℕ) (d : A) → ((j : ℕ) → j < n → i ≢ p j) → get_or (stores n p v l) i d ≡ get_or l i d
  unfolding stores
  stores-other zero i d ne = refl
  stores-other (suc n) i d ne =
      get_or-set_other (stores n p v l) (p n) i (v n) d (ne n (omega arith)) ∙ stores-other n i d (λ j h. ne j (omega arith))

  pub stores-own : (n i : ℕ) (d : A) → i < n → p i < length l → ((j : ℕ) → j < n → p i ≡ p j → i ≡ j) → get_or (stores n p v l) (p i) d ≡ v i
  unfolding stores
  stores-own zero i d h b inj = absurd (not-suc-le-zero h)
  stores-own (suc n) i d h b inj =
      ⊎_elim
      (λ e. rw e (get_or-set_same (stores n p v l) (p n) (v n) d (rw (length-stores n) (rw e at b))))
      (λ g.
      get_or-set_other (stores n p v l) (p n) (p i) (v n) d (λ e. lt_irrefl n (rw (inj n (omega arith) e) at g))
      ∙ stores-own n i d g b (λ j k. inj j (omega arith)))
      (eq-or-lt_of_le (le_of_suc-le-suc h))

  -- the first store, at a place that the code writes in its own way, and one store more
  pub stores-first : (a : ℕ) (l₁ : List A) → a ≡ p 0 → l₁ ≡ set l a (v 0) → l₁ ≡ stores 1 p v l
  unfolding stores
  stores-first a l₁ e e₁ = e₁ ∙ ap (λ k. set l k (v 0)) e

  pub stores-more : (n : ℕ) (l₁ l₂ : List A) → l₁ ≡ stores n p v l → l₂ ≡ set l₁ (p n) (v n) → l₂ ≡ stores (suc n) p v l
  unfolding stores
  stores-more n l₁ l₂ e₁ e₂ = e₂ ∙ ap (λ t. set t (p n) (v n)) e₁

-- ---- a row of n elements, stored from a on

module _ {A : Type 0} (n a : ℕ) (v : ℕ → A) (l : List A) where
  -- it is read back
  pub row-own : (i : ℕ) (d : A) → i < n → a + n ≤ length l → get_or (put_row n a v l) (a + i) d ≡ v i
  row-own i d h room = stores-own (λ i. a + i) v l n i d h (omega arith) (λ j g e. omega arith)

  -- its first element, where the code has a for a + 0
  pub row_first : (d : A) → 0 < n → a + n ≤ length l → get_or (put_row n a v l) a d ≡ v 0
  row_first d h room = ap (λ k. get_or (put_row n a v l) k d) (sym (add-zero a)) ∙ row-own 0 d h room

  -- what is before it and after it stays
  pub row_before : (i : ℕ) (d : A) → i < a → get_or (put_row n a v l) i d ≡ get_or l i d
  row_before i d h = stores-other (λ i. a + i) v l n i d (λ j g e. omega arith)

  pub row-after : (i : ℕ) (d : A) → a + n ≤ i → get_or (put_row n a v l) i d ≡ get_or l i d
  row-after i d h = stores-other (λ i. a + i) v l n i d (λ j g e. omega arith)
