-- Laws of the numbers that pass a test: the first, their parity, and the list of all, which is ascending. Assumes nothing.
use mathlib.Core.Path.{◌≡◌, refl, sym, ap, ◌∙◌}
use mathlib.Core.Logic.{◌⊎◌, inl, inr, ◌≢◌}
use mathlib.Core.Bool.{Bool, true, false, not, cond}
use mathlib.Core.List.{List, [], ◌∷◌, ◌++◌}
use Prim.Native.Nat.{ℕ, zero, suc, ◌+◌, ◌-◌, ◌≤◌, ◌<◌}
use native.Mathlib.Nat.{not-suc-le-zero, le_refl, add-zero, zero-add}
use native.Mathlib.Numerals.{add-one}
use native.Mathlib.Omega.{arith}
use lib.ListN.{length, get_or, length-append, get_or-append}
use lib.Seq.{get_or-append-add}
use Rattle.std.proofs.lemmas.Bool.{cases_lt, cases_eq, cond_both}
use Rattle.laws.specs.Tests.{count}
use Rattle.queries.specs.Lists.{first_from, oddly, passing}

-- ---- the first, as a loop from k on meets it

module _ (p : ℕ → Bool) where
  pub first-hit : (k n : ℕ) → k < n → p k ≡ true → first_from p k (n - k) ≡ k
  unfolding first_from
  first-hit k n h e = let s : n - k ≡ suc (n - (k + 1)) = omega arith in rw (s, e)

  pub first-miss : (k n : ℕ) → k < n → p k ≡ false → first_from p k (n - k) ≡ first_from p (k + 1) (n - (k + 1))
  unfolding first_from
  first-miss k n h e = let s : n - k ≡ suc (n - (k + 1)) = omega arith in rw (s, e, add-one k)

  pub first-none : (k n : ℕ) → n ≤ k → first_from p k (n - k) ≡ k
  unfolding first_from
  first-none k n h = let s : n - k ≡ 0 = omega arith in rw s

  -- never beyond the numbers searched
  first-within : (n k : ℕ) → first_from p k n ≤ k + n
  unfolding first_from
  first-within zero k = omega arith
  first-within (suc n) k = cond_both (p k) _ _ (λ z. z ≤ k + suc n) (λ _. omega arith) (λ _. omega (arith, (first-within n (suc k))))

  pub first-end : (n place : ℕ) → place ≡ first_from p 0 n → n ≤ place → place ≡ n
  first-end n place e h = omega (arith, e, first-within n 0)

  -- none passes
  none_from : (n k : ℕ) → ((i : ℕ) → k ≤ i → i < k + n → p i ≡ false) → first_from p k n ≡ k + n
  unfolding first_from
  none_from zero k h = sym (add-zero k)
  none_from (suc n) k h =
      rw (h k (le_refl k) (omega arith)) (none_from n (suc k) (λ i a b. h i (omega arith) (omega arith)) ∙ omega arith)

  pub first-all : (n : ℕ) → ((k : ℕ) → k < n → p k ≡ false) → first_from p 0 n ≡ n
  first-all n h = none_from n 0 (λ k a b. h k (omega arith)) ∙ zero-add n

-- tests that agree have one first
pub first-same : (p q : ℕ → Bool) (n : ℕ) → ((k : ℕ) → k < n → p k ≡ q k) → first_from p 0 n ≡ first_from q 0 n
unfolding first_from
first-same p q n h = by n 0 (λ i a b. h i (omega arith))
  where
    by : (n k : ℕ) → ((i : ℕ) → k ≤ i → i < k + n → p i ≡ q i) → first_from p k n ≡ first_from q k n
    by zero k h = refl
    by (suc n) k h = rw (h k (le_refl k) (omega arith), by n (suc k) (λ i a b. h i (omega arith) (omega arith)))

-- ---- the parity

pub odd-on : (p : ℕ → Bool) (n : ℕ) → p n ≡ true → oddly p (n + 1) ≡ not (oddly p n)
unfolding oddly
odd-on p n e = rw (add-one, e)

pub odd-off : (p : ℕ → Bool) (n : ℕ) → p n ≡ false → oddly p (n + 1) ≡ oddly p n
unfolding oddly
odd-off p n e = rw (add-one, e)

-- one turn more
pub odd-more : (p : ℕ → Bool) (n : ℕ) (a b : Bool) → a ≡ oddly p n → b ≡ cond (p n) (not a) a → b ≡ oddly p (n + 1)
unfolding oddly
odd-more p n a b e f = f ∙ rw (e, add-one)

pub odd-same : (p q : ℕ → Bool) (n : ℕ) → ((k : ℕ) → k < n → p k ≡ q k) → oddly p n ≡ oddly q n
unfolding oddly
odd-same p q zero h = refl
odd-same p q (suc n) h = rw (h n (omega arith), odd-same p q n (λ k g. h k (omega arith)))

pub odd-none : (p : ℕ → Bool) (n : ℕ) → ((k : ℕ) → k < n → p k ≡ false) → oddly p n ≡ false
unfolding oddly
odd-none p zero h = refl
odd-none p (suc n) h = rw (h n (omega arith), odd-none p n (λ k g. h k (omega arith)))

-- ---- the list of all

pub passing-none : (p : ℕ → Bool) (n : ℕ) → ((k : ℕ) → k < n → p k ≡ false) → passing p n ≡ []
unfolding passing
passing-none p zero h = refl
passing-none p (suc n) h = rw (h n (omega arith), passing-none p n (λ k g. h k (omega arith)))

pub passing-same : (p q : ℕ → Bool) (n : ℕ) → ((k : ℕ) → k < n → p k ≡ q k) → passing p n ≡ passing q n
unfolding passing
passing-same p q zero h = refl
passing-same p q (suc n) h = rw (h n (omega arith), passing-same p q n (λ k g. h k (omega arith)))

-- what stands in a list with one element more
module _ (l : List ℕ) (x : ℕ) where
  long-snoc : length (l ++ (x ∷ [])) ≡ suc (length l)
  long-snoc = omega (arith, length-append l (x ∷ []))

  pub last_snoc : (j : ℕ) → j ≡ length l → get_or (l ++ (x ∷ [])) j 0 ≡ x
  last_snoc j e = ap (λ i. get_or (l ++ (x ∷ [])) i 0) (e ∙ sym (add-zero (length l))) ∙ get_or-append-add l (x ∷ []) 0 0

  pub early-snoc : (j : ℕ) → j < length l → get_or (l ++ (x ∷ [])) j 0 ≡ get_or l j 0
  early-snoc j h = get_or-append l (x ∷ []) 0 j h

module _ (p : ℕ → Bool) where
  pub passing-on : (n : ℕ) → p n ≡ true → passing p (n + 1) ≡ passing p n ++ (n ∷ [])
  unfolding passing
  passing-on n e = rw (add-one, e)

  pub passing-off : (n : ℕ) → p n ≡ false → passing p (n + 1) ≡ passing p n
  unfolding passing
  passing-off n e = rw (add-one, e)

  -- an element passes and is below n, and a later one is larger
  pub record Ascending (n : ℕ) (l : List ℕ) : Type 0 where
    pub few : length l ≤ n
    pub below : (j : ℕ) → j < length l → get_or l j 0 < n
    pub passes : (j : ℕ) → j < length l → p (get_or l j 0) ≡ true
    pub larger : (i j : ℕ) → i < j → j < length l → get_or l i 0 < get_or l j 0

  pub passing-ascends : (n : ℕ) → Ascending n (passing p n)
  unfolding passing
  passing-ascends zero = record {
    few = omega arith;
    below = λ j h. absurd (not-suc-le-zero h);
    passes = λ j h. absurd (not-suc-le-zero h);
    larger = λ i j g h. absurd (not-suc-le-zero h);
  }
  passing-ascends (suc n) = by (p n) refl (passing-ascends n)
    where
      l : List ℕ
      l = passing p n

      by : (t : Bool) → p n ≡ t → Ascending n l → Ascending (suc n) (cond t (l ++ (n ∷ [])) l)
      by false e w = record {
        few = omega (arith, w.few);
        below = λ j h. omega (arith, w.below j h);
        passes = w.passes;
        larger = w.larger;
      }
      by true e w = record {
        few = omega (arith, long-snoc l n, w.few);
        below = λ j h. below j (end j h);
        passes = λ j h. passes j (end j h);
        larger = λ i j g h. larger i j g (end j h);
      }
        where
          end : (j : ℕ) → j < length (l ++ (n ∷ [])) → (j ≡ length l) ⊎ (j < length l)
          end j h = pick (cases_lt j (length l))
            where
              pick : (j < length l) ⊎ (length l ≤ j) → (j ≡ length l) ⊎ (j < length l)
              pick (inl g) = inr g
              pick (inr g) = inl (omega (arith, long-snoc l n))

          below : (j : ℕ) → (j ≡ length l) ⊎ (j < length l) → get_or (l ++ (n ∷ [])) j 0 < suc n
          below j (inl q) = rw (last_snoc l n j q) (le_refl (suc n))
          below j (inr q) = rw (early-snoc l n j q) (omega (arith, w.below j q))

          passes : (j : ℕ) → (j ≡ length l) ⊎ (j < length l) → p (get_or (l ++ (n ∷ [])) j 0) ≡ true
          passes j (inl q) = rw (last_snoc l n j q) e
          passes j (inr q) = rw (early-snoc l n j q) (w.passes j q)

          larger : (i j : ℕ) → i < j → (j ≡ length l) ⊎ (j < length l) → get_or (l ++ (n ∷ [])) i 0 < get_or (l ++ (n ∷ [])) j 0
          larger i j g (inl q) =
              let h : i < length l = omega arith in
              rw (last_snoc l n j q, early-snoc l n i h) (w.below i h)
          larger i j g (inr q) =
              let h : i < length l = omega arith in
              rw (early-snoc l n j q, early-snoc l n i h) (w.larger i j g q)

  -- none from k on: those below k are all
  pub passing-rest : (k n : ℕ) → k ≤ n → ((j : ℕ) → k ≤ j → j < n → p j ≡ false) → passing p k ≡ passing p n
  unfolding passing
  passing-rest k zero l h = let e : k ≡ 0 = omega arith in ap (passing p) e
  passing-rest k (suc n) l h = by (cases_lt k (suc n)) (passing-rest k n)
    where
      by : (k < suc n) ⊎ (suc n ≤ k) → (k ≤ n → ((j : ℕ) → k ≤ j → j < n → p j ≡ false) → passing p k ≡ passing p n) → passing p k ≡ passing p (suc n)
      by (inr g) rest = let e : k ≡ suc n = omega arith in ap (passing p) e
      by (inl g) rest = rw (h n (omega arith) (omega arith)) (rest (omega arith) (λ j a b. h j a (omega arith)))

  -- as many as pass
  pub passing-count : (n : ℕ) → length (passing p n) ≡ count p n
  unfolding passing count
  passing-count zero = refl
  passing-count (suc n) = by (p n) (passing-count n)
    where
      by : (t : Bool) → length (passing p n) ≡ count p n → length (cond t (passing p n ++ (n ∷ [])) (passing p n)) ≡ cond t 1 0 + count p n
      by true e = long-snoc (passing p n) n ∙ omega (arith, e)
      by false e = omega (arith, e)

  -- every number below n that passes is one of them
  pub passing-all : (n k : ℕ) → k < n → p k ≡ true → (j : ℕ) × ((j < length (passing p n)) × (get_or (passing p n) j 0 ≡ k))
  unfolding passing
  passing-all zero k h e = absurd (not-suc-le-zero h)
  passing-all (suc n) k h e = by (p n) refl (cases_eq k n) (passing-all n k)
    where
      l : List ℕ
      l = passing p n

      Has : List ℕ → Type 0
      Has l = (j : ℕ) × ((j < length l) × (get_or l j 0 ≡ k))

      by : (t : Bool) → p n ≡ t → (k ≡ n) ⊎ (k ≢ n) → (k < n → p k ≡ true → Has l) → Has (cond t (l ++ (n ∷ [])) l)
      by true f (inl q) r = (length l, (omega (arith, long-snoc l n), last_snoc l n (length l) refl ∙ sym q))
      by true f (inr q) r =
          let w = r (omega arith) e in
          (w.0, (omega (arith, long-snoc l n, w.1.0), early-snoc l n w.0 w.1.0 ∙ w.1.1))
      by false f (inl q) r = let z : true ≡ false = sym e ∙ ap p q ∙ f in absurd (false-true z)
        where
          false-true : true ≡ false → ⊥
          false-true z = let y : ◌≡◌ {A = ℕ} 0 1 = cc in omega arith
      by false f (inr q) r = r (omega arith) e
