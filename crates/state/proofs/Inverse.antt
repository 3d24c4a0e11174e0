-- A permutation has an inverse: every mode below n is the mode of a qubit below n, which `qubit_at` finds. By counting: n different numbers below n
-- leave none out. And a table of n modes below n that leaves none out is a permutation. Assumes nothing.
use mathlib.Core.Logic.{⊎_elim}
use Rattle.std.proofs.Common.{◌≡◌, ℕ, zero, suc, ◌<◌, ◌≤◌, true, eqb, ◌≢◌, ◌⊎◌, List, sym, refl, ap, ◌∙◌, inl, inr, suc-le-suc, zero-le, le_refl, not-suc-le-zero, arith, eq-eqb, eqb-true}
use mathlib.Core.Bool.{false≢true}
use Rattle.laws.specs.Tables.{exchanged, mode_at}
use Rattle.laws.specs.Tests.{all_below}
use Rattle.laws.specs.Views.{seek}
use Rattle.std.proofs.lemmas.Bool.{cases_lt, cases_eq}
use Rattle.laws.proofs.Tables.{exchanged-first, exchanged-second, exchanged-away, exchanged-twice, exchanged-below}
use Rattle.laws.proofs.Views.{seek-fails, seek-passes, seek-gap}
use Rattle.state.specs.Modes.{mode_ok, is_permutation, qubit_at}
use Rattle.state.proofs.Permutations.{modes-fit, mode-below, mode-one}

-- ---- counting

not_last : (a b : ℕ) → a < suc b → a ≢ b → a < b
not_last a b h ne = ⊎_elim (λ x. x) (λ x. absurd (ne (omega arith))) (cases_lt a b)

-- f takes the numbers below m to different numbers below n
record Into (m n : ℕ) (f : ℕ → ℕ) : Type 0 where
  below : (i : ℕ) → i < m → f i < n
  one : (i j : ℕ) → i < m → j < m → f i ≡ f j → i ≡ j

module _ (a b : ℕ) (f : ℕ → ℕ) where
  -- two values exchanged: still different
  exchanged-one : (m : ℕ) → ((i j : ℕ) → i < m → j < m → f i ≡ f j → i ≡ j) → (i j : ℕ) → i < m → j < m
      → exchanged a b (f i) ≡ exchanged a b (f j) → i ≡ j
  exchanged-one m one i j h g e =
      one i j h g (sym (exchanged-twice a b (f i)) ∙ ap (exchanged a b) e ∙ exchanged-twice a b (f j))

-- f with its last value put out of the way
shorter : (m n : ℕ) (f : ℕ → ℕ) → Into (suc m) (suc n) f → Into m n (λ i. exchanged n (f m) (f i))
shorter m n f w = record {
  below = λ i h. by i h (cases_eq (f i) n);
  one = exchanged-one n (f m) f m (λ i j h g e. w.one i j (omega arith) (omega arith) e);
}
  where
    apart : (i : ℕ) → i < m → f i ≢ f m
    apart i h e = let z : i ≡ m = w.one i m (omega arith) (le_refl (suc m)) e in omega arith

    by : (i : ℕ) → i < m → (f i ≡ n) ⊎ (f i ≢ n) → exchanged n (f m) (f i) < n
    by i h (inl e) =
        let last : f m < suc n = w.below m (le_refl (suc m)) in
        let ne : f m ≢ n = λ x. apart i h (e ∙ sym x) in
        let z : f m < n = not_last (f m) n last ne in
        rw (ap (exchanged n (f m)) e ∙ exchanged-first n (f m)) z
    by i h (inr e) =
        let here : f i < suc n = w.below i (omega arith) in
        rw (exchanged-away n (f m) (f i) e (apart i h)) (not_last (f i) n here e)

into-le : (n m : ℕ) (f : ℕ → ℕ) → Into m n f → m ≤ n
into-le zero zero f w = zero-le
into-le zero (suc m) f w = absurd (not-suc-le-zero (w.below 0 (suc-le-suc zero-le)))
into-le (suc n) zero f w = zero-le
into-le (suc n) (suc m) f w = suc-le-suc (into-le n m (λ i. exchanged n (f m) (f i)) (shorter m n f w))

-- a number that is left out leaves too few
all-met : (n k : ℕ) (f : ℕ → ℕ) → Into n n f → k < n → ((i : ℕ) → i < n → f i ≢ k) → ⊥
all-met zero k f w h ne = not-suc-le-zero h
all-met (suc n) k f w h ne =
    let z : suc n ≤ n = into-le n (suc n) (λ i. exchanged k n (f i)) (record { below = low; one = exchanged-one k n f (suc n) w.one }) in
    omega arith
  where
    low : (i : ℕ) → i < suc n → exchanged k n (f i) < n
    low i g =
        let b : exchanged k n (f i) < suc n = exchanged-below k n (suc n) (f i) h (le_refl (suc n)) (w.below i g) in
        by (cases_eq (exchanged k n (f i)) n) b
      where
        by : (exchanged k n (f i) ≡ n) ⊎ (exchanged k n (f i) ≢ n) → exchanged k n (f i) < suc n → exchanged k n (f i) < n
        by (inl e) b = absurd (ne i g (sym (exchanged-twice k n (f i)) ∙ ap (exchanged k n) e ∙ exchanged-second k n))
        by (inr e) b = not_last (exchanged k n (f i)) n b e

-- ---- the qubit of a mode that some qubit has

module _ (n : ℕ) (l : List ℕ) (k : ℕ) (met : ((q : ℕ) → q < n → mode_at l q ≢ k) → ⊥) where
  hit : (i : ℕ) → seek (λ q. eqb (mode_at l q) k) n ≡ i → 0 < i
  hit zero e = absurd (met (λ q g x. false≢true (sym (seek-fails (λ q. eqb (mode_at l q) k) n e q g) ∙ eq-eqb (mode_at l q) k x)))
  hit (suc i) e = suc-le-suc zero-le

  found : seek (λ q. eqb (mode_at l q) k) n ≡ suc (qubit_at n l k)
  found = omega (arith, hit (seek (λ q. eqb (mode_at l q) k) n) refl)

  met-below : qubit_at n l k < n
  met-below = omega (arith, found, seek-gap (λ q. eqb (mode_at l q) k) n)

  met-mode : mode_at l (qubit_at n l k) ≡ k
  met-mode = eqb-true (mode_at l (qubit_at n l k)) k (seek-passes (λ q. eqb (mode_at l q) k) n (qubit_at n l k) found)

-- ---- in a permutation every mode has its qubit

module _ (n : ℕ) (l : List ℕ) (p : is_permutation n l ≡ true) (k : ℕ) (h : k < n) where
  met : ((q : ℕ) → q < n → mode_at l q ≢ k) → ⊥
  met = all-met n k (mode_at l) (record { below = mode-below n l p; one = mode-one n l p }) h

  pub qubit-below : qubit_at n l k < n
  qubit-below = met-below n l k met

  pub qubit-mode : mode_at l (qubit_at n l k) ≡ k
  qubit-mode = met-mode n l k met

  pub qubit-one : (q : ℕ) → q < n → mode_at l q ≡ k → q ≡ qubit_at n l k
  qubit-one q g e = mode-one n l p q (qubit_at n l k) g qubit-below (e ∙ sym qubit-mode)

-- ---- and where every mode has a qubit, it is one

module _ (n : ℕ) (l : List ℕ) (met : (k : ℕ) → k < n → ((q : ℕ) → q < n → mode_at l q ≢ k) → ⊥) (below : (q : ℕ) → q < n → mode_at l q < n) where
  back : (r : ℕ) → r < n → qubit_at n l (mode_at l r) ≡ r
  back r h = by (cases_eq (qubit_at n l (mode_at l r)) r)
    where
      into : Into n n (qubit_at n l)
      into = record {
        below = λ k g. met-below n l k (met k g);
        one = λ i j g f e. sym (met-mode n l i (met i g)) ∙ ap (mode_at l) e ∙ met-mode n l j (met j f);
      }

      by : (qubit_at n l (mode_at l r) ≡ r) ⊎ (qubit_at n l (mode_at l r) ≢ r) → qubit_at n l (mode_at l r) ≡ r
      by (inl e) = e
      by (inr ne) =
          absurd (all-met n r (qubit_at n l) into h
          (λ k g e. ne (ap (qubit_at n l) (ap (mode_at l) (sym e) ∙ met-mode n l k (met k g)) ∙ e)))

  pub every-met : all_below (mode_ok n l) n ≡ true
  every-met = modes-fit n l below apart
    where
      apart : (p q : ℕ) → p < q → q < n → mode_at l p ≢ mode_at l q
      apart p q g h e =
          let z : p ≡ q = sym (back p (omega arith)) ∙ ap (qubit_at n l) e ∙ back q h in
          omega arith
