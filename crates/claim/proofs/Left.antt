-- How many modes a list leaves, by the engine's count, is how many qubits it leaves, by the paper's, since the mode table is a permutation. So question 20 asks
-- for the places that the paper says. Assumes nothing.
use mathlib.Core.Path.{◌≡◌, refl, ap, ◌∙◌}
use mathlib.Core.Logic.{◌⊎◌, inl, inr, ◌≢◌}
use mathlib.Core.Bool.{Bool, true, false, not, cond, ◌&&◌, and-false}
use mathlib.Core.List.{List}
use Prim.Native.Nat.{ℕ, zero, suc, ◌+◌, ◌%◌, ◌<◌}
use native.Mathlib.Omega.{arith}
use lib.Dec.{eqb, ltb}
use lib.ListN.{get_or, length}
use borrow.Author.Tests.{eq-eqb, ne_eqb, lt-ltb}
use Rattle.std.proofs.lemmas.Bool.{cases_eq}
use Rattle.laws.specs.Tables.{mode_at}
use Rattle.laws.specs.Tests.{count}
use Rattle.laws.proofs.Tests.{count-all, count-some, count_same}
use Rattle.state.specs.Modes.{is_permutation}
use Rattle.state.proofs.Permutations.{mode-one}
use Rattle.state.proofs.Counted.{modes-counted}
use Rattle.queries.specs.Lists.{oddly, mode_listed, odd_mode, odd_modes, noted, bit_listed, asked, noted_modes}
use Rattle.queries.specs.Basis.{basis_mark, basis_bit_of}
use Rattle.queries.proofs.Searches.{passing-count}
use Rattle.claim.specs.Questions.{times, left_of_product, left_of_marginal}

-- ---- counts

-- an odd number of places, by the paper's count
oddly-count : (p : ℕ → Bool) (n : ℕ) → oddly p n ≡ eqb (count p n % 2) 1
unfolding oddly count
oddly-count p zero = refl
oddly-count p (suc n) = by (p n) (oddly-count p n)
  where
    turn : (k : ℕ) → not (eqb (k % 2) 1) ≡ eqb ((1 + k) % 2) 1
    turn k = at (cases_eq (k % 2) 1)
      where
        at : (k % 2 ≡ 1) ⊎ (k % 2 ≢ 1) → not (eqb (k % 2) 1) ≡ eqb ((1 + k) % 2) 1
        at (inl e) = rw (eq-eqb (k % 2) 1 e, ne_eqb ((1 + k) % 2) 1 (λ f. omega (arith, e, f))) refl
        at (inr d) = rw (ne_eqb (k % 2) 1 d, eq-eqb ((1 + k) % 2) 1 (omega arith)) refl

    by : (t : Bool) → oddly p n ≡ eqb (count p n % 2) 1 → cond t (not (oddly p n)) (oddly p n) ≡ eqb ((cond t 1 0 + count p n) % 2) 1
    by true e = ap not e ∙ turn (count p n)
    by false e = e ∙ ap (λ k. eqb (k % 2) 1) (omega arith)

-- something is noted of a mode exactly if a place lists it
noted-count : (m x : ℕ → ℕ) (i k : ℕ) → ltb 0 (noted m x i k) ≡ ltb 0 (count (λ j. eqb (m j) k) i)
unfolding noted count
noted-count m x zero k = refl
noted-count m x (suc i) k = by (eqb (m i) k) (cases_eq (noted m x i k) 0) (noted-count m x i k)
  where
    c : ℕ
    c = count (λ j. eqb (m j) k) i

    by : (t : Bool) → (noted m x i k ≡ 0) ⊎ (noted m x i k ≢ 0) → ltb 0 (noted m x i k) ≡ ltb 0 c
        → ltb 0 (cond (eqb (noted m x i k) 0 && t) (suc (x i)) (noted m x i k)) ≡ ltb 0 (cond t 1 0 + c)
    by true (inl e) f = rw (eq-eqb (noted m x i k) 0 e, lt-ltb 0 (suc (x i)) (omega arith), lt-ltb 0 (1 + c) (omega arith)) refl
    by true (inr d) f = rw (ne_eqb (noted m x i k) 0 d, lt-ltb 0 (noted m x i k) (omega arith), lt-ltb 0 (1 + c) (omega arith)) refl
    by false d f = rw (and-false (eqb (noted m x i k) 0)) (f ∙ ap (ltb 0) (omega arith))

-- ---- places that work is asked for

module _ (n : ℕ) (modes : List ℕ) (p : is_permutation n modes ≡ true) where
  -- a place lists the mode of qubit q exactly if it lists q
  same-test : (qs : List ℕ) (j q : ℕ) → get_or qs j 0 < n → q < n → eqb (mode_listed modes qs j) (mode_at modes q) ≡ eqb (get_or qs j 0) q
  same-test qs j q h l = by (cases_eq (get_or qs j 0) q)
    where
      by : (get_or qs j 0 ≡ q) ⊎ (get_or qs j 0 ≢ q) → eqb (mode_listed modes qs j) (mode_at modes q) ≡ eqb (get_or qs j 0) q
      by (inl e) = rw (eq-eqb (get_or qs j 0) q e, eq-eqb (mode_listed modes qs j) (mode_at modes q) (ap (mode_at modes) e)) refl
      by (inr d) =
          rw (
            ne_eqb (get_or qs j 0) q d,
            ne_eqb (mode_listed modes qs j) (mode_at modes q) (λ e. d (mode-one n modes p (get_or qs j 0) q h l e)),
          ) refl

  module _ (qs : List ℕ) (below : (j : ℕ) → j < length qs → get_or qs j 0 < n) where
    same-times : (q : ℕ) → q < n → count (λ j. eqb (mode_listed modes qs j) (mode_at modes q)) (length qs) ≡ times qs q
    same-times q l = count_same _ _ (length qs) (λ j h. same-test qs j q (below j h) l)

    pub product-left : length (odd_modes n modes qs) ≡ left_of_product n qs
    unfolding odd_modes
    product-left =
        passing-count (odd_mode modes qs (length qs)) n ∙ modes-counted n modes p (odd_mode modes qs (length qs))
        ∙ count_same _ _ n (λ q l.
        oddly-count (λ j. eqb (mode_listed modes qs j) (mode_at modes q)) (length qs) ∙ ap (λ k. eqb (k % 2) 1) (same-times q l))

    pub marginal-left : (xs : List ℕ) → length (noted_modes n (asked modes qs xs)) ≡ left_of_marginal n qs
    marginal-left xs =
        passing-count (λ k. ltb 0 (asked modes qs xs k)) n ∙ modes-counted n modes p (λ k. ltb 0 (asked modes qs xs k))
        ∙ count_same _ _ n (λ q l.
        noted-count (mode_listed modes qs) (bit_listed xs) (length qs) (mode_at modes q) ∙ ap (ltb 0) (same-times q l))

  -- a basis index asks all of them
  pub all-left : (low high : ℕ) → length (noted_modes n (basis_mark n modes low high)) ≡ n
  all-left low high =
      passing-count (λ k. ltb 0 (basis_mark n modes low high k)) n ∙ modes-counted n modes p (λ k. ltb 0 (basis_mark n modes low high k))
      ∙ count-all (λ q. ltb 0 (basis_mark n modes low high (mode_at modes q))) n (λ q l.
      noted-count (mode_at modes) (basis_bit_of low high) n (mode_at modes q) ∙ some q l)
    where
      some : (q : ℕ) → q < n → ltb 0 (count (λ j. eqb (mode_at modes j) (mode_at modes q)) n) ≡ true
      some q l = lt-ltb 0 _ (count-some (λ j. eqb (mode_at modes j) (mode_at modes q)) n q l (eq-eqb (mode_at modes q) (mode_at modes q) refl))
