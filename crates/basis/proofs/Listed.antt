-- The modes that pass a test, listed: the rows and columns of the listed modes are the covariance of their bits, and a parity over the list is one
-- over all modes. Assumes nothing.
use mathlib.Core.Path.{◌≡◌, refl, sym, ap, ◌∙◌, subst}
use mathlib.Core.Logic.{◌⊎◌, inl, inr, ◌≢◌}
use mathlib.Core.Bool.{Bool, true, false, not, cond, ◌&&◌, and-false}
use mathlib.Core.List.{List, [], ◌∷◌, ◌++◌}
use Prim.Native.Nat.{ℕ, zero, suc, ◌+◌, ◌*◌, ◌/◌, ◌%◌, ◌≤◌, ◌<◌}
use native.Mathlib.Nat.{le_refl, not-suc-le-zero}
use native.Mathlib.Omega.{arith}
use lib.Dec.{eqb}
use lib.IntN.{ℤ, pos}
use lib.ListN.{length, get_or, length-append}
use borrow.Author.Tests.{eq-eqb, ne_eqb}
use Rattle.laws.specs.Dyadic.{Dy, with_sign}
use Rattle.laws.specs.Matrix.{Mat}
use Rattle.std.proofs.lemmas.Bool.{cases_lt, cases_eq}
use Rattle.state.specs.Bounds.{dim_of}
use Rattle.monomial.specs.Basis.{basis, IsBasis}
use Rattle.queries.specs.Lists.{oddly, passing}
use Rattle.queries.specs.Products.{index_of, restricted, dim_left}
use Rattle.queries.proofs.Searches.{odd-same, odd-none, last_snoc, early-snoc, Ascending}

-- ---- rows and columns

-- the pair r, r + 1 of the list is a pair of the modes
pair_same : (u v r c : ℕ) → (u ≡ v → r / 2 ≡ c / 2) → (r / 2 ≡ c / 2 → u ≡ v)
    → (eqb ((2 * u + r % 2) % 2) 0 && eqb (2 * v + c % 2) (2 * u + r % 2 + 1)) ≡ (eqb (r % 2) 0 && eqb c (r + 1))
pair_same u v r c to from = by (cases_eq (r % 2) 0) (cases_eq c (r + 1))
  where
    next : r % 2 ≡ 0 → c ≡ r + 1 → 2 * v + c % 2 ≡ 2 * u + r % 2 + 1
    next e f = let h : u ≡ v = from (omega arith) in omega arith

    back : r % 2 ≡ 0 → 2 * v + c % 2 ≡ 2 * u + r % 2 + 1 → c ≡ r + 1
    back e f = let h : r / 2 ≡ c / 2 = to (omega arith) in omega arith

    by : (r % 2 ≡ 0) ⊎ (r % 2 ≢ 0) → (c ≡ r + 1) ⊎ (c ≢ r + 1)
        → (eqb ((2 * u + r % 2) % 2) 0 && eqb (2 * v + c % 2) (2 * u + r % 2 + 1)) ≡ (eqb (r % 2) 0 && eqb c (r + 1))
    by (inr e) f = rw (ne_eqb ((2 * u + r % 2) % 2) 0 (λ d. e (omega arith)), ne_eqb (r % 2) 0 e)
    by (inl e) (inl f) =
        rw (
          eq-eqb ((2 * u + r % 2) % 2) 0 (omega arith),
          eq-eqb (2 * v + c % 2) (2 * u + r % 2 + 1) (next e f),
          eq-eqb (r % 2) 0 e,
          eq-eqb c (r + 1) f,
        )
    by (inl e) (inr f) =
        rw (ne_eqb (2 * v + c % 2) (2 * u + r % 2 + 1) (λ d. f (back e d)), ne_eqb c (r + 1) f)
        (and-false (eqb ((2 * u + r % 2) % 2) 0) ∙ sym (and-false (eqb (r % 2) 0)))

module _ (p : ℕ → Bool) (n : ℕ) (l : List ℕ) (up : Ascending p n l) where
  -- no mode is listed twice
  pub listed-once : (i j : ℕ) → i < length l → j < length l → get_or l i 0 ≡ get_or l j 0 → i ≡ j
  listed-once i j h g e = by (cases_lt i j) (cases_lt j i)
    where
      by : (i < j) ⊎ (j ≤ i) → (j < i) ⊎ (i ≤ j) → i ≡ j
      by (inl a) b = absurd (let k = up.larger i j a g in omega arith)
      by (inr a) (inl b) = absurd (let k = up.larger j i b h in omega arith)
      by (inr a) (inr b) = omega arith

  index_below : (r : ℕ) → r < dim_left l → index_of l r < dim_of n
  index_below r h = let b = up.below (r / 2) (omega arith) in omega arith

  -- the covariance of the listed bits
  pub listed-basis : (b : ℕ → Bool) (e : Mat) → IsBasis (dim_of n) b e → IsBasis (dim_left l) (λ j. b (get_or l j 0)) (restricted e l)
  listed-basis b e h r c g k =
      subst (λ (z : ℤ). Dy 0 z (restricted e l r c)) same (h (index_of l r) (index_of l c) (index_below r g) (index_below c k))
    where
      once : (r c : ℕ) → r < dim_left l → c < dim_left l → get_or l (r / 2) 0 ≡ get_or l (c / 2) 0 → r / 2 ≡ c / 2
      once r c g k = listed-once (r / 2) (c / 2) (omega arith) (omega arith)

      test : (r c : ℕ) → r < dim_left l → c < dim_left l
          → (eqb (index_of l r % 2) 0 && eqb (index_of l c) (index_of l r + 1)) ≡ (eqb (r % 2) 0 && eqb c (r + 1))
      test r c g k = pair_same (get_or l (r / 2) 0) (get_or l (c / 2) 0) r c (once r c g k) (ap (λ i. get_or l i 0))

      mode : (u r : ℕ) → (2 * u + r % 2) / 2 ≡ u
      mode u r = omega arith

      same : basis b (index_of l r) (index_of l c) ≡ basis (λ j. b (get_or l j 0)) r c
      same =
          λ t. cond (test r c g k t) (with_sign (b (mode (get_or l (r / 2) 0) r t)) 1)
          (cond (test c r k g t) (with_sign (not (b (mode (get_or l (c / 2) 0) c t))) 1) (pos 0))

-- ---- parities

-- the first of them apart
pub odd-first : (p : ℕ → Bool) (n : ℕ) → oddly p (suc n) ≡ cond (p 0) (not (oddly (λ j. p (suc j)) n)) (oddly (λ j. p (suc j)) n)
unfolding oddly
odd-first p zero = refl
odd-first p (suc n) = rw (odd-first p n) (by (p (suc n)) (p 0) (oddly (λ j. p (suc j)) n))
  where
    by : (s t o : Bool) → cond s (not (cond t (not o) o)) (cond t (not o) o) ≡ cond t (not (cond s (not o) o)) (cond s (not o) o)
    by false t o = refl
    by true false o = refl
    by true true o = refl

-- one number, below n, passes one of two tests: the parities differ
odd-turned : (f g : ℕ → Bool) (x n : ℕ) → x < n → ((k : ℕ) → k ≢ x → f k ≡ g k) → f x ≡ not (g x) → oddly f n ≡ not (oddly g n)
unfolding oddly
odd-turned f g x zero h same turned = absurd (not-suc-le-zero h)
odd-turned f g x (suc n) h same turned = by (cases_eq x n) (odd-turned f g x n)
  where
    here : (s o : Bool) → cond (not s) (not o) o ≡ not (cond s (not o) o)
    here false o = refl
    here true false = refl
    here true true = refl

    there : (s o : Bool) → cond s (not (not o)) (not o) ≡ not (cond s (not o) o)
    there false o = refl
    there true o = refl

    by : (x ≡ n) ⊎ (x ≢ n) → (x < n → ((k : ℕ) → k ≢ x → f k ≡ g k) → f x ≡ not (g x) → oddly f n ≡ not (oddly g n))
        → cond (f n) (not (oddly f n)) (oddly f n) ≡ not (cond (g n) (not (oddly g n)) (oddly g n))
    by (inl e) rest =
        rw (ap f (sym e) ∙ turned ∙ ap (λ k. not (g k)) e, odd-same f g n (λ k l. same k (λ q. omega arith)))
        (here (g n) (oddly g n))
    by (inr e) rest =
        rw (same n (λ q. e (sym q)), rest (omega arith) same turned)
        (there (g n) (oddly g n))

-- of the listed, by a test: of those that pass both
pub odd-listed : (p s : ℕ → Bool) (n : ℕ) → oddly (λ j. s (get_or (passing p n) j 0)) (length (passing p n)) ≡ oddly (λ k. p k && s k) n
unfolding oddly passing
odd-listed p s zero = refl
odd-listed p s (suc n) = by (p n) (odd-listed p s n)
  where
    l : List ℕ
    l = passing p n

    all : Bool
    all = oddly (λ k. p k && s k) n

    long : length (l ++ (n ∷ [])) ≡ suc (length l)
    long = omega (arith, length-append l (n ∷ []))

    by : (t : Bool) → oddly (λ j. s (get_or l j 0)) (length l) ≡ all
        → oddly (λ j. s (get_or (cond t (l ++ (n ∷ [])) l) j 0)) (length (cond t (l ++ (n ∷ [])) l)) ≡ cond (t && s n) (not all) all
    by false h = h
    by true h =
        rw (
          long,
          ap s (last_snoc l n (length l) refl),
          odd-same (λ j. s (get_or (l ++ (n ∷ [])) j 0)) (λ j. s (get_or l j 0)) (length l) (λ j g. ap s (early-snoc l n j g)),
          h,
        )

-- over the numbers below n that m takes an odd number of times, of i times: over the i times
pub odd-counted : (m : ℕ → ℕ) (b : ℕ → Bool) (n i : ℕ) → ((j : ℕ) → j < i → m j < n)
    → oddly (λ k. oddly (λ j. eqb (m j) k) i && b k) n ≡ oddly (λ j. b (m j)) i
unfolding oddly
odd-counted m b n zero h = odd-none (λ k. false && b k) n (λ k l. refl)
odd-counted m b n (suc i) h = by (b (m i)) refl ∙ ap (λ o. cond (b (m i)) (not o) o) (odd-counted m b n i (λ j l. h j (omega arith)))
  where
    was : ℕ → Bool
    was k = oddly (λ j. eqb (m j) k) i

    f : ℕ → Bool
    f k = cond (eqb (m i) k) (not (was k)) (was k) && b k

    g : ℕ → Bool
    g k = was k && b k

    away : (k : ℕ) → k ≢ m i → f k ≡ g k
    away k d = rw (ne_eqb (m i) k (λ e. d (sym e)))

    here : f (m i) ≡ (not (was (m i)) && b (m i))
    here = rw (eq-eqb (m i) (m i) refl)

    by : (t : Bool) → b (m i) ≡ t → oddly f n ≡ cond t (not (oddly g n)) (oddly g n)
    by true e = odd-turned f g (m i) n (h i (le_refl (suc i))) away (here ∙ flips)
      where
        turn : (s : Bool) → (not s && true) ≡ not (s && true)
        turn false = refl
        turn true = refl

        flips : (not (was (m i)) && b (m i)) ≡ not (was (m i) && b (m i))
        flips = rw e (turn (was (m i)))
    by false e = odd-same f g n (λ k l. at k (cases_eq k (m i)))
      where
        still : (not (was (m i)) && b (m i)) ≡ (was (m i) && b (m i))
        still = rw e (and-false (not (was (m i))) ∙ sym (and-false (was (m i))))

        at : (k : ℕ) → (k ≡ m i) ⊎ (k ≢ m i) → f k ≡ g k
        at k (inl q) = ap f q ∙ here ∙ still ∙ ap g (sym q)
        at k (inr d) = away k d
