-- Two tests; a test that every number below n passes: one more that passes, one that fails, and what a passed test says; how many pass. Assumes nothing.
use mathlib.Core.Path.{◌≡◌, refl, sym, ap, ◌∙◌}
use mathlib.Core.Logic.{◌⊎◌, inl, inr, ⊎_elim, ◌≢◌}
use mathlib.Core.Bool.{Bool, true, false, cond, ◌&&◌, true≢false, and-false}
use Prim.Native.Nat.{ℕ, zero, suc, ◌+◌, ◌%◌, ◌<◌, ◌≤◌}
use native.Mathlib.Nat.{not-suc-le-zero}
use native.Mathlib.Numerals.{add-one}
use native.Mathlib.Omega.{arith}
use lib.Dec.{eqb}
use borrow.Author.Tests.{ne_eqb}
use Rattle.std.proofs.lemmas.Bool.{and_parts, cases_eq, false_from_ne_true}
use Rattle.laws.specs.Tests.{all_below, count}

-- ---- two tests

-- what follows a test that fails matters only where it fails
pub else_same : {A : Type 0} (b : Bool) (x y z : A) → (b ≡ false → y ≡ z) → cond b x y ≡ cond b x z
else_same true x y z e = refl
else_same false x y z e = e refl

-- r and r + 1 are a pair where r is even; r and c are none
pub no-pair : (r c : ℕ) → (r % 2 ≡ 0 → c ≢ r + 1) → (eqb (r % 2) 0 && eqb c (r + 1)) ≡ false
no-pair r c n = ⊎_elim (λ e. rw (ne_eqb c (r + 1) (n e)) (and-false _)) (λ d. rw (ne_eqb (r % 2) 0 d)) (cases_eq (r % 2) 0)

-- ---- a test of every number below n

module _ (f : ℕ → Bool) where
  -- of none
  pub all_none : all_below f 0 ≡ true
  unfolding all_below
  all_none = refl

  -- of one of them
  pub all-each : (n k : ℕ) → all_below f n ≡ true → k < n → f k ≡ true
  unfolding all_below
  all-each zero k t h = absurd (not-suc-le-zero h)
  all-each (suc n) k t h =
      let p = and_parts (all_below f n) (f n) t in
      ⊎_elim (λ q. ap f q ∙ p.1) (λ q. all-each n k p.0 (omega arith)) (cases_eq k n)

  -- one more
  pub all_more : (n : ℕ) → all_below f n ≡ true → f n ≡ true → all_below f (n + 1) ≡ true
  unfolding all_below
  all_more n t e = rw (add-one, t, e)

  -- all hold
  pub all_of : (n : ℕ) → ((k : ℕ) → k < n → f k ≡ true) → all_below f n ≡ true
  unfolding all_below
  all_of zero h = refl
  all_of (suc n) h = rw (all_of n (λ k g. h k (omega arith)), h n (omega arith))

  -- one that fails is enough
  pub all-fails : (n k : ℕ) → k < n → f k ≡ false → false ≡ all_below f n
  all-fails n k h e = sym (false_from_ne_true _ (λ t. true≢false (sym (all-each n k t h) ∙ e)))

-- two tests that agree on every number below n
pub all_same : (f g : ℕ → Bool) (n : ℕ) → ((k : ℕ) → k < n → f k ≡ g k) → all_below f n ≡ all_below g n
unfolding all_below
all_same f g zero e = refl
all_same f g (suc n) e = λ i. all_same f g n (λ k h. e k (omega arith)) i && e n (omega arith) i

-- of a loop that tests one number after the other
pub ruleset belows = (all_none, all_more)

-- ---- how many pass

module _ (p : ℕ → Bool) where
  pub count-le : (n : ℕ) → count p n ≤ n
  unfolding count
  count-le zero = omega arith
  count-le (suc n) = by (p n) (count-le n)
    where
      by : (b : Bool) → count p n ≤ n → cond b 1 0 + count p n ≤ suc n
      by true h = omega arith
      by false h = omega arith

  count-more : (n : ℕ) → count p (n + 1) ≡ cond (p n) 1 0 + count p n
  unfolding count
  count-more n = rw (add-one n)

  -- one more: it passes, or it does not
  pub count-hit : (n r : ℕ) → r ≡ count p n → p n ≡ true → r + 1 ≡ count p (n + 1)
  count-hit n r e t = rw (count-more n, t) (omega arith)

  pub count-miss : (n r : ℕ) → r ≡ count p n → p n ≡ false → r ≡ count p (n + 1)
  count-miss n r e t = rw (count-more n, t) (omega arith)

  -- none does, or all do
  pub count-none : (n : ℕ) → ((k : ℕ) → k < n → p k ≡ false) → count p n ≡ 0
  unfolding count
  count-none zero h = refl
  count-none (suc n) h = rw (h n (omega arith), count-none n (λ k g. h k (omega arith)))

  pub count-all : (n : ℕ) → ((k : ℕ) → k < n → p k ≡ true) → count p n ≡ n
  unfolding count
  count-all zero h = refl
  count-all (suc n) h = rw (h n (omega arith), count-all n (λ k g. h k (omega arith))) (omega arith)

  -- one that does is counted
  pub count-some : (n k : ℕ) → k < n → p k ≡ true → 0 < count p n
  unfolding count
  count-some zero k h e = absurd (not-suc-le-zero h)
  count-some (suc n) k h e = by (cases_eq k n) (count-some n k)
    where
      by : (k ≡ n) ⊎ (k ≢ n) → (k < n → p k ≡ true → 0 < count p n) → 0 < cond (p n) 1 0 + count p n
      by (inl q) rest = rw (ap p (sym q) ∙ e) (omega arith)
      by (inr d) rest = omega (arith, rest (omega arith) e)

-- two tests that agree on every number below n
pub count_same : (p q : ℕ → Bool) (n : ℕ) → ((k : ℕ) → k < n → p k ≡ q k) → count p n ≡ count q n
unfolding count
count_same p q zero h = refl
count_same p q (suc n) h = rw (h n (omega arith), count_same p q n (λ k g. h k (omega arith)))

-- two tests that differ at one number, which passes the first only
pub count-apart : (p q : ℕ → Bool) (x n : ℕ) → x < n → ((k : ℕ) → k ≢ x → p k ≡ q k) → p x ≡ true → q x ≡ false → count p n ≡ count q n + 1
unfolding count
count-apart p q x zero h same e f = absurd (not-suc-le-zero h)
count-apart p q x (suc n) h same e f = by (cases_eq x n) (count-apart p q x n)
  where
    by : (x ≡ n) ⊎ (x ≢ n) → (x < n → ((k : ℕ) → k ≢ x → p k ≡ q k) → p x ≡ true → q x ≡ false → count p n ≡ count q n + 1)
        → cond (p n) 1 0 + count p n ≡ cond (q n) 1 0 + count q n + 1
    by (inl d) rest =
        rw (ap p (sym d) ∙ e, ap q (sym d) ∙ f, count_same p q n (λ k l. same k (λ g. omega (arith, g, d)))) (omega arith)
    by (inr d) rest = rw (same n (λ g. d (sym g)), rest (omega arith) same e f) (omega arith)
