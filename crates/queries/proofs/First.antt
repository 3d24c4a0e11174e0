-- The first number that passes a test: it passes, and none before it does. Assumes nothing.
use mathlib.Core.Path.{◌≡◌, refl, ap, ◌∙◌}
use mathlib.Core.Logic.{◌⊎◌, inl, inr, ◌≢◌}
use mathlib.Core.Bool.{Bool, true, false, cond}
use Prim.Native.Nat.{ℕ, zero, suc, ◌+◌, ◌≤◌, ◌<◌}
use native.Mathlib.Omega.{arith}
use Rattle.std.proofs.lemmas.Bool.{cases_eq}
use Rattle.queries.specs.Lists.{first_from, first}

module _ (p : ℕ → Bool) where
  pub first-before : (n k i : ℕ) → k ≤ i → i < first_from p k n → p i ≡ false
  unfolding first_from
  first-before zero k i h g = absurd (omega arith)
  first-before (suc n) k i h g = by (p k) refl g (cases_eq i k) (first-before n (suc k) i)
    where
      by : (t : Bool) → p k ≡ t → i < cond t k (first_from p (suc k) n) → (i ≡ k) ⊎ (i ≢ k)
          → (suc k ≤ i → i < first_from p (suc k) n → p i ≡ false) → p i ≡ false
      by true e g q f = absurd (omega arith)
      by false e g (inl q) f = ap p q ∙ e
      by false e g (inr q) f = f (omega arith) g

  pub first_passes : (n k : ℕ) → first_from p k n < k + n → p (first_from p k n) ≡ true
  unfolding first_from
  first_passes zero k h = absurd (omega arith)
  first_passes (suc n) k h = by (p k) refl h (first_passes n (suc k))
    where
      by : (t : Bool) → p k ≡ t → cond t k (first_from p (suc k) n) < k + suc n
          → (first_from p (suc k) n < suc k + n → p (first_from p (suc k) n) ≡ true) → p (cond t k (first_from p (suc k) n)) ≡ true
      by true e h f = e
      by false e h f = f (omega arith)

-- the first is none of those below n: none passes
pub none_passes : (p : ℕ → Bool) (n : ℕ) → n ≤ first p n → (k : ℕ) → k < n → p k ≡ false
none_passes p n h k g = first-before p n 0 k (omega arith) (omega arith)
