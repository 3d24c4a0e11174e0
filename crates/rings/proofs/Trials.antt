-- Laws of finitely many numbers, by trying all: of one number, of two and of three. Assumes nothing.
use mathlib.Core.Path.{◌≡◌, sym, ap, ◌∙◌}
use mathlib.Core.Bool.{Bool, true}
use Prim.Native.Nat.{ℕ, ◌<◌}
use lib.Dec.{eqb}
use borrow.Author.Tests.{eqb-true}
use Rattle.laws.specs.Tests.{all_below}
use Rattle.laws.proofs.Tests.{all-each}

-- p numbers, each with its place
pub record Placed (M : Type 0) : Type 0 where
  pub p : ℕ
  pub from : ℕ → M
  pub to : M → ℕ
  pub from-to : (s : M) → (to s < p) × (from (to s) ≡ s)

module _ {M : Type 0} (𝓜 : Placed M) where
  -- a test of all
  abbrev pub all : (M → Bool) → Bool
  all f = all_below (λ k. f (𝓜.from k)) 𝓜.p

  pub every : (f : M → Bool) → all f ≡ true → (s : M) → f s ≡ true
  every f h s = sym (ap f (𝓜.from-to s).1) ∙ all-each (λ k. f (𝓜.from k)) 𝓜.p (𝓜.to s) h (𝓜.from-to s).0

  pub every2 : (f : M → M → Bool) → all (λ s. all (f s)) ≡ true → (s t : M) → f s t ≡ true
  every2 f h s = every (f s) (every (λ s. all (f s)) h s)

  abbrev pub same : M → M → Bool
  same s t = eqb (𝓜.to s) (𝓜.to t)

  pub same-is : (s t : M) → same s t ≡ true → s ≡ t
  same-is s t e = sym (𝓜.from-to s).1 ∙ ap 𝓜.from (eqb-true (𝓜.to s) (𝓜.to t) e) ∙ (𝓜.from-to t).1

  pub law1 : (l r : M → M) → all (λ s. same (l s) (r s)) ≡ true → (s : M) → l s ≡ r s
  law1 l r h s = same-is (l s) (r s) (every (λ s. same (l s) (r s)) h s)

  pub law2 : (l r : M → M → M) → all (λ s. all (λ t. same (l s t) (r s t))) ≡ true → (s t : M) → l s t ≡ r s t
  law2 l r h s = law1 (l s) (r s) (every (λ s. all (λ t. same (l s t) (r s t))) h s)

  pub law3 : (l r : M → M → M → M) → all (λ s. all (λ t. all (λ u. same (l s t u) (r s t u)))) ≡ true → (s t u : M) → l s t u ≡ r s t u
  law3 l r h s = law2 (l s) (r s) (every (λ s. all (λ t. all (λ u. same (l s t u) (r s t u)))) h s)
