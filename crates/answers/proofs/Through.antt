-- Products over places, f 0 * .. * f (n - 1): a factor put behind one of them, and the product over the numbers that pass a test. Assumes nothing.
use mathlib.Core.Path.{◌≡◌, refl, sym, ap, ◌∙◌}
use mathlib.Core.Logic.{◌⊎◌, inl, inr, ◌≢◌}
use mathlib.Core.Bool.{Bool, true, false, cond}
use mathlib.Core.List.{List, [], ◌∷◌, ◌++◌}
use Prim.Native.Nat.{ℕ, zero, suc, ◌+◌, ◌<◌}
use native.Mathlib.Nat.{zero-add, add-zero}
use native.Mathlib.Omega.{arith}
use Rattle.std.proofs.lemmas.Bool.{cases_eq}
use Rattle.rings.specs.Rings.{Ops, IsRing, times}
use Rattle.formulas.specs.Pfaffians.{up}
use Rattle.queries.specs.Lists.{passing}
use Rattle.answers.specs.Asked.{through}
use Rattle.rings.proofs.Rings.{zero-mul, mul-zero}

module _ {𝓐 : Ops} (𝓛 : IsRing 𝓐) where
  open 𝓐 use {N, zero as 𝟘, one as 𝟙, mul as ◌⋆◌}

  infixl 70 ◌⋆◌
  -- ---- the product of a list

  times-append : {A : Type 0} (f : A → N) (xs ys : List A) → times 𝓐 f (xs ++ ys) ≡ times 𝓐 f xs ⋆ times 𝓐 f ys
  times-append f [] ys = sym (𝓛.one-mul (times 𝓐 f ys))
  times-append f (x ∷ xs) ys = ap (λ a. f x ⋆ a) (times-append f xs ys) ∙ sym (𝓛.mul-assoc (f x) (times 𝓐 f xs) (times 𝓐 f ys))

  -- over those that pass: the others count as 1
  pub times-passing : (f : ℕ → N) (p : ℕ → Bool) (n : ℕ) → times 𝓐 f (passing p n) ≡ through 𝓐 (λ k. cond (p k) (f k) 𝟙) n
  unfolding passing through
  times-passing f p zero = refl
  times-passing f p (suc n) = by (p n) (times-passing f p n)
    where
      by : (t : Bool) → times 𝓐 f (passing p n) ≡ through 𝓐 (λ k. cond (p k) (f k) 𝟙) n
          → times 𝓐 f (cond t (passing p n ++ (n ∷ [])) (passing p n)) ≡ through 𝓐 (λ k. cond (p k) (f k) 𝟙) n ⋆ cond t (f n) 𝟙
      by true e = times-append f (passing p n) (n ∷ []) ∙ (λ i. e i ⋆ 𝓛.mul-one (f n) i)
      by false e = e ∙ sym (𝓛.mul-one (through 𝓐 (λ k. cond (p k) (f k) 𝟙) n))

  -- ---- the product over places

  pub through-same : (f g : ℕ → N) (n : ℕ) → ((k : ℕ) → k < n → f k ≡ g k) → through 𝓐 f n ≡ through 𝓐 g n
  unfolding through
  through-same f g zero h = refl
  through-same f g (suc n) h = λ i. through-same f g n (λ k l. h k (omega arith)) i ⋆ h n (omega arith) i

  pub through-ones : (n : ℕ) → through 𝓐 (λ k. 𝟙) n ≡ 𝟙
  unfolding through
  through-ones zero = refl
  through-ones (suc n) = 𝓛.mul-one (through 𝓐 (λ k. 𝟙) n) ∙ through-ones n

  -- the product over the first n numbers
  pub times-up : (f : ℕ → N) (n : ℕ) → times 𝓐 f (up 0 n) ≡ through 𝓐 f n
  unfolding through
  times-up f zero = refl
  times-up f (suc n) =
      ap (times 𝓐 f) (up-last 0 n) ∙ times-append f (up 0 n) ((0 + n) ∷ []) ∙ (λ i. times-up f n i ⋆ (𝓛.mul-one (f (0 + n)) ∙ ap f (zero-add n)) i)
    where
      up-last : (s n : ℕ) → up s (suc n) ≡ up s n ++ ((s + n) ∷ [])
      up-last s zero = ap (λ k. k ∷ []) (sym (add-zero s))
      up-last s (suc n) = ap (λ w. s ∷ w) (up-last (suc s) n ∙ ap (λ k. up (suc s) n ++ (k ∷ [])) (omega arith))

  -- a factor 0, and any after it
  pub through-zero : (f : ℕ → N) (k n : ℕ) → k < n → f k ≡ 𝟘 → through 𝓐 f n ≡ 𝟘
  unfolding through
  through-zero f k zero l e = absurd (omega arith)
  through-zero f k (suc n) l e = by (cases_eq k n) (through-zero f k n)
    where
      by : (k ≡ n) ⊎ (k ≢ n) → (k < n → f k ≡ 𝟘 → through 𝓐 f n ≡ 𝟘) → through 𝓐 f n ⋆ f n ≡ 𝟘
      by (inl q) ih = ap (λ a. through 𝓐 f n ⋆ a) (ap f (sym q) ∙ e) ∙ mul-zero 𝓛 (through 𝓐 f n)
      by (inr q) ih = ap (λ a. a ⋆ f n) (ih (omega arith) e) ∙ zero-mul 𝓛 (f n)

  -- once 0, always 0
  pub through-stays : (f : ℕ → N) (k n : ℕ) → k < n → through 𝓐 f k ⋆ f k ≡ 𝟘 → through 𝓐 f n ≡ 𝟘
  unfolding through
  through-stays f k zero l e = absurd (omega arith)
  through-stays f k (suc n) l e = by (cases_eq k n) (through-stays f k n)
    where
      by : (k ≡ n) ⊎ (k ≢ n) → (k < n → through 𝓐 f k ⋆ f k ≡ 𝟘 → through 𝓐 f n ≡ 𝟘) → through 𝓐 f n ⋆ f n ≡ 𝟘
      by (inl q) ih = ap (λ j. through 𝓐 f j ⋆ f j) (sym q) ∙ e
      by (inr q) ih = ap (λ a. a ⋆ f n) (ih (omega arith) e) ∙ zero-mul 𝓛 (f n)

  -- g is f, but for the factor a that g k has behind f k; a commutes with the later ones
  pub one-more : (f g : ℕ → N) (k : ℕ) (a : N) → g k ≡ f k ⋆ a → ((j : ℕ) → j ≢ k → g j ≡ f j)
      → (n : ℕ) → k < n → ((j : ℕ) → k < j → j < n → f j ⋆ a ≡ a ⋆ f j) → through 𝓐 f n ⋆ a ≡ through 𝓐 g n
  unfolding through
  one-more f g k a own others zero l c = absurd (omega arith)
  one-more f g k a own others (suc n) l c = 𝓛.mul-assoc (through 𝓐 f n) (f n) a ∙ by (cases_eq n k) (one-more f g k a own others n)
    where
      by : (n ≡ k) ⊎ (n ≢ k) → (k < n → ((j : ℕ) → k < j → j < n → f j ⋆ a ≡ a ⋆ f j) → through 𝓐 f n ⋆ a ≡ through 𝓐 g n)
          → through 𝓐 f n ⋆ (f n ⋆ a) ≡ through 𝓐 g n ⋆ g n
      by (inl q) ih =
          λ i. through-same f g n (λ j h. sym (others j (omega (arith, h, q)))) i ⋆ (ap (λ j. f j ⋆ a) q ∙ sym own ∙ ap g (sym q)) i
      by (inr q) ih =
          ap (λ x. through 𝓐 f n ⋆ x) (c n (omega (arith, l, q)) (omega arith))
          ∙ sym (𝓛.mul-assoc (through 𝓐 f n) a (f n))
          ∙ (λ i. ih (omega (arith, l, q)) (λ j u v. c j u (omega (arith, v))) i ⋆ sym (others n q) i)
