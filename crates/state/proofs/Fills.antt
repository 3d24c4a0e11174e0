-- What `fill` makes of a part of a slice, as `filled` says it. Assumes nothing.
use Rattle.std.proofs.Common.{◌≡◌, ℕ, zero, suc, ◌++◌, List, [], ◌∷◌, length, take, drop, replicate, refl, ap, ◌∙◌}
use Rattle.laws.specs.Slices.{mapped_to, filled}

module _ {A : Type 0} (v : A) where
  -- a part of n places at most
  pub filled-part : (n m : ℕ) (l : List A) → m ≡ n → replicate (length (take m l)) v ≡ filled n v (take m l)
  unfolding mapped_to
  filled-part n m l e = rw e (by n l)
    where
      by : (n : ℕ) (l : List A) → replicate (length (take n l)) v ≡ filled n v (take n l)
      by zero l = refl
      by (suc n) [] = refl
      by (suc n) (x ∷ l) = ap (λ t. v ∷ t) (by n l)

  -- the first n places
  pub filled-front : (n : ℕ) (l ys : List A) → ys ≡ replicate (length (take n l)) v → ys ++ drop n l ≡ filled n v l
  unfolding mapped_to
  filled-front n l ys e = ap (λ t. t ++ drop n l) e ∙ by n l
    where
      by : (n : ℕ) (l : List A) → replicate (length (take n l)) v ++ drop n l ≡ filled n v l
      by zero l = refl
      by (suc n) [] = refl
      by (suc n) (x ∷ l) = ap (λ t. v ∷ t) (by n l)
