-- Pfaffians of matrices that agree, of lists of odd length, and with a larger bound on the length. Assumes nothing.
use mathlib.Core.Path.{◌≡◌, refl, ap, ◌∙◌}
use mathlib.Core.List.{List, [], ◌∷◌}
use Prim.Native.Nat.{ℕ, zero, suc, ◌+◌, ◌*◌, ◌%◌, ◌<◌}
use native.Mathlib.Omega.{arith}
use lib.ListN.{length}
use Rattle.laws.specs.Lists.{All}
use Rattle.rings.specs.Rings.{Ops, IsRing, IsCommutative}
use Rattle.formulas.specs.Engine.{Mat}
use Rattle.angles.proofs.Swaps.{fr, fr-null, P}

module _ {𝓝 : Ops} (𝓒 : IsCommutative 𝓝) where
  abbrev 𝓛 : IsRing 𝓝
  𝓛 = 𝓒.ring

  open 𝓝 use {N, zero as 𝟘, add as ◌⊹◌, mul as ◌⋆◌, neg}

  infixl 65 ◌⊹◌
  infixl 70 ◌⋆◌
  -- ---- agreement

  pub fr-agree : (S : ℕ → Type 0) (v w : ℕ → N) (F G : List ℕ → N) → ((x : ℕ) → S x → v x ≡ w x) → ((qs : List ℕ) → All S qs → F qs ≡ G qs)
      → (xs : List ℕ) → All S xs → fr 𝓝 v F xs ≡ fr 𝓝 w G xs
  fr-agree S v w F G e h [] a = refl
  fr-agree S v w F G e h (x ∷ xs) a =
      λ i. e x a.0 i ⋆ h xs a.1 i ⊹ neg (fr-agree S v w (λ qs. F (x ∷ qs)) (λ qs. G (x ∷ qs)) e (λ qs b. h (x ∷ qs) (a.0, b)) xs a.1 i)

  pub P-agree : (S : ℕ → Type 0) (m l : Mat 𝓝) → ((x y : ℕ) → S x → S y → m x y ≡ l x y) → (k : ℕ) (xs : List ℕ) → All S xs → P 𝓝 m k xs ≡ P 𝓝 l k xs
  unfolding P
  P-agree S m l e zero xs a = refl
  P-agree S m l e (suc k) [] a = refl
  P-agree S m l e (suc k) (x ∷ xs) a =
      fr-agree S (m x) (l x) (λ qs. P 𝓝 m k qs) (λ qs. P 𝓝 l k qs) (λ y b. e x y a.0 b) (P-agree S m l e k) xs a.1

  -- ---- a larger bound on the length

  fr-sized : (t : ℕ) (w : ℕ → N) (F G : List ℕ → N) → ((qs : List ℕ) → suc (length qs) ≡ t → F qs ≡ G qs) → (xs : List ℕ) → length xs ≡ t
      → fr 𝓝 w F xs ≡ fr 𝓝 w G xs
  fr-sized t w F G h [] e = refl
  fr-sized zero w F G h (x ∷ xs) e = absurd (omega (arith, e))
  fr-sized (suc t) w F G h (x ∷ xs) e =
      λ i. w x ⋆ h xs e i ⊹ neg (fr-sized t w (λ qs. F (x ∷ qs)) (λ qs. G (x ∷ qs)) (λ qs d. h (x ∷ qs) (ap suc d)) xs (omega (arith, e)) i)

  one-more : (m : Mat 𝓝) (k : ℕ) (xs : List ℕ) → length xs < 2 * k → P 𝓝 m k xs ≡ P 𝓝 m (suc k) xs
  unfolding P
  one-more m zero xs l = absurd (omega (arith, l))
  one-more m (suc k) [] l = refl
  one-more m (suc k) (x ∷ xs) l =
      fr-sized (length xs) (m x) (λ qs. P 𝓝 m k qs) (λ qs. P 𝓝 m (suc k) qs) (λ qs d. one-more m k qs (omega (arith, l, d))) xs refl

  pub enough : (m : Mat 𝓝) (d k : ℕ) (xs : List ℕ) → length xs < 2 * k → P 𝓝 m k xs ≡ P 𝓝 m (d + k) xs
  enough m zero k xs l = ap (λ j. P 𝓝 m j xs) same
    where
      same : k ≡ 0 + k
      same = omega arith
  enough m (suc d) k xs l = enough m d k xs l ∙ one-more m (d + k) xs (omega (arith, l)) ∙ ap (λ j. P 𝓝 m j xs) same
    where
      same : suc (d + k) ≡ suc d + k
      same = omega arith

  -- a list of odd length
  pub odd-size : (m : Mat 𝓝) (k : ℕ) (xs : List ℕ) → length xs % 2 ≡ 1 → P 𝓝 m k xs ≡ 𝟘
  unfolding P
  odd-size m zero xs e = refl
  odd-size m (suc k) [] e = absurd (omega (arith, e))
  odd-size m (suc k) (x ∷ xs) e =
      fr-sized (length xs) (m x) (λ qs. P 𝓝 m k qs) (λ qs. 𝟘) (λ qs d. odd-size m k qs (omega (arith, e, d))) xs refl ∙ fr-null 𝓒 (m x) xs
