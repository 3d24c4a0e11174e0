-- The Pfaffian of a matrix with the two entries of a mode shifted. Assumes nothing.
use mathlib.Core.Path.{◌≡◌, refl, sym, ap, ◌∙◌}
use mathlib.Core.Logic.{◌≢◌}
use mathlib.Core.Bool.{Bool, true, false, cond, ◌&&◌, xor}
use mathlib.Core.List.{List, [], ◌∷◌, ◌++◌}
use Prim.Native.Nat.{ℕ, zero, suc, ◌+◌, ◌*◌, ◌/◌, ◌%◌, ◌<◌}
use native.Mathlib.Omega.{arith}
use lib.Dec.{eqb}
use borrow.Author.Tests.{eqb-true, eq-eqb}
use Rattle.laws.specs.Lists.{All}
use Rattle.rings.specs.Rings.{Ops, IsRing, IsCommutative}
use Rattle.formulas.specs.Engine.{Mat}
use Rattle.formulas.specs.Pfaffians.{AllBelow, Alternating}
use Rattle.answers.specs.Marginals.{shifted}
use Rattle.rings.proofs.Rings.{neg-neg}
use Rattle.rings.proofs.Solve.{and-left, and-right, var, nought, plus, times, minus, by-comm}
use Rattle.angles.proofs.Swaps.{fr, P, Turning, turning-more, turning}
use Rattle.angles.proofs.Agree.{fr-agree, P-agree}

module _ {𝓝 : Ops} (𝓒 : IsCommutative 𝓝) where
  abbrev 𝓛 : IsRing 𝓝
  𝓛 = 𝓒.ring

  open 𝓝 use {N, zero as 𝟘, add as ◌⊹◌, mul as ◌⋆◌, neg}

  infixl 65 ◌⊹◌
  infixl 70 ◌⋆◌
  -- ---- two indices moved to the front

  to-front : (dim : ℕ) (F : List ℕ → N) → Turning 𝓝 dim F → (pre : List ℕ) → AllBelow dim pre → (u v : ℕ) → u < dim → v < dim → (post : List ℕ)
      → F (pre ++ (u ∷ v ∷ post)) ≡ F (u ∷ v ∷ (pre ++ post))
  to-front dim F h [] b u v hu hv post = refl
  to-front dim F h (p ∷ pre) b u v hu hv post =
      to-front dim (λ qs. F (p ∷ qs)) (turning-more 𝓒 dim F h p) pre b.1 u v hu hv post
      ∙ h [] p u (v ∷ (pre ++ post)) b.0 hu
      ∙ ap neg (h (u ∷ []) p v (pre ++ post) b.0 hv)
      ∙ neg-neg 𝓛 (F (u ∷ v ∷ p ∷ (pre ++ post)))

  -- ---- the entries of a mode shifted

  module _ (half : N) where
    pub unshifted : (s : ℕ → N) (m : Mat 𝓝) (r c : ℕ) → r / 2 ≢ c / 2 → shifted 𝓝 half s m r c ≡ m r c
    unshifted s m r c d = by (eqb (r % 2) 0 && eqb c (r + 1)) refl (eqb (c % 2) 0 && eqb r (c + 1)) refl
      where
        by : (a : Bool) → eqb (r % 2) 0 && eqb c (r + 1) ≡ a → (b : Bool) → eqb (c % 2) 0 && eqb r (c + 1) ≡ b
            → cond a (m r c ⊹ s (r / 2)) (cond b (m r c ⊹ neg (s (r / 2))) (m r c)) ≡ m r c
        by true e b f =
            absurd (d (same (eqb-true (r % 2) 0 (and-left (eqb (r % 2) 0) (eqb c (r + 1)) e))
            (eqb-true c (r + 1) (and-right (eqb (r % 2) 0) (eqb c (r + 1)) e))))
          where
            same : r % 2 ≡ 0 → c ≡ r + 1 → r / 2 ≡ c / 2
            same x y = omega (arith, x, y)
        by false e true f =
            absurd (d (same (eqb-true (c % 2) 0 (and-left (eqb (c % 2) 0) (eqb r (c + 1)) f))
            (eqb-true r (c + 1) (and-right (eqb (c % 2) 0) (eqb r (c + 1)) f))))
          where
            same : c % 2 ≡ 0 → r ≡ c + 1 → r / 2 ≡ c / 2
            same x y = omega (arith, x, y)
        by false e false f = refl

    pub shifted-alternates : (dim : ℕ) (s : ℕ → N) (m : Mat 𝓝) → Alternating 𝓝 dim m → Alternating 𝓝 dim (shifted 𝓝 half s m)
    unfolding xor
    shifted-alternates dim s m 𝓜 = record { turns = turns; nought-at = nought-at }
      where
        turns : (r c : ℕ) → r < dim → c < dim → shifted 𝓝 half s m r c ≡ neg (shifted 𝓝 half s m c r)
        turns r c hr hc = by (eqb (r % 2) 0 && eqb c (r + 1)) refl (eqb (c % 2) 0 && eqb r (c + 1)) refl
          where
            by : (a : Bool) → eqb (r % 2) 0 && eqb c (r + 1) ≡ a → (b : Bool) → eqb (c % 2) 0 && eqb r (c + 1) ≡ b
                → cond a (m r c ⊹ s (r / 2)) (cond b (m r c ⊹ neg (s (r / 2))) (m r c))
                ≡ neg (cond b (m c r ⊹ s (c / 2)) (cond a (m c r ⊹ neg (s (c / 2))) (m c r)))
            by true e true f =
                absurd (never (eqb-true c (r + 1) (and-right (eqb (r % 2) 0) (eqb c (r + 1)) e))
                (eqb-true r (c + 1) (and-right (eqb (c % 2) 0) (eqb r (c + 1)) f)))
              where
                never : c ≡ r + 1 → r ≡ c + 1 → ⊥
                never x y = omega (arith, x, y)
            by true e false f =
                (λ i. 𝓜.turns r c hr hc i
                ⊹ s (same (eqb-true (r % 2) 0 (and-left (eqb (r % 2) 0) (eqb c (r + 1)) e)) (eqb-true c (r + 1) (and-right (eqb (r % 2) 0) (eqb c (r + 1)) e))
                i))
                ∙ by-comm 𝓒 (m c r ∷ s (c / 2) ∷ []) (plus (minus (var 0)) (var 1)) (minus (plus (var 0) (minus (var 1)))) refl
              where
                same : r % 2 ≡ 0 → c ≡ r + 1 → r / 2 ≡ c / 2
                same x y = omega (arith, x, y)
            by false e true f =
                (λ i. 𝓜.turns r c hr hc i
                ⊹ neg (s (same (eqb-true (c % 2) 0 (and-left (eqb (c % 2) 0) (eqb r (c + 1)) f))
                (eqb-true r (c + 1) (and-right (eqb (c % 2) 0) (eqb r (c + 1)) f)) i)))
                ∙ by-comm 𝓒 (m c r ∷ s (c / 2) ∷ []) (plus (minus (var 0)) (minus (var 1))) (minus (plus (var 0) (var 1))) refl
              where
                same : c % 2 ≡ 0 → r ≡ c + 1 → r / 2 ≡ c / 2
                same x y = omega (arith, x, y)
            by false e false f = 𝓜.turns r c hr hc

        nought-at : (r : ℕ) → r < dim → shifted 𝓝 half s m r r ≡ 𝟘
        nought-at r hr = by (eqb (r % 2) 0 && eqb r (r + 1)) refl
          where
            by : (a : Bool) → eqb (r % 2) 0 && eqb r (r + 1) ≡ a → cond a (m r r ⊹ s (r / 2)) (cond a (m r r ⊹ neg (s (r / 2))) (m r r)) ≡ 𝟘
            by true e = absurd (never (eqb-true r (r + 1) (and-right (eqb (r % 2) 0) (eqb r (r + 1)) e)))
              where
                never : r ≡ r + 1 → ⊥
                never x = omega (arith, x)
            by false e = 𝓜.nought-at r hr

    pub shift-at : (s : ℕ → N) (m : Mat 𝓝) (k : ℕ) → shifted 𝓝 half s m (2 * k) (2 * k + 1) ≡ m (2 * k) (2 * k + 1) ⊹ s k
    shift-at s m k =
        (λ i. cond (eq-eqb ((2 * k) % 2) 0 even i && eq-eqb (2 * k + 1) (2 * k + 1) refl i) (m (2 * k) (2 * k + 1) ⊹ s (mode i))
        (cond (eqb ((2 * k + 1) % 2) 0 && eqb (2 * k) (2 * k + 1 + 1)) (m (2 * k) (2 * k + 1) ⊹ neg (s (mode i))) (m (2 * k) (2 * k + 1))))
      where
        even : (2 * k) % 2 ≡ 0
        even = omega arith

        mode : (2 * k) / 2 ≡ k
        mode = omega arith

    -- the shift of mode k alone
    module _ (dim : ℕ) (m : Mat 𝓝) (𝓜 : Alternating 𝓝 dim m) (k : ℕ) (hk : 2 * k + 1 < dim) (s t : ℕ → N) (x : N) (none : s k ≡ 𝟘) (some : t k ≡ x)
        (others : (j : ℕ) → j ≢ k → t j ≡ s j) where
      abbrev m₀ : Mat 𝓝
      m₀ = shifted 𝓝 half s m

      abbrev m₁ : Mat 𝓝
      m₁ = shifted 𝓝 half t m

      abbrev Off : ℕ → Type 0
      Off r = r / 2 ≢ k

      off-row : (r c : ℕ) → Off r → m₁ r c ≡ m₀ r c
      off-row r c o =
          λ i. cond (eqb (r % 2) 0 && eqb c (r + 1)) (m r c ⊹ others (r / 2) o i)
          (cond (eqb (c % 2) 0 && eqb r (c + 1)) (m r c ⊹ neg (others (r / 2) o i)) (m r c))

      off-col : (r c : ℕ) → r / 2 ≡ k → Off c → m₁ r c ≡ m₀ r c
      off-col r c e o = unshifted t m r c (λ d. o (sym d ∙ e)) ∙ sym (unshifted s m r c (λ d. o (sym d ∙ e)))

      first-mode : (2 * k) / 2 ≡ k
      first-mode = omega arith

      second-mode : (2 * k + 1) / 2 ≡ k
      second-mode = omega arith

      off-agree : (j : ℕ) (xs : List ℕ) → All Off xs → P 𝓝 m₁ j xs ≡ P 𝓝 m₀ j xs
      off-agree = P-agree 𝓒 Off m₁ m₀ (λ r c o p. off-row r c o)

      off-second : (j : ℕ) (xs : List ℕ) → All Off xs → P 𝓝 m₁ j ((2 * k + 1) ∷ xs) ≡ P 𝓝 m₀ j ((2 * k + 1) ∷ xs)
      unfolding P
      off-second zero xs a = refl
      off-second (suc j) xs a =
          fr-agree 𝓒 Off (m₁ (2 * k + 1)) (m₀ (2 * k + 1)) (λ qs. P 𝓝 m₁ j qs) (λ qs. P 𝓝 m₀ j qs) (λ c o. off-col (2 * k + 1) c second-mode o) (off-agree j) xs
          a

      shift-front : (j : ℕ) (xs : List ℕ) → All Off xs
          → P 𝓝 m₁ (suc j) ((2 * k) ∷ (2 * k + 1) ∷ xs) ≡ P 𝓝 m₀ (suc j) ((2 * k) ∷ (2 * k + 1) ∷ xs) ⊹ x ⋆ P 𝓝 m₀ j xs
      unfolding P xor
      shift-front j xs a =
          (λ i. (shift-at t m k ∙ ap (λ y. m (2 * k) (2 * k + 1) ⊹ y) some) i ⋆ off-agree j xs a i
          ⊹ neg (fr-agree 𝓒 Off (m₁ (2 * k)) (m₀ (2 * k)) (λ qs. P 𝓝 m₁ j ((2 * k + 1) ∷ qs)) (λ qs. P 𝓝 m₀ j ((2 * k + 1) ∷ qs))
          (λ c o. off-col (2 * k) c first-mode o) (off-second j) xs a i))
          ∙ by-comm 𝓒 (m (2 * k) (2 * k + 1) ∷ x ∷ P 𝓝 m₀ j xs ∷ fr 𝓝 (m₀ (2 * k)) (λ qs. P 𝓝 m₀ j ((2 * k + 1) ∷ qs)) xs ∷ [])
          (plus (times (plus (var 0) (var 1)) (var 2)) (minus (var 3)))
          (plus (plus (times (plus (var 0) nought) (var 2)) (minus (var 3))) (times (var 1) (var 2))) refl
          ∙ (λ i. (sym (shift-at s m k ∙ ap (λ y. m (2 * k) (2 * k + 1) ⊹ y) none)) i ⋆ P 𝓝 m₀ j xs
          ⊹ neg (fr 𝓝 (m₀ (2 * k)) (λ qs. P 𝓝 m₀ j ((2 * k + 1) ∷ qs)) xs) ⊹ x ⋆ P 𝓝 m₀ j xs)

      -- THE SHIFT of one mode, wherever it stands
      pub shift-one : (j : ℕ) (pre post : List ℕ) → AllBelow dim pre → All Off (pre ++ post)
          → P 𝓝 m₁ (suc j) (pre ++ ((2 * k) ∷ (2 * k + 1) ∷ post))
          ≡ P 𝓝 m₀ (suc j) (pre ++ ((2 * k) ∷ (2 * k + 1) ∷ post)) ⊹ x ⋆ P 𝓝 m₀ j (pre ++ post)
      shift-one j pre post b a =
          to-front dim (λ qs. P 𝓝 m₁ (suc j) qs) (turning 𝓒 dim m₁ (shifted-alternates dim t m 𝓜) (suc j)) pre b (2 * k) (2 * k + 1) (omega (arith, hk)) hk post
          ∙ shift-front j (pre ++ post) a
          ∙ ap (λ y. y ⊹ x ⋆ P 𝓝 m₀ j (pre ++ post))
          (sym (to-front dim (λ qs. P 𝓝 m₀ (suc j) qs) (turning 𝓒 dim m₀ (shifted-alternates dim s m 𝓜) (suc j)) pre b (2 * k) (2 * k + 1) (omega (arith, hk))
          hk post))
