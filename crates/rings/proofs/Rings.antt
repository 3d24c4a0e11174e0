-- Laws of every ring, of its negatives and of signs in front. Assumes nothing.
use mathlib.Core.Path.{◌≡◌, refl, sym, ap, ◌∙◌}
use mathlib.Core.Bool.{Bool, true, false, not, xor}
use Rattle.rings.specs.Rings.{Ops, IsRing, sg}

module _ {𝓡 : Ops} (𝓛 : IsRing 𝓡) where
  open 𝓡 use {N, zero as 𝟘, one as 𝟙, add as ◌⊹◌, mul as ◌⋆◌, neg}

  infixl 65 ◌⊹◌
  infixl 70 ◌⋆◌
  pub zero-add : (x : N) → 𝟘 ⊹ x ≡ x
  zero-add x = 𝓛.add-comm 𝟘 x ∙ 𝓛.add-zero x

  pub neg-add : (x : N) → neg x ⊹ x ≡ 𝟘
  neg-add x = 𝓛.add-comm (neg x) x ∙ 𝓛.add-neg x

  -- a sum of four, the middle two exchanged
  pub middle : (a b c d : N) → a ⊹ b ⊹ (c ⊹ d) ≡ a ⊹ c ⊹ (b ⊹ d)
  middle a b c d =
      𝓛.add-assoc a b (c ⊹ d)
      ∙ ap (λ x. a ⊹ x) (sym (𝓛.add-assoc b c d) ∙ ap (λ x. x ⊹ d) (𝓛.add-comm b c) ∙ 𝓛.add-assoc c b d)
      ∙ sym (𝓛.add-assoc a c (b ⊹ d))

  -- -x + (x + y) = y
  less-more : (x y : N) → neg x ⊹ (x ⊹ y) ≡ y
  less-more x y = sym (𝓛.add-assoc (neg x) x y) ∙ ap (λ z. z ⊹ y) (neg-add x) ∙ zero-add y

  pub add-cancel : (x y z : N) → x ⊹ y ≡ x ⊹ z → y ≡ z
  add-cancel x y z e = sym (less-more x y) ∙ ap (λ w. neg x ⊹ w) e ∙ less-more x z

  pub neg-unique : (x y : N) → x ⊹ y ≡ 𝟘 → y ≡ neg x
  neg-unique x y e = add-cancel x y (neg x) (e ∙ sym (𝓛.add-neg x))

  pub neg-neg : (x : N) → neg (neg x) ≡ x
  neg-neg x = sym (neg-unique (neg x) x (neg-add x))

  pub neg-zero : neg 𝟘 ≡ 𝟘
  neg-zero = sym (neg-unique 𝟘 𝟘 (𝓛.add-zero 𝟘))

  pub mul-zero : (x : N) → x ⋆ 𝟘 ≡ 𝟘
  mul-zero x =
      add-cancel (x ⋆ 𝟘) (x ⋆ 𝟘) 𝟘 (sym (𝓛.left x 𝟘 𝟘) ∙ ap (λ z. x ⋆ z) (𝓛.add-zero 𝟘) ∙ sym (𝓛.add-zero (x ⋆ 𝟘)))

  pub zero-mul : (x : N) → 𝟘 ⋆ x ≡ 𝟘
  zero-mul x =
      add-cancel (𝟘 ⋆ x) (𝟘 ⋆ x) 𝟘 (sym (𝓛.right 𝟘 𝟘 x) ∙ ap (λ z. z ⋆ x) (𝓛.add-zero 𝟘) ∙ sym (𝓛.add-zero (𝟘 ⋆ x)))

  pub mul-neg : (x y : N) → x ⋆ neg y ≡ neg (x ⋆ y)
  mul-neg x y = neg-unique (x ⋆ y) (x ⋆ neg y) (sym (𝓛.left x y (neg y)) ∙ ap (λ z. x ⋆ z) (𝓛.add-neg y) ∙ mul-zero x)

  pub neg-mul : (x y : N) → neg x ⋆ y ≡ neg (x ⋆ y)
  neg-mul x y = neg-unique (x ⋆ y) (neg x ⋆ y) (sym (𝓛.right x (neg x) y) ∙ ap (λ z. z ⋆ y) (𝓛.add-neg x) ∙ zero-mul y)

  pub neg-sum : (x y : N) → neg (x ⊹ y) ≡ neg x ⊹ neg y
  neg-sum x y =
      sym (neg-unique (x ⊹ y) (neg x ⊹ neg y)
      (middle x y (neg x) (neg y) ∙ (λ i. 𝓛.add-neg x i ⊹ 𝓛.add-neg y i) ∙ 𝓛.add-zero 𝟘))

  -- x - y = 0
  pub same-of : (x y : N) → x ⊹ neg y ≡ 𝟘 → x ≡ y
  same-of x y e = sym (neg-neg x) ∙ ap neg (sym (neg-unique x (neg y) e)) ∙ neg-neg y

  -- ---- signs in front

  pub sg-mul : (b : Bool) (x y : N) → sg 𝓡 b x ⋆ y ≡ sg 𝓡 b (x ⋆ y)
  sg-mul false x y = refl
  sg-mul true x y = neg-mul x y

  pub mul-sg : (b : Bool) (x y : N) → x ⋆ sg 𝓡 b y ≡ sg 𝓡 b (x ⋆ y)
  mul-sg false x y = refl
  mul-sg true x y = mul-neg x y

  pub sg-add : (b : Bool) (x y : N) → sg 𝓡 b (x ⊹ y) ≡ sg 𝓡 b x ⊹ sg 𝓡 b y
  sg-add false x y = refl
  sg-add true x y = neg-sum x y

  pub sg-zero : (b : Bool) → sg 𝓡 b 𝟘 ≡ 𝟘
  sg-zero false = refl
  sg-zero true = neg-zero

  pub sg-sg : (b c : Bool) (x : N) → sg 𝓡 b (sg 𝓡 c x) ≡ sg 𝓡 (xor b c) x
  unfolding xor
  sg-sg false false x = refl
  sg-sg false true x = refl
  sg-sg true false x = refl
  sg-sg true true x = neg-neg x

  pub sg-not : (b : Bool) (x : N) → sg 𝓡 (not b) x ≡ neg (sg 𝓡 b x)
  sg-not false x = refl
  sg-not true x = sym (neg-neg x)

  pub sg-swap : (b c : Bool) (x : N) → sg 𝓡 b (sg 𝓡 c x) ≡ sg 𝓡 c (sg 𝓡 b x)
  sg-swap false c x = refl
  sg-swap true false x = refl
  sg-swap true true x = refl
