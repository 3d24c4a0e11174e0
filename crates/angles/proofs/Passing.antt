-- Operators that pass one another with a sign. Assumes nothing.
use mathlib.Core.Path.{◌≡◌, sym, ap, ◌∙◌}
use mathlib.Core.Bool.{Bool, true, false, xor}
use Rattle.rings.specs.Rings.{Ops, IsRing, sg}
use Rattle.rings.proofs.Rings.{sg-mul, mul-sg, sg-sg, neg-neg, neg-mul}

-- a b = b a, with a minus if s
abbrev pub Pass : (𝓡 : Ops) → Bool → 𝓡.N → 𝓡.N → Type 0
Pass 𝓡 s a b = 𝓡.mul a b ≡ sg 𝓡 s (𝓡.mul b a)

module _ {𝓡 : Ops} (𝓛 : IsRing 𝓡) where
  open 𝓡 use {N, one as 𝟙, mul as ◌⋆◌, neg}

  infixl 70 ◌⋆◌
  pub pass-one : (a : N) → Pass 𝓡 false a 𝟙
  pass-one a = 𝓛.mul-one a ∙ sym (𝓛.one-mul a)

  pub pass-back : (s : Bool) (a b : N) → Pass 𝓡 s a b → Pass 𝓡 s b a
  pass-back false a b e = sym e
  pass-back true a b e = sym (neg-neg 𝓛 (b ⋆ a)) ∙ ap neg (sym e)

  pub pass-mul : (s t : Bool) (a b c : N) → Pass 𝓡 s a b → Pass 𝓡 t a c → Pass 𝓡 (xor s t) a (b ⋆ c)
  pass-mul s t a b c e f =
      sym (𝓛.mul-assoc a b c)
      ∙ ap (λ y. y ⋆ c) e
      ∙ sg-mul 𝓛 s (b ⋆ a) c
      ∙ ap (sg 𝓡 s) (𝓛.mul-assoc b a c ∙ ap (λ y. b ⋆ y) f ∙ mul-sg 𝓛 t b (c ⋆ a) ∙ ap (sg 𝓡 t) (sym (𝓛.mul-assoc b c a)))
      ∙ sg-sg 𝓛 s t (b ⋆ c ⋆ a)

  pub mul-pass : (s t : Bool) (a b c : N) → Pass 𝓡 s a c → Pass 𝓡 t b c → Pass 𝓡 (xor s t) (a ⋆ b) c
  mul-pass s t a b c e f = pass-back (xor s t) c (a ⋆ b) (pass-mul s t c a b (pass-back s a c e) (pass-back t b c f))

  -- (a b) (c d) = (a c) (b d), where b and c commute
  pub exchanged : (a b c d : N) → Pass 𝓡 false b c → a ⋆ b ⋆ (c ⋆ d) ≡ a ⋆ c ⋆ (b ⋆ d)
  exchanged a b c d e =
      𝓛.mul-assoc a b (c ⋆ d)
      ∙ ap (λ y. a ⋆ y) (sym (𝓛.mul-assoc b c d) ∙ ap (λ y. y ⋆ d) e ∙ 𝓛.mul-assoc c b d)
      ∙ sym (𝓛.mul-assoc a c (b ⋆ d))

  -- a a = b b = c c = 1 and a b = j c, with j j = -1 for a number j: a and b anticommute
  pub turns : (a b c j : N) → a ⋆ a ≡ 𝟙 → b ⋆ b ≡ 𝟙 → c ⋆ c ≡ 𝟙 → a ⋆ b ≡ j ⋆ c → j ⋆ j ≡ neg 𝟙 → Pass 𝓡 false j c → Pass 𝓡 true a b
  turns a b c j aa bb cc' ab jj jc =
      sym (𝓛.mul-one (a ⋆ b))
      ∙ ap (λ y. a ⋆ b ⋆ y) (sym twice)
      ∙ sym (𝓛.mul-assoc (a ⋆ b) (a ⋆ b) (b ⋆ a))
      ∙ ap (λ y. y ⋆ (b ⋆ a)) square
      ∙ neg-mul 𝓛 𝟙 (b ⋆ a)
      ∙ ap neg (𝓛.one-mul (b ⋆ a))
    where
      square : a ⋆ b ⋆ (a ⋆ b) ≡ neg 𝟙
      square = (λ i. ab i ⋆ ab i) ∙ exchanged j c j c (sym jc) ∙ (λ i. jj i ⋆ cc' i) ∙ 𝓛.mul-one (neg 𝟙)

      twice : a ⋆ b ⋆ (b ⋆ a) ≡ 𝟙
      twice = 𝓛.mul-assoc a b (b ⋆ a) ∙ ap (λ y. a ⋆ y) (sym (𝓛.mul-assoc b b a) ∙ ap (λ y. y ⋆ a) bb ∙ 𝓛.one-mul a) ∙ aa
