-- PAIRS DIVIDE where real numbers do: s / t is s t* / |t|^2, and only nought has the norm nought. So what is said of numbers that divide is said of pairs.
-- Assumes nothing.
use mathlib.Core.Path.{◌≡◌, refl, sym, ap, ◌∙◌}
use mathlib.Core.Logic.{◌⊎◌, inl, inr}
use mathlib.Core.Bool.{Bool, true, false, ◌&&◌, ◌||◌, not, xor, false≢true}
use mathlib.Core.List.{[], ◌∷◌}
use Rattle.rings.specs.Rings.{Ops, IsRing}
use Rattle.formulas.specs.Numbers.{Tests, Divides}
use Rattle.matchgates.specs.Complex.{complex, flat, Real}
use Rattle.matchgates.specs.Words.{conj_of, scale_of, norm_sqr_of, is_zero_of}
use Rattle.rings.proofs.Rings.{zero-mul, neg-unique}
use Rattle.rings.proofs.Solve.{var, unit, plus, times, exps, by-comm}
use Rattle.matchgates.proofs.Complex.{two, ℂE, law}

-- ---- two sizes: a is so of a first number that is nought, b of a second

larger : (a b : Bool) → a && not b ≡ true → b ≡ true → a ≡ true
larger true b h k = refl
larger false b h k = h

not-larger : (a b : Bool) → a && not b ≡ false → a ≡ true → b ≡ true
not-larger true true h k = refl
not-larger true false h k = sym h
not-larger false b h k = absurd (false≢true k)

smallest : (a b : Bool) → not a || b ≡ true → a ≡ true → b ≡ true
smallest true b h k = h
smallest false b h k = absurd (false≢true k)

smaller : (a b : Bool) → not a || b ≡ false → b ≡ true → a ≡ true
smaller true b h k = refl
smaller false b h k = sym h

both : (a b : Bool) → a && b ≡ true → (a ≡ true) × (b ≡ true)
both true b h = (refl, h)
both false b h = absurd (false≢true h)

-- ---- quotients

module _ (𝓡 : Ops) (𝓣 : Tests 𝓡) where
  abbrev null : (complex 𝓡).N → Bool
  null = is_zero_of 𝓡 𝓣

  -- zero is smaller than all others, which are equally large
  abbrev pub pair_tests : Tests (complex 𝓡)
  pair_tests = record {
    div = λ s t. scale_of 𝓡 ((complex 𝓡).mul s (conj_of 𝓡 t)) (𝓣.div 𝓡.one (norm_sqr_of 𝓡 t));
    null = null;
    size = λ s. s;
    less = λ s t. null s && not (null t);
    not_below = λ s t. not (null s) || null t;
    nothing = (complex 𝓡).zero;
  }

module _ {𝓡 : Ops} {below : 𝓡.N → Bool} (𝓕 : Real 𝓡 below) {𝓣 : Tests 𝓡} (𝓥 : Divides 𝓡 𝓣) where
  open 𝓡 use {N, zero as 𝟘, one as 𝟙, add as ◌⊹◌, mul as ◌⋆◌}

  infixl 65 ◌⊹◌
  infixl 70 ◌⋆◌
  abbrev 𝓛 : IsRing 𝓡
  𝓛 = 𝓕.laws.ring

  abbrev ℂ : Ops
  ℂ = complex 𝓡

  abbrev norm : ℂ.N → N
  norm = norm_sqr_of 𝓡

  of-zero : (x : N) → x ≡ 𝟘 → 𝓣.null x ≡ true
  of-zero x e = ap 𝓣.null e ∙ 𝓥.zero-null

  square-nought : (x : N) → x ⋆ x ≡ 𝟘 → x ≡ 𝟘
  square-nought x e = by (𝓕.factor x x e)
    where
      by : (x ≡ 𝟘) ⊎ (x ≡ 𝟘) → x ≡ 𝟘
      by (inl d) = d
      by (inr d) = d

  -- only nought has the norm nought: else -1 would be a square
  norm-nought : (t : ℂ.N) → norm t ≡ 𝟘 → is_zero_of 𝓡 𝓣 t ≡ true
  unfolding xor
  norm-nought t e = by (𝓣.null t.im) refl
    where
      x : N
      x = 𝓣.div t.re t.im

      by : (b : Bool) → 𝓣.null t.im ≡ b → 𝓣.null t.re && b ≡ true
      by true d =
          ap (λ a. a && true)
          (of-zero t.re
          (square-nought t.re
          (sym (𝓛.add-zero (t.re ⋆ t.re)) ∙ ap (λ y. t.re ⋆ t.re ⊹ y) (sym (ap (λ y. y ⋆ t.im) (𝓥.is-null t.im d) ∙ zero-mul 𝓛 t.im)) ∙ e)))
      by false d = absurd (or (𝓕.factor (x ⋆ x ⊹ 𝟙) (t.im ⋆ t.im) product))
        where
          product : (x ⋆ x ⊹ 𝟙) ⋆ (t.im ⋆ t.im) ≡ 𝟘
          product =
              by-comm 𝓕.laws (x ∷ t.im ∷ []) (times (plus (times (var 0) (var 0)) unit) (times (var 1) (var 1)))
              (plus (times (times (var 0) (var 1)) (times (var 0) (var 1))) (times (var 1) (var 1))) refl
              ∙ ap (λ y. y ⋆ y ⊹ t.im ⋆ t.im) (𝓥.quotient t.re t.im d)
              ∙ e

          or : (x ⋆ x ⊹ 𝟙 ≡ 𝟘) ⊎ (t.im ⋆ t.im ≡ 𝟘) → ⊥
          or (inl f) = 𝓕.no-root x (neg-unique 𝓛 𝟙 (x ⋆ x) (𝓛.add-comm 𝟙 (x ⋆ x) ∙ f))
          or (inr f) = false≢true (sym d ∙ of-zero t.im (square-nought t.im f))

  norm-lives : (t : ℂ.N) → is_zero_of 𝓡 𝓣 t ≡ false → 𝓣.null (norm t) ≡ false
  norm-lives t h = by (𝓣.null (norm t)) refl
    where
      by : (b : Bool) → 𝓣.null (norm t) ≡ b → b ≡ false
      by true e = absurd (false≢true (sym h ∙ norm-nought t (𝓥.is-null (norm t) e)))
      by false e = refl

  quotient : (s t : ℂ.N) → is_zero_of 𝓡 𝓣 t ≡ false → ℂ.mul ((pair_tests 𝓡 𝓣).div s t) t ≡ s
  unfolding xor
  quotient s t h =
      law 𝓕 (s.re ∷ s.im ∷ t.re ∷ t.im ∷ 𝓣.div 𝟙 (norm t) ∷ [])
      (ℂE.mul (scale_of exps (ℂE.mul (two 0 1) (conj_of exps (two 2 3))) (var 4)) (two 2 3))
      (scale_of exps (two 0 1) (times (var 4) (norm_sqr_of exps (two 2 3)))) refl refl
      ∙ ap (scale_of 𝓡 s) (𝓥.quotient 𝟙 (norm t) (norm-lives t h))
      ∙ (λ i. record { re = 𝓛.mul-one s.re i; im = 𝓛.mul-one s.im i })

  -- of real numbers it is the real one
  pub flat-div : (s t : N) → 𝓣.null t ≡ false → flat 𝓡 (𝓣.div s t) ≡ (pair_tests 𝓡 𝓣).div (flat 𝓡 s) (flat 𝓡 t)
  unfolding xor
  flat-div s t h =
      ap (flat 𝓡) (sym (𝓛.mul-one q) ∙ ap (λ y. q ⋆ y) (sym (𝓥.quotient 𝟙 (norm (flat 𝓡 t)) (norm-lives (flat 𝓡 t) (ap (λ a. a && 𝓣.null 𝟘) h)))))
      ∙ sym (law 𝓕 (q ∷ t ∷ r ∷ []) (scale_of exps (ℂE.mul (flat exps (times (var 0) (var 1))) (conj_of exps (flat exps (var 1)))) (var 2))
      (flat exps (times (var 0) (times (var 2) (norm_sqr_of exps (flat exps (var 1)))))) refl refl)
      ∙ ap (λ y. scale_of 𝓡 (ℂ.mul (flat 𝓡 y) (conj_of 𝓡 (flat 𝓡 t))) r) (𝓥.quotient s t h)
    where
      q : N
      q = 𝓣.div s t

      r : N
      r = 𝓣.div 𝟙 (norm (flat 𝓡 t))

  -- PAIRS DIVIDE
  pub pairs-divide : Divides ℂ (pair_tests 𝓡 𝓣)
  pairs-divide = record {
    quotient = quotient;
    is-null = λ s h. λ i. record { re = 𝓥.is-null s.re (both (𝓣.null s.re) (𝓣.null s.im) h).0 i; im = 𝓥.is-null s.im (both (𝓣.null s.re) (𝓣.null s.im) h).1 i };
    zero-null = ap (λ a. a && 𝓣.null 𝟘) 𝓥.zero-null ∙ 𝓥.zero-null;
    size-null = λ s. refl;
    larger = λ s t. larger (is_zero_of 𝓡 𝓣 s) (is_zero_of 𝓡 𝓣 t);
    not-larger = λ s t. not-larger (is_zero_of 𝓡 𝓣 s) (is_zero_of 𝓡 𝓣 t);
    smallest = λ s t. smallest (is_zero_of 𝓡 𝓣 s) (is_zero_of 𝓡 𝓣 t);
    smaller = λ s t. smaller (is_zero_of 𝓡 𝓣 s) (is_zero_of 𝓡 𝓣 t);
  }
