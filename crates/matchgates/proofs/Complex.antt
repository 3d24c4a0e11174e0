-- Pairs of real numbers are exact numbers with a conjugate; the real part of the statement is the first of the pair. Assumes nothing.
use mathlib.Core.Path.{◌≡◌, refl, sym, ap, ◌∙◌}
use mathlib.Core.Logic.{◌⊎◌, inl, inr}
use mathlib.Core.Bool.{Bool, xor}
use mathlib.Core.List.{List, [], ◌∷◌}
use Prim.Native.Nat.{ℕ}
use Rattle.rings.specs.Rings.{Ops, IsRing}
use Rattle.formulas.specs.Numbers.{Exact}
use Rattle.matchgates.specs.Maps.{Conjugate, re}
use Rattle.matchgates.specs.Complex.{Pair, complex, flat, Real}
use Rattle.rings.proofs.Rings.{zero-mul, mul-zero, neg-zero, neg-neg, neg-unique, same-of, zero-add}
use Rattle.rings.proofs.Solve.{var, nought, unit, plus, times, minus, exps, left-of, value, commuting, listed, by-comm}

-- pairs of terms
abbrev pub two : ℕ → ℕ → Pair exps
two a b = record { re = var a; im = var b }

abbrev X : Pair exps
X = two 0 1

abbrev Y : Pair exps
Y = two 2 3

abbrev Z : Pair exps
Z = two 4 5

abbrev pub ℂE : Ops
ℂE = complex exps

abbrev conj_e : Pair exps → Pair exps
conj_e s = record { re = s.re; im = minus s.im }

module _ {𝓡 : Ops} {below : 𝓡.N → Bool} (𝓕 : Real 𝓡 below) where
  open 𝓡 use {N, zero as 𝟘, one as 𝟙, add as ◌⊹◌, mul as ◌⋆◌, neg}

  infixl 65 ◌⊹◌
  infixl 70 ◌⋆◌
  abbrev 𝓛 : IsRing 𝓡
  𝓛 = 𝓕.laws.ring

  abbrev pub ℂ : Ops
  ℂ = complex 𝓡

  abbrev pub i : ℂ.N
  i = record { re = 𝟘; im = 𝟙 }

  abbrev pub conj : ℂ.N → ℂ.N
  conj s = record { re = s.re; im = neg s.im }

  pair : (s t : ℂ.N) → s.re ≡ t.re → s.im ≡ t.im → s ≡ t
  pair s t e d = λ j. record { re = e j; im = d j }

  abbrev pub valued : List N → Pair exps → ℂ.N
  valued ss p = record { re = value 𝓡 (listed 𝓡 ss) p.re; im = value 𝓡 (listed 𝓡 ss) p.im }

  pub law : (ss : List N) (p q : Pair exps) → left-of commuting (plus p.re (minus q.re)) ≡ [] → left-of commuting (plus p.im (minus q.im)) ≡ []
      → valued ss p ≡ valued ss q
  law ss p q e d = pair (valued ss p) (valued ss q) (by-comm 𝓕.laws ss p.re q.re e) (by-comm 𝓕.laws ss p.im q.im d)

  abbrev of3 : ℂ.N → ℂ.N → ℂ.N → List N
  of3 s t u = s.re ∷ s.im ∷ t.re ∷ t.im ∷ u.re ∷ u.im ∷ []

  pub ring-pairs : IsRing ℂ
  unfolding xor
  ring-pairs = record {
    add-assoc = λ s t u. law (of3 s t u) (ℂE.add (ℂE.add X Y) Z) (ℂE.add X (ℂE.add Y Z)) refl refl;
    add-comm = λ s t. law (of3 s t s) (ℂE.add X Y) (ℂE.add Y X) refl refl;
    add-zero = λ s. law (of3 s s s) (ℂE.add X ℂE.zero) X refl refl;
    add-neg = λ s. law (of3 s s s) (ℂE.add X (ℂE.neg X)) ℂE.zero refl refl;
    mul-assoc = λ s t u. law (of3 s t u) (ℂE.mul (ℂE.mul X Y) Z) (ℂE.mul X (ℂE.mul Y Z)) refl refl;
    one-mul = λ s. law (of3 s s s) (ℂE.mul ℂE.one X) X refl refl;
    mul-one = λ s. law (of3 s s s) (ℂE.mul X ℂE.one) X refl refl;
    left = λ s t u. law (of3 s t u) (ℂE.mul X (ℂE.add Y Z)) (ℂE.add (ℂE.mul X Y) (ℂE.mul X Z)) refl refl;
    right = λ s t u. law (of3 s t u) (ℂE.mul (ℂE.add X Y) Z) (ℂE.add (ℂE.mul X Z) (ℂE.mul Y Z)) refl refl;
  }

  halved : (s : N) → 𝓕.half ⋆ (s ⊹ s) ≡ s
  halved s = 𝓛.left 𝓕.half s s ∙ sym (𝓛.right 𝓕.half 𝓕.half s) ∙ ap (λ t. t ⋆ s) 𝓕.halves ∙ 𝓛.one-mul s

  -- 1 has the roots 1 and -1 only
  real-roots : (s : N) → s ⋆ s ≡ 𝟙 → (s ≡ 𝟙) ⊎ (s ≡ neg 𝟙)
  unfolding xor
  real-roots s e =
      by (𝓕.factor (s ⊹ neg 𝟙) (s ⊹ 𝟙)
      (by-comm 𝓕.laws (s ∷ []) (times (plus (var 0) (minus unit)) (plus (var 0) unit)) (plus (times (var 0) (var 0)) (minus unit)) refl
      ∙ ap (λ t. t ⊹ neg 𝟙) e ∙ 𝓛.add-neg 𝟙))
    where
      by : (s ⊹ neg 𝟙 ≡ 𝟘) ⊎ (s ⊹ 𝟙 ≡ 𝟘) → (s ≡ 𝟙) ⊎ (s ≡ neg 𝟙)
      by (inl d) = inl (same-of 𝓛 s 𝟙 d)
      by (inr d) = inr (neg-unique 𝓛 𝟙 s (𝓛.add-comm 𝟙 s ∙ d))

  pub pair-roots : (s : ℂ.N) → ℂ.mul s s ≡ ℂ.one → (s ≡ ℂ.one) ⊎ (s ≡ ℂ.neg ℂ.one)
  unfolding xor
  pair-roots s e = by (𝓕.factor s.re s.im (sym (halved (s.re ⋆ s.im)) ∙ ap (λ t. 𝓕.half ⋆ t) both ∙ mul-zero 𝓛 𝓕.half))
    where
      both : s.re ⋆ s.im ⊹ s.re ⋆ s.im ≡ 𝟘
      both = ap (λ t. s.re ⋆ s.im ⊹ t) (𝓕.laws.comm s.re s.im) ∙ ap (λ p. p.im) e

      first : s.re ⋆ s.re ⊹ neg (s.im ⋆ s.im) ≡ 𝟙
      first = ap (λ p. p.re) e

      flat : s.im ≡ 𝟘 → s.re ⋆ s.re ≡ 𝟙
      flat d =
          sym (𝓛.add-zero (s.re ⋆ s.re)) ∙ ap (λ t. s.re ⋆ s.re ⊹ t) (sym (ap (λ t. neg (t ⋆ s.im)) d ∙ ap neg (zero-mul 𝓛 s.im) ∙ neg-zero 𝓛)) ∙ first

      steep : s.re ≡ 𝟘 → s.im ⋆ s.im ≡ neg 𝟙
      steep d =
          sym (neg-neg 𝓛 (s.im ⋆ s.im))
          ∙ ap neg (sym (zero-add 𝓛 (neg (s.im ⋆ s.im))) ∙ ap (λ t. t ⊹ neg (s.im ⋆ s.im)) (sym (ap (λ t. t ⋆ s.re) d ∙ zero-mul 𝓛 s.re)) ∙ first)

      flatly : s.im ≡ 𝟘 → (s.re ≡ 𝟙) ⊎ (s.re ≡ neg 𝟙) → (s ≡ ℂ.one) ⊎ (s ≡ ℂ.neg ℂ.one)
      flatly d (inl f) = inl (pair s ℂ.one f d)
      flatly d (inr f) = inr (pair s (ℂ.neg ℂ.one) f (d ∙ sym (neg-zero 𝓛)))

      by : (s.re ≡ 𝟘) ⊎ (s.im ≡ 𝟘) → (s ≡ ℂ.one) ⊎ (s ≡ ℂ.neg ℂ.one)
      by (inl d) = absurd (𝓕.no-root s.im (steep d))
      by (inr d) = flatly d (real-roots s.re (flat d))

  -- sums and products of real numbers
  pub flat-add : (s t : N) → flat 𝓡 (s ⊹ t) ≡ ℂ.add (flat 𝓡 s) (flat 𝓡 t)
  flat-add s t = pair (flat 𝓡 (s ⊹ t)) (ℂ.add (flat 𝓡 s) (flat 𝓡 t)) refl (sym (𝓛.add-zero 𝟘))

  pub flats : (s t : N) → ℂ.mul (flat 𝓡 s) (flat 𝓡 t) ≡ flat 𝓡 (s ⋆ t)
  unfolding xor
  flats s t = law (s ∷ t ∷ []) (ℂE.mul (flat exps (var 0)) (flat exps (var 1))) (flat exps (times (var 0) (var 1))) refl refl

  pub comm-pairs : (s t : ℂ.N) → ℂ.mul s t ≡ ℂ.mul t s
  unfolding xor
  comm-pairs s t = law (of3 s t s) (ℂE.mul X Y) (ℂE.mul Y X) refl refl

  pub i-square : ℂ.mul i i ≡ ℂ.neg ℂ.one
  unfolding xor
  i-square = law [] (ℂE.mul (record { re = nought; im = unit }) (record { re = nought; im = unit })) (ℂE.neg ℂE.one) refl refl

  pub half-pair : ℂ.add (flat 𝓡 𝓕.half) (flat 𝓡 𝓕.half) ≡ ℂ.one
  half-pair = pair (ℂ.add (flat 𝓡 𝓕.half) (flat 𝓡 𝓕.half)) ℂ.one 𝓕.halves (𝓛.add-zero 𝟘)

  -- PAIRS ARE EXACT NUMBERS; the engine's test looks at the real part
  abbrev pub exact : Exact ℂ (λ s. below s.re)
  exact = record {
    laws = record { ring = ring-pairs; comm = comm-pairs };
    i = i;
    i-square = i-square;
    half = flat 𝓡 𝓕.half;
    halves = half-pair;
    roots = pair-roots;
    not-below = 𝓕.not-below;
    is-below = 𝓕.is-below;
  }

  pub conj-add : (s t : ℂ.N) → conj (ℂ.add s t) ≡ ℂ.add (conj s) (conj t)
  unfolding xor
  conj-add s t = law (of3 s t s) (conj_e (ℂE.add X Y)) (ℂE.add (conj_e X) (conj_e Y)) refl refl

  pub conj-mul : (s t : ℂ.N) → conj (ℂ.mul s t) ≡ ℂ.mul (conj s) (conj t)
  unfolding xor
  conj-mul s t = law (of3 s t s) (conj_e (ℂE.mul X Y)) (ℂE.mul (conj_e X) (conj_e Y)) refl refl

  pub conj-conj : (s : ℂ.N) → conj (conj s) ≡ s
  unfolding xor
  conj-conj s = law (of3 s s s) (conj_e (conj_e X)) X refl refl

  pub conj-i : conj i ≡ ℂ.neg i
  unfolding xor
  conj-i = law [] (conj_e (record { re = nought; im = unit })) (ℂE.neg (record { re = nought; im = unit })) refl refl

  abbrev pub conjugate : Conjugate ℂ i
  conjugate = record { conj = conj; conj-add = conj-add; conj-mul = conj-mul; conj-conj = conj-conj; conj-i = conj-i }

  -- the real part of the statement is the engine's: the first of the pair
  pub real-part : (s : ℂ.N) → re exact conjugate s ≡ flat 𝓡 s.re
  unfolding xor
  real-part s =
      law (𝓕.half ∷ s.re ∷ s.im ∷ []) (ℂE.mul (record { re = var 0; im = nought }) (ℂE.add (two 1 2) (conj_e (two 1 2))))
      (record { re = times (var 0) (plus (var 1) (var 1)); im = nought }) refl refl
      ∙ pair (record { re = 𝓕.half ⋆ (s.re ⊹ s.re); im = 𝟘 }) (record { re = s.re; im = 𝟘 }) (halved s.re) refl
