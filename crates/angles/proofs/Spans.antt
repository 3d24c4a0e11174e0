-- Sums of Majorana operators: blocks take them to such sums, and two of them anticommute up to a number. Assumes nothing.
use mathlib.Core.Path.{◌≡◌, refl, sym, ap, subst, ◌∙◌}
use mathlib.Core.Bool.{Bool, true, false}
use Prim.Native.Nat.{ℕ, zero, suc, ◌+◌, ◌*◌, ◌<◌}
use native.Mathlib.Omega.{arith}
use lib.Dec.{eqb}
use borrow.Author.Tests.{eqb-true, eqb-false}
use Rattle.rings.specs.Rings.{Ops, IsRing}
use Rattle.formulas.specs.Numbers.{Exact}
use Rattle.formulas.specs.Engine.{Local}
use Rattle.angles.specs.Qubits.{Operators, gamma}
use Rattle.angles.specs.Angles.{combined, Block, operation, acts}
use Rattle.rings.proofs.Rings.{zero-mul, mul-zero, middle, neg-add}
use Rattle.angles.proofs.Indices.{Place, before, within, after, place}
use Rattle.angles.proofs.Majoranas.{num-zero, gamma-square, gamma-anti}
use Rattle.angles.proofs.Blocks.{acts-add, acts-num, earlier, later-gamma}
use Rattle.angles.proofs.Steps.{move}

module _ {𝓝 : Ops} {below : 𝓝.N → Bool} (𝓔 : Exact 𝓝 below) {n : ℕ} {𝓐 : Ops} (𝓠 : Operators 𝓝 𝓔.i n 𝓐) where
  open 𝓐 use {N, zero as 𝟘, add as ◌⊹◌, mul as ◌⋆◌}

  infixl 65 ◌⊹◌
  infixl 70 ◌⋆◌
  abbrev 𝓛 : IsRing 𝓐
  𝓛 = 𝓠.ring

  pub data Span : N → Type 0 where
    basic : (r : ℕ) → r < 2 * n → Span (gamma 𝓠 r)
    none : Span 𝟘
    both : {a b : N} → Span a → Span b → Span (a ⊹ b)
    scaled : (s : 𝓝.N) {a : N} → Span a → Span (𝓠.num s ⋆ a)

  span-combined : (q : ℕ → 𝓝.N) (g : ℕ → N) (k : ℕ) → ((j : ℕ) → j < k → Span (g j)) → Span (combined 𝓠 q g k)
  unfolding combined
  span-combined q g zero h = none
  span-combined q g (suc k) h = both (span-combined q g k (λ j l. h j (omega arith))) (scaled (q k) (h k (omega arith)))

  -- ---- under a block

  module _ (g : Block 𝓠) where
    abbrev φ : N → N
    φ = acts 𝓠 g

    abbrev o : Local 𝓝
    o = operation 𝓠 g

    basic-acts : (r : ℕ) → r < 2 * n → Span (φ (gamma 𝓠 r))
    basic-acts r h = by (place o r)
      where
        by : Place o r → Span (φ (gamma 𝓠 r))
        by (before p e k) = subst Span (sym (earlier 𝓔 𝓠 g r p)) (basic r h)
        by (within j w s d e k) =
            subst (λ m. Span (φ (gamma 𝓠 m))) s
            (subst Span (sym (g.sends j w))
            (span-combined (g.map j) (λ b. gamma 𝓠 (2 * g.start + b)) (2 * g.modes) (λ b l. basic (2 * g.start + b) (omega (arith, g.fits)))))
        by (after p e k) = subst Span (sym (later-gamma 𝓔 𝓠 g r p h)) (scaled _ (basic r h))

    zero-acts : φ 𝟘 ≡ 𝟘
    zero-acts = ap (λ a. g.v ⋆ a) (zero-mul 𝓛 g.u) ∙ mul-zero 𝓛 g.v

    pub span-acts : {a : N} → Span a → Span (φ a)
    span-acts (basic r h) = basic-acts r h
    span-acts none = subst Span (sym zero-acts) none
    span-acts (both {a = a} {b = b} s t) = subst Span (sym (acts-add 𝓔 𝓠 g a b)) (both (span-acts s) (span-acts t))
    span-acts (scaled c {a = a} s) = subst Span (sym (acts-num 𝓔 𝓠 g c a)) (scaled c (span-acts s))

  -- ---- two of them

  -- a b + b a is a number
  abbrev Meet : N → N → Type 0
  Meet a b = (t : 𝓝.N) × (a ⋆ b ⊹ b ⋆ a ≡ 𝓠.num t)

  meet-back : (a b : N) → Meet a b → Meet b a
  meet-back a b m = (m.0, 𝓛.add-comm (b ⋆ a) (a ⋆ b) ∙ m.1)

  meet-none : (b : N) → Meet 𝟘 b
  meet-none b = (𝓝.zero, (λ i. zero-mul 𝓛 b i ⊹ mul-zero 𝓛 b i) ∙ 𝓛.add-zero 𝟘 ∙ sym (num-zero 𝓔 𝓠))

  meet-both : (a c b : N) → Meet a b → Meet c b → Meet (a ⊹ c) b
  meet-both a c b m p = (
    𝓝.add m.0 p.0,
    (λ i. 𝓛.right a c b i ⊹ 𝓛.left b a c i) ∙ middle 𝓛 (a ⋆ b) (c ⋆ b) (b ⋆ a) (b ⋆ c) ∙ (λ i. m.1 i ⊹ p.1 i) ∙ sym (𝓠.num-add m.0 p.0),
  )

  meet-scaled : (s : 𝓝.N) (a b : N) → Meet a b → Meet (𝓠.num s ⋆ a) b
  meet-scaled s a b m = (
    𝓝.mul s m.0,
    (λ i. 𝓛.mul-assoc (𝓠.num s) a b i ⊹ move 𝓔 𝓠 s b a i) ∙ sym (𝓛.left (𝓠.num s) (a ⋆ b) (b ⋆ a)) ∙ ap (λ c. 𝓠.num s ⋆ c) m.1
        ∙ sym (𝓠.num-mul s m.0),
  )

  meet-basic : (r c : ℕ) → r < 2 * n → c < 2 * n → Meet (gamma 𝓠 r) (gamma 𝓠 c)
  meet-basic r c h l = by (eqb r c) refl
    where
      by : (b : Bool) → eqb r c ≡ b → Meet (gamma 𝓠 r) (gamma 𝓠 c)
      by true e =
          subst (λ m. Meet (gamma 𝓠 r) (gamma 𝓠 m)) (eqb-true r c e)
          (𝓝.add 𝓝.one 𝓝.one, (λ i. gamma-square 𝓔 𝓠 r h i ⊹ gamma-square 𝓔 𝓠 r h i) ∙ (λ i. sym 𝓠.num-one i ⊹ sym 𝓠.num-one i) ∙ sym (𝓠.num-add 𝓝.one 𝓝.one))
      by false e =
          (𝓝.zero, ap (λ a. a ⊹ gamma 𝓠 c ⋆ gamma 𝓠 r) (gamma-anti 𝓔 𝓠 r c h l (eqb-false r c e)) ∙ neg-add 𝓛 (gamma 𝓠 c ⋆ gamma 𝓠 r) ∙ sym (num-zero 𝓔 𝓠))

  meet-one : (r : ℕ) → r < 2 * n → {b : N} → Span b → Meet b (gamma 𝓠 r)
  meet-one r h (basic c l) = meet-basic c r l h
  meet-one r h none = meet-none (gamma 𝓠 r)
  meet-one r h (both {a = a} {b = b} s t) = meet-both a b (gamma 𝓠 r) (meet-one r h s) (meet-one r h t)
  meet-one r h (scaled c {a = a} s) = meet-scaled c a (gamma 𝓠 r) (meet-one r h s)

  pub meet : {a b : N} → Span a → Span b → Meet a b
  meet {b = b} (basic r h) t = meet-back b (gamma 𝓠 r) (meet-one r h t)
  meet {b = b} none t = meet-none b
  meet {b = b} (both {a = a} {b = c} s u) t = meet-both a c b (meet s t) (meet u t)
  meet {b = b} (scaled c {a = a} s) t = meet-scaled c a b (meet s t)
