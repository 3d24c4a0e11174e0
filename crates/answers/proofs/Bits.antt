-- "Mode k reads its bit", as an operator: asked twice it is asked once, asked for both bits it is nought, and of two modes it may be asked in either order.
-- Assumes nothing.
use mathlib.Core.Path.{◌≡◌, refl, sym, ap, ◌∙◌}
use mathlib.Core.Logic.{◌≢◌}
use mathlib.Core.Bool.{Bool, true, false, not, xor}
use mathlib.Core.List.{[]}
use Prim.Native.Nat.{ℕ, ◌<◌}
use native.Mathlib.Omega.{arith}
use Rattle.rings.specs.Rings.{Ops, IsRing, sg}
use Rattle.formulas.specs.Numbers.{Exact}
use Rattle.angles.specs.Qubits.{z, Operators}
use Rattle.answers.specs.Marginals.{reads}
use Rattle.rings.proofs.Rings.{sg-mul, mul-sg, neg-neg, sg-swap}
use Rattle.rings.proofs.Solve.{Exp, var, nought, unit, plus, times, minus, left-of, value, solve}
use Rattle.angles.proofs.Passing.{exchanged}
use Rattle.angles.proofs.Clifford.{halved, rules, env, obeys}

module _ {𝓝 : Ops} {below : 𝓝.N → Bool} (𝓔 : Exact 𝓝 below) {n : ℕ} {𝓐 : Ops} (𝓠 : Operators 𝓝 𝓔.i n 𝓐) where
  open 𝓐 use {N, zero as 𝟘, one as 𝟙, add as ◌⊹◌, mul as ◌⋆◌, neg}

  infixl 65 ◌⊹◌
  infixl 70 ◌⋆◌
  abbrev 𝓛 : IsRing 𝓐
  𝓛 = 𝓠.ring

  abbrev Z : ℕ → N
  Z = 𝓠.pauli z

  -- the sign of Z for a bit is its own inverse, as Z is
  signed-square : (b : Bool) (k : ℕ) → k < n → sg 𝓐 b (Z k) ⋆ sg 𝓐 b (Z k) ≡ 𝟙
  unfolding xor
  signed-square b k h = sg-mul 𝓛 b (Z k) (sg 𝓐 b (Z k)) ∙ ap (sg 𝓐 b) (mul-sg 𝓛 b (Z k) (Z k)) ∙ by b ∙ 𝓠.square z k h
    where
      by : (b : Bool) → sg 𝓐 b (sg 𝓐 b (Z k ⋆ Z k)) ≡ Z k ⋆ Z k
      by false = refl
      by true = neg-neg 𝓛 (Z k ⋆ Z k)

  -- ---- one mode: by the solver, with 0 for the number a half, and 100 for the signed Z

  module _ (b : Bool) (k : ℕ) (h : k < n) where
    abbrev g : ℕ → N
    g a = sg 𝓐 b (Z k)

    abbrev values : ℕ → N
    values = env 𝓔 𝓠 1 g (λ i j u v d. absurd (d (omega arith))) (λ a u. signed-square b k h) (λ a. 𝓔.half)

    by-half : (e f : Exp) → left-of (rules 1) (plus e (minus f)) ≡ [] → value 𝓐 values e ≡ value 𝓐 values f
    by-half = solve 𝓛 values (rules 1) (obeys 𝓔 𝓠 1 g (λ i j u v d. absurd (d (omega arith))) (λ a u. signed-square b k h) (λ a. 𝓔.half))

    -- half of 1 and the signed Z
    abbrev read_e : Exp
    read_e = times (var 0) (plus unit (var 100))

    pub reads-twice : reads 𝓔 𝓠 b k ⋆ reads 𝓔 𝓠 b k ≡ reads 𝓔 𝓠 b k
    unfolding xor
    reads-twice =
        by-half (times read_e read_e) (times (var 0) (plus read_e read_e)) refl
        ∙ halved 𝓔 𝓠 (reads 𝓔 𝓠 b k)

    abbrev other_e : Exp
    other_e = times (var 0) (plus unit (minus (var 100)))

    reads-other : reads 𝓔 𝓠 b k ⋆ (𝓠.num 𝓔.half ⋆ (𝟙 ⊹ neg (sg 𝓐 b (Z k)))) ≡ 𝟘
    unfolding xor
    reads-other = by-half (times read_e other_e) nought refl

  pub reads-both : (b : Bool) (k : ℕ) → k < n → reads 𝓔 𝓠 b k ⋆ reads 𝓔 𝓠 (not b) k ≡ 𝟘
  reads-both false k h = reads-other false k h
  reads-both true k h = ap (λ a. reads 𝓔 𝓠 true k ⋆ (𝓠.num 𝓔.half ⋆ (𝟙 ⊹ a))) (sym (neg-neg 𝓛 (Z k))) ∙ reads-other true k h

  -- ---- two modes

  -- what commutes with x commutes with 1 + x
  with-one : (a x : N) → a ⋆ x ≡ x ⋆ a → a ⋆ (𝟙 ⊹ x) ≡ (𝟙 ⊹ x) ⋆ a
  with-one a x e =
      𝓛.left a 𝟙 x ∙ (λ i. (𝓛.mul-one a ∙ sym (𝓛.one-mul a)) i ⊹ e i) ∙ sym (𝓛.right 𝟙 x a)

  pub reads-z : (b c : Bool) (j k : ℕ) → j < n → k < n → j ≢ k → reads 𝓔 𝓠 b j ⋆ reads 𝓔 𝓠 c k ≡ reads 𝓔 𝓠 c k ⋆ reads 𝓔 𝓠 b j
  reads-z b c j k hj hk d =
      exchanged 𝓛 half p half q (sym (𝓠.central 𝓔.half p))
      ∙ ap (λ x. half ⋆ half ⋆ x) (with-one p (sg 𝓐 c (Z k)) (sym (with-one (sg 𝓐 c (Z k)) (sg 𝓐 b (Z j)) signs)))
      ∙ sym (exchanged 𝓛 half q half p (sym (𝓠.central 𝓔.half q)))
    where
      half : N
      half = 𝓠.num 𝓔.half

      p : N
      p = 𝟙 ⊹ sg 𝓐 b (Z j)

      q : N
      q = 𝟙 ⊹ sg 𝓐 c (Z k)

      signs : sg 𝓐 c (Z k) ⋆ sg 𝓐 b (Z j) ≡ sg 𝓐 b (Z j) ⋆ sg 𝓐 c (Z k)
      signs =
          sg-mul 𝓛 c (Z k) (sg 𝓐 b (Z j))
          ∙ ap (sg 𝓐 c) (mul-sg 𝓛 b (Z k) (Z j) ∙ ap (sg 𝓐 b) (𝓠.apart z z k j hk hj (λ e. d (sym e))))
          ∙ sg-swap 𝓛 c b (Z j ⋆ Z k)
          ∙ ap (sg 𝓐 b) (sym (mul-sg 𝓛 c (Z j) (Z k)))
          ∙ sym (sg-mul 𝓛 b (Z j) (sg 𝓐 c (Z k)))
