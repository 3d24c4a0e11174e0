-- The covariance of |0..0> is the engine's vacuum; and what the covariance is for two different Majorana operators. Assumes nothing.
use mathlib.Core.Path.{◌≡◌, refl, sym, ap, ◌∙◌}
use mathlib.Core.Logic.{◌≢◌}
use mathlib.Core.Bool.{Bool, true, false, cond, ◌&&◌, xor}
use Prim.Native.Nat.{ℕ, ◌+◌, ◌*◌, ◌/◌, ◌%◌, ◌<◌}
use native.Mathlib.Omega.{arith}
use lib.Dec.{eqb}
use borrow.Author.Tests.{eqb-true, eqb-false, eq-eqb, ne_eqb}
use Rattle.rings.specs.Rings.{Ops, IsRing}
use Rattle.formulas.specs.Numbers.{Exact}
use Rattle.formulas.specs.Engine.{vacuum}
use Rattle.angles.specs.Qubits.{z, Operators, zs, which, gamma}
use Rattle.rings.proofs.Rings.{mul-neg, mul-zero}
use Rattle.angles.proofs.Passing.{Pass, pass-back, pass-mul}
use Rattle.angles.proofs.Majoranas.{gamma-anti, z-is, zs-z, which-z}
use Rattle.angles.proofs.Clifford.{halved}
use Rattle.angles.proofs.Steps.{Linear, eta, bracket, cov, lin-zero, lin-neg}

and-false-if : (a b : Bool) → (a ≡ true → b ≡ true → ⊥) → a && b ≡ false
and-false-if false b h = refl
and-false-if true false h = refl
and-false-if true true h = absurd (h refl refl)

module _ {𝓝 : Ops} {below : 𝓝.N → Bool} (𝓔 : Exact 𝓝 below) {n : ℕ} {𝓐 : Ops} (𝓠 : Operators 𝓝 𝓔.i n 𝓐) where
  open 𝓐 use {N, zero as 𝟘, one as 𝟙, add as ◌⊹◌, mul as ◌⋆◌}

  infixl 65 ◌⊹◌
  infixl 70 ◌⋆◌
  abbrev 𝓛 : IsRing 𝓐
  𝓛 = 𝓠.ring

  abbrev mi : 𝓝.N
  mi = 𝓝.neg 𝓔.i

  -- ---- the bracket of two different Majorana operators, and of one with itself

  bracket-anti : (a b : N) → Pass 𝓐 true a b → bracket 𝓔 𝓠 a b ≡ 𝓠.num mi ⋆ (a ⋆ b)
  unfolding bracket
  bracket-anti a b e =
      (λ i. (𝓠.num-mul 𝓔.half mi ∙ 𝓠.central 𝓔.half (𝓠.num mi)) i ⋆ (a ⋆ b ⊹ sym e i))
      ∙ 𝓛.mul-assoc (𝓠.num mi) (𝓠.num 𝓔.half) (a ⋆ b ⊹ a ⋆ b)
      ∙ ap (λ c. 𝓠.num mi ⋆ c) (halved 𝓔 𝓠 (a ⋆ b))

  bracket-self : (a : N) → bracket 𝓔 𝓠 a a ≡ 𝟘
  unfolding bracket
  bracket-self a = ap (λ c. 𝓠.num (eta 𝓔 𝓠) ⋆ c) (𝓛.add-neg (a ⋆ a)) ∙ mul-zero 𝓛 (𝓠.num (eta 𝓔 𝓠))

  pub cov-apart : (f : N → 𝓝.N) (r c : ℕ) → r < 2 * n → c < 2 * n → r ≢ c → cov 𝓔 𝓠 f r c ≡ f (𝓠.num mi ⋆ (gamma 𝓠 r ⋆ gamma 𝓠 c))
  unfolding cov
  cov-apart f r c h l d = ap f (bracket-anti (gamma 𝓠 r) (gamma 𝓠 c) (gamma-anti 𝓔 𝓠 r c h l d))

  pub cov-self : (f : N → 𝓝.N) → Linear 𝓔 𝓠 f → (r : ℕ) → cov 𝓔 𝓠 f r r ≡ 𝓝.zero
  unfolding cov
  cov-self f l r = ap f (bracket-self (gamma 𝓠 r)) ∙ lin-zero 𝓔 𝓠 f l

  -- ---- the vacuum

  pub vac-linear : Linear 𝓔 𝓠 𝓠.vac
  vac-linear = record { adds = 𝓠.vac-add; nums = 𝓠.vac-num }

  -- an operator that anticommutes with the Z of a qubit has no value
  vac-odd : (k : ℕ) (a : N) → k < n → Pass 𝓐 true (𝓠.pauli z k) a → 𝓠.vac a ≡ 𝓝.zero
  vac-odd k a h e = none (𝓠.vac a) (sym (𝓠.bra k a h) ∙ ap 𝓠.vac e ∙ lin-neg 𝓔 𝓠 𝓠.vac vac-linear (a ⋆ 𝓠.pauli z k) ∙ ap 𝓝.neg (𝓠.ket k a h))
    where
      none : (x : 𝓝.N) → x ≡ 𝓝.neg x → x ≡ 𝓝.zero
      none x e =
          sym (𝓔.laws.ring.one-mul x)
          ∙ ap (λ s. 𝓝.mul s x) (sym 𝓔.halves)
          ∙ 𝓔.laws.ring.right 𝓔.half 𝓔.half x
          ∙ ap (λ s. 𝓝.add (𝓝.mul 𝓔.half x) (𝓝.mul 𝓔.half s)) e
          ∙ sym (𝓔.laws.ring.left 𝓔.half x (𝓝.neg x))
          ∙ ap (𝓝.mul 𝓔.half) (𝓔.laws.ring.add-neg x)
          ∙ mul-zero 𝓔.laws.ring 𝓔.half

  -- Z of mode r / 2 anticommutes with gamma r, and with the Majorana operators of no other mode
  pub z-own : (r : ℕ) → r < 2 * n → Pass 𝓐 true (𝓠.pauli z (r / 2)) (gamma 𝓠 r)
  unfolding xor
  z-own r h =
      pass-mul 𝓛 false true (𝓠.pauli z (r / 2)) (zs 𝓠 (r / 2)) (𝓠.pauli (which 𝓠 (eqb (r % 2) 1)) (r / 2))
      (zs-z 𝓔 𝓠 (r / 2) (r / 2) (omega arith) (omega arith))
      (pass-back 𝓛 true (𝓠.pauli (which 𝓠 (eqb (r % 2) 1)) (r / 2)) (𝓠.pauli z (r / 2)) (which-z 𝓔 𝓠 (r / 2) (omega arith) (eqb (r % 2) 1)))

  z-other : (k c : ℕ) → k < n → c < 2 * n → k ≢ c / 2 → Pass 𝓐 false (𝓠.pauli z k) (gamma 𝓠 c)
  unfolding xor
  z-other k c h l d =
      pass-mul 𝓛 false false (𝓠.pauli z k) (zs 𝓠 (c / 2)) (𝓠.pauli (which 𝓠 (eqb (c % 2) 1)) (c / 2))
      (zs-z 𝓔 𝓠 k (c / 2) h (omega arith))
      (𝓠.apart z (which 𝓠 (eqb (c % 2) 1)) k (c / 2) h (omega arith) d)

  vac-z : (k : ℕ) → k < n → 𝓠.vac (𝓠.pauli z k) ≡ 𝓝.one
  vac-z k h = ap 𝓠.vac (sym (𝓛.mul-one (𝓠.pauli z k))) ∙ 𝓠.bra k 𝟙 h ∙ 𝓠.vac-one

  pub vacuum-entry : (r c : ℕ) → r < 2 * n → c < 2 * n → (vacuum 𝓝).m r c ≡ cov 𝓔 𝓠 𝓠.vac r c
  unfolding xor
  vacuum-entry r c h l = by (eqb (r / 2) (c / 2)) refl (eqb (r % 2) 0) refl (eqb (c % 2) 0) refl
    where
      by : (s : Bool) → eqb (r / 2) (c / 2) ≡ s → (p : Bool) → eqb (r % 2) 0 ≡ p → (q : Bool) → eqb (c % 2) 0 ≡ q
          → cond (p && eqb c (r + 1)) 𝓝.one (cond (q && eqb r (c + 1)) (𝓝.neg 𝓝.one) 𝓝.zero) ≡ cov 𝓔 𝓠 𝓠.vac r c
      by false d p ep q eq =
          (λ i. cond (no-first i) 𝓝.one (cond (no-second i) (𝓝.neg 𝓝.one) 𝓝.zero))
          ∙ sym (cov-apart 𝓠.vac r c h l (λ e. eqb-false (r / 2) (c / 2) d (ap (λ m. m / 2) e))
          ∙ 𝓠.vac-num mi (gamma 𝓠 r ⋆ gamma 𝓠 c)
          ∙ ap (𝓝.mul mi) (vac-odd (r / 2) (gamma 𝓠 r ⋆ gamma 𝓠 c) (omega arith) passes)
          ∙ mul-zero 𝓔.laws.ring mi)
        where
          passes : Pass 𝓐 true (𝓠.pauli z (r / 2)) (gamma 𝓠 r ⋆ gamma 𝓠 c)
          passes =
              pass-mul 𝓛 true false (𝓠.pauli z (r / 2)) (gamma 𝓠 r) (gamma 𝓠 c) (z-own r h)
              (z-other (r / 2) c (omega arith) l (eqb-false (r / 2) (c / 2) d))

          no-first : p && eqb c (r + 1) ≡ false
          no-first = and-false-if p (eqb c (r + 1))
              (λ tp tc. eqb-false (r / 2) (c / 2) d (omega (arith, eqb-true (r % 2) 0 (ep ∙ tp), eqb-true c (r + 1) tc)))

          no-second : q && eqb r (c + 1) ≡ false
          no-second = and-false-if q (eqb r (c + 1))
              (λ tq tr. eqb-false (r / 2) (c / 2) d (omega (arith, eqb-true (c % 2) 0 (eq ∙ tq), eqb-true r (c + 1) tr)))
      by true e true ep true eq =
          (λ i. cond (ne_eqb c (r + 1) (omega (arith, alike)) i) 𝓝.one (cond (ne_eqb r (c + 1) (omega (arith, alike)) i) (𝓝.neg 𝓝.one) 𝓝.zero))
          ∙ sym (cov-self 𝓠.vac vac-linear r)
          ∙ ap (cov 𝓔 𝓠 𝓠.vac r) alike
        where
          alike : r ≡ c
          alike = omega (arith, eqb-true (r / 2) (c / 2) e, eqb-true (r % 2) 0 ep, eqb-true (c % 2) 0 eq)
      by true e true ep false eq =
          ap (λ b. cond b 𝓝.one 𝓝.zero) (eq-eqb c (r + 1) next)
          ∙ sym (cov-apart 𝓠.vac r c h l (omega (arith, next))
          ∙ (λ i. 𝓠.vac (𝓠.num mi ⋆ (gamma 𝓠 (first i) ⋆ gamma 𝓠 (second i))))
          ∙ ap 𝓠.vac (z-is 𝓔 𝓠 (r / 2) (omega arith))
          ∙ vac-z (r / 2) (omega arith))
        where
          next : c ≡ r + 1
          next = omega (arith, eqb-true (r / 2) (c / 2) e, eqb-true (r % 2) 0 ep, eqb-false (c % 2) 0 eq)

          first : r ≡ 2 * (r / 2)
          first = omega (arith, eqb-true (r % 2) 0 ep)

          second : c ≡ 2 * (r / 2) + 1
          second = omega (arith, next, first)
      by true e false ep true eq =
          ap (λ b. cond b (𝓝.neg 𝓝.one) 𝓝.zero) (eq-eqb r (c + 1) next)
          ∙ sym (cov-apart 𝓠.vac r c h l (omega (arith, next))
          ∙ ap (λ a. 𝓠.vac (𝓠.num mi ⋆ a)) (gamma-anti 𝓔 𝓠 r c h l (omega (arith, next)))
          ∙ ap 𝓠.vac (mul-neg 𝓛 (𝓠.num mi) (gamma 𝓠 c ⋆ gamma 𝓠 r))
          ∙ lin-neg 𝓔 𝓠 𝓠.vac vac-linear (𝓠.num mi ⋆ (gamma 𝓠 c ⋆ gamma 𝓠 r))
          ∙ ap 𝓝.neg
          ((λ i. 𝓠.vac (𝓠.num mi ⋆ (gamma 𝓠 (first i) ⋆ gamma 𝓠 (second i)))) ∙ ap 𝓠.vac (z-is 𝓔 𝓠 (c / 2) (omega arith)) ∙ vac-z (c / 2) (omega arith)))
        where
          next : r ≡ c + 1
          next = omega (arith, eqb-true (r / 2) (c / 2) e, eqb-true (c % 2) 0 eq, eqb-false (r % 2) 0 ep)

          first : c ≡ 2 * (c / 2)
          first = omega (arith, eqb-true (c % 2) 0 eq)

          second : r ≡ 2 * (c / 2) + 1
          second = omega (arith, next, first)
      by true e false ep false eq = sym (cov-self 𝓠.vac vac-linear r) ∙ ap (cov 𝓔 𝓠 𝓠.vac r) alike
        where
          alike : r ≡ c
          alike = omega (arith, eqb-true (r / 2) (c / 2) e, eqb-false (r % 2) 0 ep, eqb-false (c % 2) 0 eq)
