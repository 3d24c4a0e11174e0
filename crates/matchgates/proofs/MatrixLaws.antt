-- Adjoints of products, and products with the identity and with SWAP. Assumes nothing.
use mathlib.Core.Path.{◌≡◌, refl, sym, ap, ◌∙◌}
use mathlib.Core.Bool.{Bool, true, false, cond, xor}
use mathlib.Core.List.{[], ◌∷◌}
use Prim.Native.Nat.{ℕ, zero, suc, ◌<◌}
use native.Mathlib.Omega.{arith}
use lib.Dec.{eqb}
use borrow.Author.Tests.{eqb-true, eqb-false, eq-eqb, ne_eqb}
use Rattle.rings.specs.Rings.{Ops, IsCommutative}
use Rattle.formulas.specs.Numbers.{Exact}
use Rattle.formulas.specs.Engine.{Mat, dot}
use Rattle.matchgates.specs.Matrices.{product, identity}
use Rattle.matchgates.specs.Maps.{Conjugate, adjoint}
use Rattle.matchgates.specs.Fused.{crossed, swap}
use Rattle.rings.proofs.Solve.{var, exps, by-comm}
use Rattle.laws.proofs.Below.{below-four}
use Rattle.matchgates.proofs.Traces.{conj-dot, conj-zero, conj-one}

pub crossed-twice : (r : ℕ) → r < 4 → crossed (crossed r) ≡ r
crossed-twice r h = omega arith

crossed-below : (r : ℕ) → r < 4 → crossed r < 4
crossed-below r h = omega arith

-- ---- products with the identity and with SWAP

module _ {𝓝 : Ops} (𝓒 : IsCommutative 𝓝) where
  -- a row of the identity takes out an entry, and so does a column
  row-of : (v : ℕ → 𝓝.N) (r : ℕ) → r < 4 → dot 𝓝 (identity 𝓝 r) v 4 ≡ v r
  unfolding dot xor
  row-of v = below-four (λ r. dot 𝓝 (identity 𝓝 r) v 4 ≡ v r)
      (by-comm 𝓒 (v 0 ∷ v 1 ∷ v 2 ∷ v 3 ∷ []) (dot exps (identity exps 0) var 4) (var 0) refl)
      (by-comm 𝓒 (v 0 ∷ v 1 ∷ v 2 ∷ v 3 ∷ []) (dot exps (identity exps 1) var 4) (var 1) refl)
      (by-comm 𝓒 (v 0 ∷ v 1 ∷ v 2 ∷ v 3 ∷ []) (dot exps (identity exps 2) var 4) (var 2) refl)
      (by-comm 𝓒 (v 0 ∷ v 1 ∷ v 2 ∷ v 3 ∷ []) (dot exps (identity exps 3) var 4) (var 3) refl)

  pub swap-left : (u : Mat 𝓝) (r c : ℕ) → r < 4 → product 𝓝 4 (swap 𝓝) u r c ≡ u (crossed r) c
  swap-left u r c h = row-of (λ l. u l c) (crossed r) (crossed-below r h)

  pub swap-right : (u : Mat 𝓝) (r c : ℕ) → c < 4 → product 𝓝 4 u (swap 𝓝) r c ≡ u r (crossed c)
  unfolding dot xor
  swap-right u r = below-four (λ c. product 𝓝 4 u (swap 𝓝) r c ≡ u r (crossed c))
      (by-comm 𝓒 (u r 0 ∷ u r 1 ∷ u r 2 ∷ u r 3 ∷ []) (dot exps var (λ l. swap exps l 0) 4) (var 0) refl)
      (by-comm 𝓒 (u r 0 ∷ u r 1 ∷ u r 2 ∷ u r 3 ∷ []) (dot exps var (λ l. swap exps l 1) 4) (var 2) refl)
      (by-comm 𝓒 (u r 0 ∷ u r 1 ∷ u r 2 ∷ u r 3 ∷ []) (dot exps var (λ l. swap exps l 2) 4) (var 1) refl)
      (by-comm 𝓒 (u r 0 ∷ u r 1 ∷ u r 2 ∷ u r 3 ∷ []) (dot exps var (λ l. swap exps l 3) 4) (var 3) refl)

-- ---- adjoints

module _ {𝓝 : Ops} {below : 𝓝.N → Bool} (𝓔 : Exact 𝓝 below) (𝓙 : Conjugate 𝓝 𝓔.i) where
  dot-comm : (v w : ℕ → 𝓝.N) (k : ℕ) → dot 𝓝 v w k ≡ dot 𝓝 w v k
  unfolding dot
  dot-comm v w zero = refl
  dot-comm v w (suc k) = λ i. 𝓝.add (dot-comm v w k i) (𝓔.laws.comm (v k) (w k) i)

  pub adjoint-product : (w : ℕ) (u v : Mat 𝓝) (r c : ℕ) → adjoint 𝓙 (product 𝓝 w u v) r c ≡ product 𝓝 w (adjoint 𝓙 v) (adjoint 𝓙 u) r c
  adjoint-product w u v r c =
      conj-dot 𝓔 𝓙 (u c) (λ l. v l r) (λ l. 𝓙.conj (u c l)) (λ l. 𝓙.conj (v l r)) w (λ l h. refl) (λ l h. refl)
      ∙ dot-comm (λ l. 𝓙.conj (u c l)) (λ l. 𝓙.conj (v l r)) w

  pub adjoint-identity : (r c : ℕ) → adjoint 𝓙 (identity 𝓝) r c ≡ identity 𝓝 r c
  adjoint-identity r c = by (eqb c r) refl
    where
      by : (b : Bool) → eqb c r ≡ b → 𝓙.conj (cond b 𝓝.one 𝓝.zero) ≡ identity 𝓝 r c
      by true e = conj-one 𝓔 𝓙 ∙ ap (λ b. cond b 𝓝.one 𝓝.zero) (sym (eq-eqb r c (sym (eqb-true c r e))))
      by false e = conj-zero 𝓔 𝓙 ∙ ap (λ b. cond b 𝓝.one 𝓝.zero) (sym (ne_eqb r c (λ d. eqb-false c r e (sym d))))

  pub adjoint-swap : (r c : ℕ) → r < 4 → c < 4 → adjoint 𝓙 (swap 𝓝) r c ≡ swap 𝓝 r c
  adjoint-swap r c hr hc = adjoint-identity r (crossed c) ∙ by (eqb r (crossed c)) refl
    where
      by : (b : Bool) → eqb r (crossed c) ≡ b → cond b 𝓝.one 𝓝.zero ≡ swap 𝓝 r c
      by true e =
          ap (λ b. cond b 𝓝.one 𝓝.zero) (sym (eq-eqb (crossed r) c (ap crossed (eqb-true r (crossed c) e) ∙ crossed-twice c hc)))
      by false e =
          ap (λ b. cond b 𝓝.one 𝓝.zero) (sym (ne_eqb (crossed r) c
          (λ d. eqb-false r (crossed c) e (sym (crossed-twice r hr) ∙ ap crossed d))))
