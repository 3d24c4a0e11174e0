-- SWAP on two qubits is its own inverse, and exchanges what stands on them. Assumes nothing.
use mathlib.Core.Path.{◌≡◌, refl, sym, ap, ◌∙◌}
use mathlib.Core.Logic.{◌⊎◌, inl, inr, ◌≢◌}
use mathlib.Core.Bool.{Bool, false, xor}
use mathlib.Core.List.{[], ◌∷◌}
use Prim.Native.Nat.{ℕ, ◌<◌}
use Rattle.std.proofs.lemmas.Bool.{cases_eq}
use Rattle.laws.specs.Tables.{exchanged}
use Rattle.laws.proofs.Tables.{exchanged-first, exchanged-second, exchanged-away}
use Rattle.rings.specs.Rings.{Ops, IsRing}
use Rattle.formulas.specs.Numbers.{Exact}
use Rattle.formulas.specs.Engine.{Mat}
use Rattle.angles.specs.Qubits.{Axis, x, y, z, Operators}
use Rattle.matchgates.specs.Matrices.{product, identity, kron, mat_x, mat_y, mat_z}
use Rattle.matchgates.specs.Gates.{on_one, placed}
use Rattle.matchgates.specs.Fused.{crossed, swap_qubits, swap}
use Rattle.matchgates.specs.Renamed.{EverySwap}
use Rattle.rings.proofs.Solve.{var, times, by-free}
use Rattle.angles.proofs.Passing.{Pass}
use Rattle.matchgates.proofs.Placed.{one-whole, one-x, one-y, one-z, placed-same, placed-times, placed-whole, placed-kron, placed-commutes}
use Rattle.matchgates.proofs.MatrixLaws.{crossed-twice, swap-left, swap-right}
use Rattle.matchgates.proofs.Oriented.{oriented}

module _ {𝓝 : Ops} {below : 𝓝.N → Bool} (𝓔 : Exact 𝓝 below) {n : ℕ} {𝓐 : Ops} (𝓠 : Operators 𝓝 𝓔.i n 𝓐) where
  open 𝓐 use {N, one as 𝟙, mul as ◌⋆◌}

  infixl 70 ◌⋆◌
  abbrev 𝓛 : IsRing 𝓐
  𝓛 = 𝓠.ring

  -- ---- Paulis as matrices

  abbrev matrix : Axis → Mat 𝓝
  matrix x = mat_x 𝓝
  matrix y = mat_y 𝓝 𝓔.i
  matrix z = mat_z 𝓝

  is-pauli : (k : ℕ) → k < n → (a : Axis) → on_one 𝓔 𝓠 k (matrix a) ≡ 𝓠.pauli a k
  is-pauli k h x = one-x 𝓔 𝓠 k h
  is-pauli k h y = one-y 𝓔 𝓠 k h
  is-pauli k h z = one-z 𝓔 𝓠 k h

  -- a matrix on the first qubit
  first-kron : (p q : ℕ) → p < n → q < n → p ≢ q → (a : Mat 𝓝) → placed 𝓔 𝓠 p q (kron 𝓝 a (identity 𝓝)) ≡ on_one 𝓔 𝓠 p a
  first-kron p q hp hq other a =
      placed-kron 𝓔 𝓠 p q hp hq other a (identity 𝓝) ∙ ap (λ b. on_one 𝓔 𝓠 p a ⋆ b) (one-whole 𝓔 𝓠 q hq) ∙ 𝓛.mul-one (on_one 𝓔 𝓠 p a)

  module _ (p q : ℕ) (hp : p < n) (hq : q < n) (other : p ≢ q) where
    abbrev T : Mat 𝓝 → N
    T = placed 𝓔 𝓠 p q

    abbrev σ : N
    σ = T (swap 𝓝)

    times-swap : (u : Mat 𝓝) → T (product 𝓝 4 (swap 𝓝) u) ≡ σ ⋆ T u
    times-swap u = placed-times 𝓔 𝓠 p q hp hq other (swap 𝓝) u

    pub twice-one : σ ⋆ σ ≡ 𝟙
    twice-one =
        sym (times-swap (swap 𝓝))
        ∙ placed-same 𝓔 𝓠 p q hp hq other (product 𝓝 4 (swap 𝓝) (swap 𝓝)) (identity 𝓝)
        (λ r c hr hc. swap-left 𝓔.laws (swap 𝓝) r c hr ∙ ap (λ s. identity 𝓝 s c) (crossed-twice r hr))
        ∙ placed-whole 𝓔 𝓠 p q hp hq other

    -- between two SWAPs the qubits have changed places
    between : (u : Mat 𝓝) → σ ⋆ (T u ⋆ σ) ≡ placed 𝓔 𝓠 q p u
    between u =
        ap (λ a. σ ⋆ a) (sym (placed-times 𝓔 𝓠 p q hp hq other u (swap 𝓝)))
        ∙ sym (times-swap (product 𝓝 4 u (swap 𝓝)))
        ∙ placed-same 𝓔 𝓠 p q hp hq other (product 𝓝 4 (swap 𝓝) (product 𝓝 4 u (swap 𝓝))) (swap_qubits 𝓝 u)
        (λ r c hr hc. swap-left 𝓔.laws (product 𝓝 4 u (swap 𝓝)) r c hr ∙ swap-right 𝓔.laws u (crossed r) c hc)
        ∙ sym (oriented 𝓔 𝓠 p q hp hq other u)

    first : (a : Axis) → σ ⋆ (𝓠.pauli a p ⋆ σ) ≡ 𝓠.pauli a q
    first a =
        ap (λ b. σ ⋆ (b ⋆ σ)) (sym (is-pauli p hp a) ∙ sym (first-kron p q hp hq other (matrix a)))
        ∙ between (kron 𝓝 (matrix a) (identity 𝓝))
        ∙ first-kron q p hq hp (λ e. other (sym e)) (matrix a)
        ∙ is-pauli q hq a

    -- σ (a σ) = b turns back
    turned-back : (a b : N) → σ ⋆ (a ⋆ σ) ≡ b → σ ⋆ (b ⋆ σ) ≡ a
    unfolding xor
    turned-back a b e =
        ap (λ c. σ ⋆ (c ⋆ σ)) (sym e)
        ∙ by-free 𝓛 (σ ∷ a ∷ []) (times (var 0) (times (times (var 0) (times (var 1) (var 0))) (var 0)))
        (times (times (var 0) (var 0)) (times (var 1) (times (var 0) (var 0)))) refl
        ∙ (λ i. twice-one i ⋆ (a ⋆ twice-one i)) ∙ 𝓛.one-mul (a ⋆ 𝟙) ∙ 𝓛.mul-one a

    -- what commutes with SWAP
    fixed : (a : N) → Pass 𝓐 false a σ → σ ⋆ (a ⋆ σ) ≡ a
    fixed a e = ap (λ b. σ ⋆ b) e ∙ sym (𝓛.mul-assoc σ σ a) ∙ ap (λ b. b ⋆ a) twice-one ∙ 𝓛.one-mul a

    pub exchanges-paulis : (a : Axis) (k : ℕ) → k < n → σ ⋆ (𝓠.pauli a k ⋆ σ) ≡ 𝓠.pauli a (exchanged p q k)
    exchanges-paulis a k h = by (cases_eq k p) (cases_eq k q)
      where
        by : (k ≡ p) ⊎ (k ≢ p) → (k ≡ q) ⊎ (k ≢ q) → σ ⋆ (𝓠.pauli a k ⋆ σ) ≡ 𝓠.pauli a (exchanged p q k)
        by (inl e) d =
            ap (λ j. σ ⋆ (𝓠.pauli a j ⋆ σ)) e ∙ first a ∙ ap (𝓠.pauli a) (sym (exchanged-first p q) ∙ ap (exchanged p q) (sym e))
        by (inr e) (inl d) =
            ap (λ j. σ ⋆ (𝓠.pauli a j ⋆ σ)) d ∙ turned-back (𝓠.pauli a p) (𝓠.pauli a q) (first a)
            ∙ ap (𝓠.pauli a) (sym (exchanged-second p q) ∙ ap (exchanged p q) (sym d))
        by (inr e) (inr d) =
            fixed (𝓠.pauli a k) (placed-commutes 𝓔 𝓠 p q hp hq other (𝓠.pauli a k) (λ b. 𝓠.apart a b k p h hp e) (λ b. 𝓠.apart a b k q h hq d) (swap 𝓝))
            ∙ ap (𝓠.pauli a) (sym (exchanged-away p q k e d))

  pub every-swap : EverySwap 𝓔 𝓠
  every-swap p q hp hq other = record {
    twice = twice-one p q hp hq other;
    exchanges = exchanges-paulis p q hp hq other;
    after = times-swap p q hp hq other;
  }
