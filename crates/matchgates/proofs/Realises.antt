-- What the theorem asks of the operators with given matrices: they keep sums, products and one, and the Majorana matrices become the Majorana operators, but
-- for the Zs before them. Those of one qubit and of two neighbours do. Assumes nothing.
use mathlib.Core.Path.{◌≡◌, sym, ap, subst, ◌∙◌}
use mathlib.Core.Logic.{◌⊎◌, inl, inr, ◌≢◌}
use mathlib.Core.Bool.{Bool, false}
use Prim.Native.Nat.{ℕ, suc, ◌+◌, ◌*◌, ◌≤◌, ◌<◌}
use native.Mathlib.Omega.{arith}
use Rattle.rings.specs.Rings.{Ops, IsRing}
use Rattle.formulas.specs.Numbers.{Exact}
use Rattle.formulas.specs.Engine.{Mat}
use Rattle.angles.specs.Qubits.{Axis, x, y, z, Operators, zs, gamma}
use Rattle.matchgates.specs.Matrices.{product, identity, kron, mat_x, mat_z, mat_y, single, double, majoranas}
use Rattle.matchgates.specs.Gates.{on_one, placed, on}
use Rattle.angles.proofs.Passing.{Pass}
use Rattle.angles.proofs.Majoranas.{gamma-first, gamma-second}
use Rattle.laws.proofs.Below.{below-two, below-four}
use Rattle.matchgates.proofs.Placed.{one-same, one-add, one-scale, one-neg, one-nought, one-times, one-whole, one-x, one-y, one-z, one-commutes}
use Rattle.matchgates.proofs.Placed.{one-injective, placed-same, placed-add, placed-scale, placed-neg, placed-nought, placed-times, placed-whole, placed-kron}
use Rattle.matchgates.proofs.Placed.{placed-commutes, placed-injective}

module _ {𝓝 : Ops} {below : 𝓝.N → Bool} (𝓔 : Exact 𝓝 below) {n : ℕ} {𝓐 : Ops} (𝓠 : Operators 𝓝 𝓔.i n 𝓐) where
  open 𝓐 use {N, zero as 𝟘, one as 𝟙, add as ◌⊹◌, mul as ◌⋆◌, neg}

  infixl 65 ◌⊹◌
  infixl 70 ◌⋆◌
  abbrev 𝓛 : IsRing 𝓐
  𝓛 = 𝓠.ring

  -- R takes matrices to operators of the qubits k, .., k + modes - 1
  pub record Realises (modes k : ℕ) (R : Mat 𝓝 → N) : Type 0 where
    pub same : (u t : Mat 𝓝) → ((r c : ℕ) → r < 2 * modes → c < 2 * modes → u r c ≡ t r c) → R u ≡ R t
    pub sum : (u t : Mat 𝓝) → R (λ r c. 𝓝.add (u r c) (t r c)) ≡ R u ⊹ R t
    pub scale : (s : 𝓝.N) (u : Mat 𝓝) → R (λ r c. 𝓝.mul (u r c) s) ≡ 𝓠.num s ⋆ R u
    pub minus : (u : Mat 𝓝) → R (λ r c. 𝓝.neg (u r c)) ≡ neg (R u)
    pub nought : R (λ r c. 𝓝.zero) ≡ 𝟘
    pub times : (u t : Mat 𝓝) → R (product 𝓝 (2 * modes) u t) ≡ R u ⋆ R t
    pub whole : R (identity 𝓝) ≡ 𝟙
    pub commutes : (a : N) → ((p : Axis) (j : ℕ) → k ≤ j → j < k + modes → Pass 𝓐 false a (𝓠.pauli p j)) → (u : Mat 𝓝) → Pass 𝓐 false a (R u)
    pub injective : (u t : Mat 𝓝) → R u ≡ R t → (r c : ℕ) → r < 2 * modes → c < 2 * modes → u r c ≡ t r c
    pub string : (a : ℕ) → a < 2 * modes → gamma 𝓠 (2 * k + a) ≡ zs 𝓠 k ⋆ R (majoranas 𝓝 𝓔.i modes a)

  no-more : (k : ℕ) → 2 * k + 0 ≡ 2 * k
  no-more k = omega arith

  one-qubit : (k : ℕ) → k < n → Realises 1 k (on_one 𝓔 𝓠 k)
  one-qubit k h = record {
    same = one-same 𝓔 𝓠 k h;
    sum = one-add 𝓔 𝓠 k h;
    scale = one-scale 𝓔 𝓠 k h;
    minus = one-neg 𝓔 𝓠 k h;
    nought = one-nought 𝓔 𝓠 k h;
    times = one-times 𝓔 𝓠 k h;
    whole = one-whole 𝓔 𝓠 k h;
    commutes = λ a e u. one-commutes 𝓔 𝓠 k h a (λ p. e p k (omega arith) (omega arith)) u;
    injective = one-injective 𝓔 𝓠 k h;
    string = below-two (λ a. gamma 𝓠 (2 * k + a) ≡ zs 𝓠 k ⋆ on_one 𝓔 𝓠 k (single 𝓝 𝓔.i a))
        (ap (gamma 𝓠) (no-more k) ∙ gamma-first 𝓔 𝓠 k ∙ ap (λ a. zs 𝓠 k ⋆ a) (sym (one-x 𝓔 𝓠 k h)))
        (gamma-second 𝓔 𝓠 k ∙ ap (λ a. zs 𝓠 k ⋆ a) (sym (one-y 𝓔 𝓠 k h)));
  }

  module _ (k : ℕ) (h : suc k < n) where
    h₀ : k < n
    h₀ = omega arith

    d : k ≢ suc k
    d e = omega (arith, e)

    abbrev R : Mat 𝓝 → N
    R = placed 𝓔 𝓠 k (suc k)

    two-more : 2 * k + 2 ≡ 2 * suc k
    two-more = omega arith

    three-more : 2 * k + 3 ≡ 2 * suc k + 1
    three-more = omega arith

    lower : (p : N) (m : Mat 𝓝) → on_one 𝓔 𝓠 k m ≡ p → R (kron 𝓝 m (identity 𝓝)) ≡ p
    lower p m e = placed-kron 𝓔 𝓠 k (suc k) h₀ h d m (identity 𝓝) ∙ (λ i. e i ⋆ one-whole 𝓔 𝓠 (suc k) h i) ∙ 𝓛.mul-one p

    upper : (p : N) (m : Mat 𝓝) → on_one 𝓔 𝓠 (suc k) m ≡ p → R (kron 𝓝 (mat_z 𝓝) m) ≡ 𝓠.pauli z k ⋆ p
    upper p m e = placed-kron 𝓔 𝓠 k (suc k) h₀ h d (mat_z 𝓝) m ∙ (λ i. one-z 𝓔 𝓠 k h₀ i ⋆ e i)

    two-qubits : Realises 2 k R
    unfolding zs
    two-qubits = record {
      same = placed-same 𝓔 𝓠 k (suc k) h₀ h d;
      sum = placed-add 𝓔 𝓠 k (suc k) h₀ h d;
      scale = placed-scale 𝓔 𝓠 k (suc k) h₀ h d;
      minus = placed-neg 𝓔 𝓠 k (suc k) h₀ h d;
      nought = placed-nought 𝓔 𝓠 k (suc k) h₀ h d;
      times = placed-times 𝓔 𝓠 k (suc k) h₀ h d;
      whole = placed-whole 𝓔 𝓠 k (suc k) h₀ h d;
      commutes = λ a e u.
          placed-commutes 𝓔 𝓠 k (suc k) h₀ h d a (λ p. e p k (omega arith) (omega arith)) (λ p. e p (suc k) (omega arith) (omega arith)) u;
      injective = placed-injective 𝓔 𝓠 k (suc k) h₀ h d;
      string = below-four (λ a. gamma 𝓠 (2 * k + a) ≡ zs 𝓠 k ⋆ R (double 𝓝 𝓔.i a))
          (ap (gamma 𝓠) (no-more k) ∙ gamma-first 𝓔 𝓠 k ∙ ap (λ a. zs 𝓠 k ⋆ a) (sym (lower (𝓠.pauli x k) (mat_x 𝓝) (one-x 𝓔 𝓠 k h₀))))
          (gamma-second 𝓔 𝓠 k ∙ ap (λ a. zs 𝓠 k ⋆ a) (sym (lower (𝓠.pauli y k) (mat_y 𝓝 𝓔.i) (one-y 𝓔 𝓠 k h₀))))
          (ap (gamma 𝓠) two-more ∙ gamma-first 𝓔 𝓠 (suc k) ∙ 𝓛.mul-assoc (zs 𝓠 k) (𝓠.pauli z k) (𝓠.pauli x (suc k))
          ∙ ap (λ a. zs 𝓠 k ⋆ a) (sym (upper (𝓠.pauli x (suc k)) (mat_x 𝓝) (one-x 𝓔 𝓠 (suc k) h))))
          (ap (gamma 𝓠) three-more ∙ gamma-second 𝓔 𝓠 (suc k) ∙ 𝓛.mul-assoc (zs 𝓠 k) (𝓠.pauli z k) (𝓠.pauli y (suc k))
          ∙ ap (λ a. zs 𝓠 k ⋆ a) (sym (upper (𝓠.pauli y (suc k)) (mat_y 𝓝 𝓔.i) (one-y 𝓔 𝓠 (suc k) h))));
    }

  -- of one or two
  pub realises : (modes k : ℕ) → (modes ≡ 1) ⊎ (modes ≡ 2) → k + modes ≤ n → Realises modes k (on 𝓔 𝓠 modes k)
  realises modes k (inl e) f = subst (λ m. Realises m k (on 𝓔 𝓠 m k)) (sym e) (one-qubit k (omega arith))
  realises modes k (inr e) f = subst (λ m. Realises m k (on 𝓔 𝓠 m k)) (sym e) (two-qubits k (omega arith))
