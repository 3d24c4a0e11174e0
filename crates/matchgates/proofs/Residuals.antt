-- The residual is nought exactly if no entry is left. Assumes nothing.
use mathlib.Core.Path.{◌≡◌, refl, sym, ap, subst, ◌∙◌}
use mathlib.Core.Bool.{Bool, true, false, cond}
use Prim.Native.Nat.{ℕ, zero, suc, ◌*◌, ◌≤◌, ◌<◌}
use native.Mathlib.Omega.{arith}
use lib.Dec.{eqb}
use Rattle.rings.specs.Rings.{Ops, IsRing}
use Rattle.formulas.specs.Numbers.{Exact}
use Rattle.formulas.specs.Engine.{Mat}
use Rattle.angles.specs.Qubits.{Operators}
use Rattle.matchgates.specs.Maps.{Conjugate, rest, part, Still}
use Rattle.matchgates.specs.Residuals.{Sizes, norms_on, squares, distance, largest_root, residual, ResidualTells}
use Rattle.rings.proofs.Rings.{zero-add, zero-mul}
use Rattle.angles.proofs.Majoranas.{Order, less, same, more, order}
use Rattle.matchgates.proofs.Traces.{multiple}
use Rattle.matchgates.proofs.Maps.{exactly-matchgates}

module _ {𝓝 : Ops} {below : 𝓝.N → Bool} (𝓔 : Exact 𝓝 below) (𝓙 : Conjugate 𝓝 𝓔.i) (𝓢 : Sizes 𝓔 𝓙) where
  open 𝓝 use {N, zero as 𝟘, add as ◌⊹◌, mul as ◌⋆◌}

  infixl 65 ◌⊹◌
  infixl 70 ◌⋆◌
  abbrev 𝓛 : IsRing 𝓝
  𝓛 = 𝓔.laws.ring

  abbrev norm : N → N
  norm s = s ⋆ 𝓙.conj s

  abbrev norms : N → (ℕ → N) → ℕ → N
  norms = norms_on 𝓙

  abbrev sqs : ℕ → Mat 𝓝 → ℕ → N
  sqs = squares 𝓙

  -- below k + 1: below k, or k
  last : (P : ℕ → Type 0) (k : ℕ) → ((l : ℕ) → l < k → P l) → P k → (l : ℕ) → l < suc k → P l
  last P k e d l h = by (order l k)
    where
      by : Order l k → P l
      by (less g) = e l g
      by (same g) = subst P (sym g) d
      by (more g) = absurd (omega arith)

  second : (s t : N) → 𝓢.Size s → 𝓢.Size t → s ⊹ t ≡ 𝟘 → t ≡ 𝟘
  second s t hs ht e = sym (zero-add 𝓛 t) ∙ ap (λ a. a ⊹ t) (sym (𝓢.sum-nought s t hs ht e)) ∙ e

  norms-size : (t : N) (f : ℕ → N) (k : ℕ) → 𝓢.Size t → 𝓢.Size (norms t f k)
  norms-size t f zero h = h
  norms-size t f (suc k) h = 𝓢.size-add (norms t f k) (norm (f k)) (norms-size t f k h) (𝓢.size-norm (f k))

  norms-start : (t : N) (f : ℕ → N) (k : ℕ) → 𝓢.Size t → norms t f k ≡ 𝟘 → t ≡ 𝟘
  norms-start t f zero h e = e
  norms-start t f (suc k) h e =
      norms-start t f k h (𝓢.sum-nought (norms t f k) (norm (f k)) (norms-size t f k h) (𝓢.size-norm (f k)) e)

  norms-nought : (t : N) (f : ℕ → N) (k : ℕ) → 𝓢.Size t → norms t f k ≡ 𝟘 → (l : ℕ) → l < k → f l ≡ 𝟘
  norms-nought t f zero h e = λ l m. absurd (omega arith)
  norms-nought t f (suc k) h e =
      last (λ l. f l ≡ 𝟘) k (norms-nought t f k h (𝓢.sum-nought (norms t f k) (norm (f k)) (norms-size t f k h) (𝓢.size-norm (f k)) e))
      (𝓢.norm-nought (f k) (second (norms t f k) (norm (f k)) (norms-size t f k h) (𝓢.size-norm (f k)) e))

  sqs-size : (w : ℕ) (m : Mat 𝓝) (k : ℕ) → 𝓢.Size (sqs w m k)
  sqs-size w m zero = 𝓢.size-zero
  sqs-size w m (suc k) = norms-size (sqs w m k) (m k) w (sqs-size w m k)

  sqs-nought : (w : ℕ) (m : Mat 𝓝) (k : ℕ) → sqs w m k ≡ 𝟘 → (r : ℕ) → r < k → (c : ℕ) → c < w → m r c ≡ 𝟘
  sqs-nought w m zero e = λ r h. absurd (omega arith)
  sqs-nought w m (suc k) e =
      last (λ r. (c : ℕ) → c < w → m r c ≡ 𝟘) k (sqs-nought w m k (norms-start (sqs w m k) (m k) w (sqs-size w m k) e))
      (norms-nought (sqs w m k) (m k) w (sqs-size w m k) e)

  -- ---- the part

  whole-of : (s : N) → s ⋆ 𝓔.half ⊹ s ⋆ 𝓔.half ≡ s
  whole-of s = sym (𝓛.left s 𝓔.half 𝓔.half) ∙ ap (λ a. s ⋆ a) 𝓔.halves ∙ 𝓛.mul-one s

  multiple-is : (modes : ℕ) (s : N) → multiple 𝓔 𝓙 modes (s ⋆ part 𝓔 modes) ≡ s
  multiple-is modes s = by (eqb modes 1)
    where
      by : (b : Bool) → cond b (s ⋆ cond b 𝓔.half (𝓔.half ⋆ 𝓔.half) ⊹ s ⋆ cond b 𝓔.half (𝓔.half ⋆ 𝓔.half))
          (s ⋆ cond b 𝓔.half (𝓔.half ⋆ 𝓔.half) ⊹ s ⋆ cond b 𝓔.half (𝓔.half ⋆ 𝓔.half)
          ⊹ (s ⋆ cond b 𝓔.half (𝓔.half ⋆ 𝓔.half) ⊹ s ⋆ cond b 𝓔.half (𝓔.half ⋆ 𝓔.half))) ≡ s
      by true = whole-of s
      by false = (λ j. half-of j ⊹ half-of j) ∙ whole-of s
        where
          half-of : s ⋆ (𝓔.half ⋆ 𝓔.half) ⊹ s ⋆ (𝓔.half ⋆ 𝓔.half) ≡ s ⋆ 𝓔.half
          half-of = (λ j. sym (𝓛.mul-assoc s 𝓔.half 𝓔.half) j ⊹ sym (𝓛.mul-assoc s 𝓔.half 𝓔.half) j) ∙ whole-of (s ⋆ 𝓔.half)

  multiple-zero : (modes : ℕ) → multiple 𝓔 𝓙 modes 𝟘 ≡ 𝟘
  multiple-zero modes = by (eqb modes 1)
    where
      by : (b : Bool) → cond b (𝟘 ⊹ 𝟘) (𝟘 ⊹ 𝟘 ⊹ (𝟘 ⊹ 𝟘)) ≡ 𝟘
      by true = 𝓛.add-zero 𝟘
      by false = (λ j. 𝓛.add-zero 𝟘 j ⊹ 𝓛.add-zero 𝟘 j) ∙ 𝓛.add-zero 𝟘

  part-nought : (modes : ℕ) (s : N) → s ⋆ part 𝓔 modes ≡ 𝟘 → s ≡ 𝟘
  part-nought modes s e = sym (multiple-is modes s) ∙ ap (multiple 𝓔 𝓙 modes) e ∙ multiple-zero modes

  part-size : (modes : ℕ) → 𝓢.Size (part 𝓔 modes)
  part-size modes = by (eqb modes 1)
    where
      by : (b : Bool) → 𝓢.Size (cond b 𝓔.half (𝓔.half ⋆ 𝓔.half))
      by true = 𝓢.size-half
      by false = 𝓢.size-mul 𝓔.half 𝓔.half 𝓢.size-half 𝓢.size-half

  -- ---- the residual

  module _ (modes : ℕ) (u : Mat 𝓝) where
    abbrev D : ℕ → N
    D = distance 𝓔 𝓙 modes u

    abbrev F : ℕ → N
    F = largest_root 𝓢 modes u

    D-size : (a : ℕ) → 𝓢.Size (D a)
    D-size a =
        𝓢.size-mul (sqs (2 * modes) (rest 𝓔 𝓙 modes u a) (2 * modes)) (part 𝓔 modes)
        (sqs-size (2 * modes) (rest 𝓔 𝓙 modes u a) (2 * modes)) (part-size modes)

    F-size : (k : ℕ) → 𝓢.Size (F k)
    F-size zero = 𝓢.size-zero
    F-size (suc k) = 𝓢.size-larger (F k) (𝓢.root (D k)) (F-size k) (𝓢.size-root (D k) (D-size k))

    F-nought : (k : ℕ) → F k ≡ 𝟘 → (a : ℕ) → a < k → D a ≡ 𝟘
    F-nought zero e = λ a h. absurd (omega arith)
    F-nought (suc k) e =
        last (λ a. D a ≡ 𝟘) k (F-nought k both.0) (𝓢.root-nought (D k) (D-size k) both.1)
      where
        both : (F k ≡ 𝟘) × (𝓢.root (D k) ≡ 𝟘)
        both = 𝓢.larger-nought (F k) (𝓢.root (D k)) (F-size k) (𝓢.size-root (D k) (D-size k)) e

    nought-still : residual 𝓢 modes u ≡ 𝟘 → Still 𝓔 𝓙 modes u
    nought-still e a r c la hr hc =
        sqs-nought (2 * modes) (rest 𝓔 𝓙 modes u a) (2 * modes)
        (part-nought modes (sqs (2 * modes) (rest 𝓔 𝓙 modes u a) (2 * modes)) (F-nought (2 * modes) e a la)) r hr c hc

    -- ---- back

    norms-zero : (t : N) (f : ℕ → N) (k : ℕ) → t ≡ 𝟘 → ((l : ℕ) → l < k → f l ≡ 𝟘) → norms t f k ≡ 𝟘
    norms-zero t f zero e d = e
    norms-zero t f (suc k) e d =
        (λ j. norms-zero t f k e (λ l h. d l (omega arith)) j ⊹ d k (omega arith) j ⋆ 𝓙.conj (f k))
        ∙ ap (λ a. 𝟘 ⊹ a) (zero-mul 𝓛 (𝓙.conj (f k))) ∙ 𝓛.add-zero 𝟘

    sqs-zero : (w : ℕ) (m : Mat 𝓝) (k : ℕ) → k ≤ w → ((r c : ℕ) → r < w → c < w → m r c ≡ 𝟘) → sqs w m k ≡ 𝟘
    sqs-zero w m zero l e = refl
    sqs-zero w m (suc k) l e = norms-zero (sqs w m k) (m k) w (sqs-zero w m k (omega arith) e) (λ c h. e k c l h)

    F-zero : (k : ℕ) → ((a : ℕ) → a < k → D a ≡ 𝟘) → F k ≡ 𝟘
    F-zero zero e = refl
    F-zero (suc k) e =
        (λ j. 𝓢.larger (F-zero k (λ a h. e a (omega arith)) j) (𝓢.root (e k (omega arith) j))) ∙ ap (𝓢.larger 𝟘) 𝓢.root-zero ∙ 𝓢.larger-zero

    still-nought : Still 𝓔 𝓙 modes u → residual 𝓢 modes u ≡ 𝟘
    still-nought e =
        F-zero (2 * modes) (λ a la. ap (λ s. s ⋆ part 𝓔 modes) (sqs-zero (2 * modes) (rest 𝓔 𝓙 modes u a) (2 * modes) (omega arith)
        (λ r c hr hc. e a r c la hr hc)) ∙ zero-mul 𝓛 (part 𝓔 modes))

module _ {𝓝 : Ops} {below : 𝓝.N → Bool} (𝓔 : Exact 𝓝 below) (𝓙 : Conjugate 𝓝 𝓔.i) {n : ℕ} {𝓐 : Ops} (𝓠 : Operators 𝓝 𝓔.i n 𝓐) where
  -- THE RESIDUAL TELLS
  pub residual-tells : ResidualTells 𝓔 𝓙 𝓠
  residual-tells 𝓢 modes k few room u = record {
    sends = λ e. (exactly-matchgates 𝓔 𝓙 𝓠 modes k few room u).if-still (nought-still 𝓔 𝓙 𝓢 modes u e);
    nought = λ q s. still-nought 𝓔 𝓙 𝓢 modes u ((exactly-matchgates 𝓔 𝓙 𝓠 modes k few room u).only-if q s);
  }
