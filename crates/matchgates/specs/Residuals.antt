-- THE RESIDUAL as one number, as crate `majorana` has it: the largest root of the distances; and what it tells. Definitions only.
-- A public promise rests on this.
use Rattle.std.specs.Prelude.{◌≡◌, ◌⊎◌, Bool, ℕ, zero, suc, ◌+◌, ◌*◌, ◌≤◌}
use Rattle.rings.specs.Rings.{Ops}
use Rattle.formulas.specs.Numbers.{Exact}
use Rattle.formulas.specs.Engine.{Mat}
use Rattle.angles.specs.Qubits.{Operators}
use Rattle.matchgates.specs.Maps.{Conjugate, part, map_of, rest}
use Rattle.matchgates.specs.Gates.{Sends}

-- sizes: real numbers that are not below zero, among them all s s*; a sum of them is nought only if both are; roots, and the larger of two
pub record Sizes {𝓝 : Ops} {below : 𝓝.N → Bool} (𝓔 : Exact 𝓝 below) (𝓙 : Conjugate 𝓝 𝓔.i) : Type 1 where
  pub Size : 𝓝.N → Type 0
  pub size-zero : Size 𝓝.zero
  pub size-half : Size 𝓔.half
  pub size-norm : (s : 𝓝.N) → Size (𝓝.mul s (𝓙.conj s))
  pub size-add : (s t : 𝓝.N) → Size s → Size t → Size (𝓝.add s t)
  pub size-mul : (s t : 𝓝.N) → Size s → Size t → Size (𝓝.mul s t)
  pub norm-nought : (s : 𝓝.N) → 𝓝.mul s (𝓙.conj s) ≡ 𝓝.zero → s ≡ 𝓝.zero
  pub sum-nought : (s t : 𝓝.N) → Size s → Size t → 𝓝.add s t ≡ 𝓝.zero → s ≡ 𝓝.zero
  pub root : 𝓝.N → 𝓝.N
  pub size-root : (s : 𝓝.N) → Size s → Size (root s)
  pub root-nought : (s : 𝓝.N) → Size s → root s ≡ 𝓝.zero → s ≡ 𝓝.zero
  pub root-zero : root 𝓝.zero ≡ 𝓝.zero
  pub larger : 𝓝.N → 𝓝.N → 𝓝.N
  pub size-larger : (s t : 𝓝.N) → Size s → Size t → Size (larger s t)
  pub larger-nought : (s t : 𝓝.N) → Size s → Size t → larger s t ≡ 𝓝.zero → (s ≡ 𝓝.zero) × (t ≡ 𝓝.zero)
  pub larger-zero : larger 𝓝.zero 𝓝.zero ≡ 𝓝.zero

-- ---- distances

module _ {𝓝 : Ops} {i : 𝓝.N} (𝓙 : Conjugate 𝓝 i) where
  -- t + |f 0|^2 + .. + |f (k - 1)|^2
  abbrev pub norms_on : 𝓝.N → (ℕ → 𝓝.N) → ℕ → 𝓝.N
  norms_on t f zero = t
  norms_on t f (suc k) = 𝓝.add (norms_on t f k) (𝓝.mul (f k) (𝓙.conj (f k)))

  -- of the first k rows, in one sum
  abbrev pub squares : ℕ → Mat 𝓝 → ℕ → 𝓝.N
  squares w m zero = 𝓝.zero
  squares w m (suc k) = norms_on (squares w m k) (m k) w

-- ||u* c_a u - sum_b Q_ab c_b||^2 / ||c_a||^2
abbrev pub distance : {𝓝 : Ops} {below : 𝓝.N → Bool} (𝓔 : Exact 𝓝 below) (𝓙 : Conjugate 𝓝 𝓔.i) → ℕ → Mat 𝓝 → ℕ → 𝓝.N
distance {𝓝} 𝓔 𝓙 modes u a = 𝓝.mul (squares 𝓙 (2 * modes) (rest 𝓔 𝓙 modes u a) (2 * modes)) (part 𝓔 modes)

-- ---- the residual

module _ {𝓝 : Ops} {below : 𝓝.N → Bool} {𝓔 : Exact 𝓝 below} {𝓙 : Conjugate 𝓝 𝓔.i} (𝓢 : Sizes 𝓔 𝓙) where
  -- the largest root of the first k
  abbrev pub largest_root : ℕ → Mat 𝓝 → ℕ → 𝓝.N
  largest_root modes u zero = 𝓝.zero
  largest_root modes u (suc k) = 𝓢.larger (largest_root modes u k) (𝓢.root (distance 𝓔 𝓙 modes u k))

  -- of all distances
  abbrev pub residual : ℕ → Mat 𝓝 → 𝓝.N
  residual modes u = largest_root modes u (2 * modes)

module _ {𝓝 : Ops} {below : 𝓝.N → Bool} (𝓔 : Exact 𝓝 below) (𝓙 : Conjugate 𝓝 𝓔.i) {n : ℕ} {𝓐 : Ops} (𝓠 : Operators 𝓝 𝓔.i n 𝓐) where
  -- THE STATEMENT: it is nought exactly for those that send Majorana operators to sums of them
  pub record Told (𝓢 : Sizes 𝓔 𝓙) (modes k : ℕ) (u : Mat 𝓝) : Type 0 where
    pub sends : residual 𝓢 modes u ≡ 𝓝.zero → Sends 𝓔 𝓙 𝓠 modes k u (map_of 𝓔 𝓙 modes u)
    pub nought : (q : Mat 𝓝) → Sends 𝓔 𝓙 𝓠 modes k u q → residual 𝓢 modes u ≡ 𝓝.zero

  -- of every matrix
  abbrev pub ResidualTells : Type 1
  ResidualTells = (𝓢 : Sizes 𝓔 𝓙) (modes k : ℕ) → (modes ≡ 1) ⊎ (modes ≡ 2) → k + modes ≤ n → (u : Mat 𝓝) → Told 𝓢 modes k u
