-- THE OPERATORS OF n QUBITS, by their laws: Pauli operators, the vacuum's value, Majorana operators. Nothing here speaks of maps, determinants or later
-- modes. Matrices of order 2^n are such operators (page Matrices). Assumes nothing. A public promise rests on this.
use Rattle.std.specs.Prelude.{◌≡◌, ◌≢◌, Bool, true, false, ℕ, zero, suc, ◌/◌, ◌%◌, ◌<◌, eqb}
use Rattle.rings.specs.Rings.{Ops, IsRing}

pub data Axis : Type 0 where
  x y z : Axis

-- operators 𝓐 over the numbers 𝓝: a ring in which each number stands for an operator that commutes with all
pub record Operators (𝓝 : Ops) (i : 𝓝.N) (n : ℕ) (𝓐 : Ops) : Type 0 where
  pub ring : IsRing 𝓐
  pub num : 𝓝.N → 𝓐.N
  pub num-add : (s t : 𝓝.N) → num (𝓝.add s t) ≡ 𝓐.add (num s) (num t)
  pub num-mul : (s t : 𝓝.N) → num (𝓝.mul s t) ≡ 𝓐.mul (num s) (num t)
  pub num-one : num 𝓝.one ≡ 𝓐.one
  pub central : (s : 𝓝.N) (a : 𝓐.N) → 𝓐.mul (num s) a ≡ 𝓐.mul a (num s)
  -- the Pauli operators of each qubit: X X = Y Y = Z Z = 1, X Y = i Z, Y Z = i X, Z X = i Y; those of different qubits commute
  pub pauli : Axis → ℕ → 𝓐.N
  pub square : (p : Axis) (k : ℕ) → k < n → 𝓐.mul (pauli p k) (pauli p k) ≡ 𝓐.one
  pub xy : (k : ℕ) → k < n → 𝓐.mul (pauli x k) (pauli y k) ≡ 𝓐.mul (num i) (pauli z k)
  pub yz : (k : ℕ) → k < n → 𝓐.mul (pauli y k) (pauli z k) ≡ 𝓐.mul (num i) (pauli x k)
  pub zx : (k : ℕ) → k < n → 𝓐.mul (pauli z k) (pauli x k) ≡ 𝓐.mul (num i) (pauli y k)
  pub apart : (p q : Axis) (j k : ℕ) → j < n → k < n → j ≢ k → 𝓐.mul (pauli p j) (pauli q k) ≡ 𝓐.mul (pauli q k) (pauli p j)
  -- <0..0| a |0..0>: it is linear, the value of 1 is 1, and Z |0> = |0> at every qubit
  pub vac : 𝓐.N → 𝓝.N
  pub vac-add : (a b : 𝓐.N) → vac (𝓐.add a b) ≡ 𝓝.add (vac a) (vac b)
  pub vac-num : (s : 𝓝.N) (a : 𝓐.N) → vac (𝓐.mul (num s) a) ≡ 𝓝.mul s (vac a)
  pub vac-one : vac 𝓐.one ≡ 𝓝.one
  pub ket : (k : ℕ) (a : 𝓐.N) → k < n → vac (𝓐.mul a (pauli z k)) ≡ vac a
  pub bra : (k : ℕ) (a : 𝓐.N) → k < n → vac (𝓐.mul (pauli z k) a) ≡ vac a

-- ---- the Majorana operators by Jordan-Wigner, two to a mode: Z on the modes before, and X or Y on its own

module _ {𝓝 : Ops} {i : 𝓝.N} {n : ℕ} {𝓐 : Ops} (𝓠 : Operators 𝓝 i n 𝓐) where
  -- Z on the first k qubits
  unfoldable pub zs : ℕ → 𝓐.N
  zs zero = 𝓐.one
  zs (suc k) = 𝓐.mul (zs k) (𝓠.pauli z k)

  abbrev pub which : Bool → Axis
  which false = x
  which true = y

  -- of mode k: the first, or the second if b
  abbrev pub major : ℕ → Bool → 𝓐.N
  major k b = 𝓐.mul (zs k) (𝓠.pauli (which b) k)

  -- by number: 2k and 2k + 1 are those of mode k
  abbrev pub gamma : ℕ → 𝓐.N
  gamma a = major (a / 2) (eqb (a % 2) 1)
