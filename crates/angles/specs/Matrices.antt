-- MATRICES OF ORDER 2^n, over any numbers, and that they are operators of n qubits (page Qubits): so the theorems speak of something. Two by two matrices over
-- the matrices of n qubits are those of n + 1. Definitions only. A public promise rests on this.
use Rattle.std.specs.Prelude.{◌≡◌, Bool, cond, ℕ, zero, suc, eqb}
use Rattle.rings.specs.Rings.{Ops}
use Rattle.formulas.specs.Numbers.{Exact}
use Rattle.angles.specs.Qubits.{Axis, x, y, z, Operators}

-- ---- two by two

-- the rows a b and c d
pub record Four (A : Type 0) : Type 0 where
  pub a : A
  pub b : A
  pub c : A
  pub d : A

-- sums entry by entry, products row by column
abbrev pub matrices : Ops → Ops
matrices 𝓡 = record {
  N = Four 𝓡.N;
  zero = record { a = 𝓡.zero; b = 𝓡.zero; c = 𝓡.zero; d = 𝓡.zero };
  one = record { a = 𝓡.one; b = 𝓡.zero; c = 𝓡.zero; d = 𝓡.one };
  add = λ s t. record { a = 𝓡.add s.a t.a; b = 𝓡.add s.b t.b; c = 𝓡.add s.c t.c; d = 𝓡.add s.d t.d };
  mul = λ s t. record {
    a = 𝓡.add (𝓡.mul s.a t.a) (𝓡.mul s.b t.c);
    b = 𝓡.add (𝓡.mul s.a t.b) (𝓡.mul s.b t.d);
    c = 𝓡.add (𝓡.mul s.c t.a) (𝓡.mul s.d t.c);
    d = 𝓡.add (𝓡.mul s.c t.b) (𝓡.mul s.d t.d);
  };
  neg = λ s. record { a = 𝓡.neg s.a; b = 𝓡.neg s.b; c = 𝓡.neg s.c; d = 𝓡.neg s.d };
}

module _ (𝓡 : Ops) where
  abbrev pub diag : 𝓡.N → Four 𝓡.N
  diag m = record { a = m; b = 𝓡.zero; c = 𝓡.zero; d = m }

  -- the Pauli matrices, with I for i
  abbrev pub outer : 𝓡.N → Axis → Four 𝓡.N
  outer I x = record { a = 𝓡.zero; b = 𝓡.one; c = 𝓡.one; d = 𝓡.zero }
  outer I y = record { a = 𝓡.zero; b = 𝓡.neg I; c = I; d = 𝓡.zero }
  outer I z = record { a = 𝓡.one; b = 𝓡.zero; c = 𝓡.zero; d = 𝓡.neg 𝓡.one }

-- ---- of order 2^n

abbrev pub tower : Ops → ℕ → Ops
tower 𝓝 zero = 𝓝
tower 𝓝 (suc n) = matrices (tower 𝓝 n)

module _ (𝓝 : Ops) where
  -- the number s, on the diagonal
  abbrev pub number : (n : ℕ) → 𝓝.N → (tower 𝓝 n).N
  number zero s = s
  number (suc n) s = diag (tower 𝓝 n) (number n s)

  -- the Pauli matrices of qubit j. The last one, of number n, is the outermost
  abbrev pub sigma : 𝓝.N → (n : ℕ) → Axis → ℕ → (tower 𝓝 n).N
  sigma i zero p j = 𝓝.zero
  sigma i (suc n) p j = cond (eqb j n) (outer (tower 𝓝 n) (number n i) p) (diag (tower 𝓝 n) (sigma i n p j))

  -- <0..0| m |0..0>: the first entry of the first row
  abbrev pub corner : (n : ℕ) → (tower 𝓝 n).N → 𝓝.N
  corner zero s = s
  corner (suc n) m = corner n m.a

-- ---- operators of n qubits whose numbers, Pauli operators and vacuum are these
pub record Matrices {𝓝 : Ops} {below : 𝓝.N → Bool} (𝓔 : Exact 𝓝 below) (n : ℕ) : Type 0 where
  pub operators : Operators 𝓝 𝓔.i n (tower 𝓝 n)
  pub num : operators.num ≡ number 𝓝 n
  pub pauli : operators.pauli ≡ sigma 𝓝 𝓔.i n
  pub vac : operators.vac ≡ corner 𝓝 n

-- THE STATEMENT: over every exact numbers, for every n
abbrev pub ForMatrices : Type 1
ForMatrices = (𝓝 : Ops) (below : 𝓝.N → Bool) (𝓔 : Exact 𝓝 below) (n : ℕ) → Matrices 𝓔 n
