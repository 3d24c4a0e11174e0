-- THE ENGINE'S MAJORANA MAP IN ITS OWN WORDS, over any real numbers: the definitions of crate `majorana`, and those of `gate` that it uses, with the
-- operations and tests of IEEE binary64 made parameters. Complex numbers are pairs; products of 2 by 2 matrices start with their first term, those of 4 by 4
-- at zero, and skip zeros; coefficients are real parts, divided. Definitions only. A public promise rests on this.
use Rattle.std.specs.Prelude.{Bool, cond, ◌&&◌, ℕ, zero, suc, ◌*◌, eqb}
use Rattle.rings.specs.Rings.{Ops}
use Rattle.formulas.specs.Numbers.{Tests}
use Rattle.formulas.specs.Engine.{Mat}
use Rattle.matchgates.specs.Matrices.{identity, kron, trace, mat_x}
use Rattle.matchgates.specs.Complex.{complex}

-- the root of a number, and the larger of two
pub record Roots (𝓡 : Ops) : Type 0 where
  pub root : 𝓡.N → 𝓡.N
  pub larger : 𝓡.N → 𝓡.N → 𝓡.N

module _ (𝓡 : Ops) where
  abbrev ℂ : Ops
  ℂ = complex 𝓡

  -- i
  abbrev pub ci : ℂ.N
  ci = record { re = 𝓡.zero; im = 𝓡.one }

  -- the conjugate, a multiple, and the square of the absolute value
  abbrev pub conj_of : ℂ.N → ℂ.N
  conj_of s = record { re = s.re; im = 𝓡.neg s.im }

  abbrev pub scale_of : ℂ.N → 𝓡.N → ℂ.N
  scale_of s x = record { re = 𝓡.mul s.re x; im = 𝓡.mul s.im x }

  abbrev pub norm_sqr_of : ℂ.N → 𝓡.N
  norm_sqr_of s = 𝓡.add (𝓡.mul s.re s.re) (𝓡.mul s.im s.im)

  -- ---- matrices

  -- Y and Z: every zero is +0, as in X and the identity
  abbrev pub gate_y : Mat ℂ
  gate_y r c = cond (eqb r c) ℂ.zero (cond (eqb r 0) (record { re = 𝓡.zero; im = 𝓡.neg 𝓡.one }) ci)

  abbrev pub gate_z : Mat ℂ
  gate_z r c = cond (eqb r c) (cond (eqb r 0) ℂ.one (record { re = 𝓡.neg 𝓡.one; im = 𝓡.zero })) ℂ.zero

  -- the Majorana operators of one mode and of two: `majoranas2`
  abbrev pub single_of : ℕ → Mat ℂ
  single_of zero = mat_x ℂ
  single_of (suc a) = gate_y

  abbrev pub double_of : ℕ → Mat ℂ
  double_of zero = kron ℂ (mat_x ℂ) (identity ℂ)
  double_of (suc zero) = kron ℂ gate_y (identity ℂ)
  double_of (suc (suc zero)) = kron ℂ gate_z (mat_x ℂ)
  double_of (suc (suc (suc a))) = kron ℂ gate_z gate_y

  abbrev pub majoranas_of : ℕ → ℕ → Mat ℂ
  majoranas_of modes a = cond (eqb modes 1) (single_of a) (double_of a)

  -- the adjoint, and the product of 2 by 2 matrices
  abbrev pub dag_of : Mat ℂ → Mat ℂ
  dag_of u r c = conj_of (u c r)

  abbrev pub mul2_of : Mat ℂ → Mat ℂ → Mat ℂ
  mul2_of a b r c = ℂ.add (ℂ.mul (a r 0) (b 0 c)) (ℂ.mul (a r 1) (b 1 c))

  -- w - q_0 c_0 - .. - q_(k - 1) c_(k - 1)
  abbrev pub less_of : ℕ → Mat ℂ → (ℕ → 𝓡.N) → ℕ → Mat ℂ
  less_of modes w q zero = w
  less_of modes w q (suc k) = λ r c. ℂ.add (less_of modes w q k r c) (ℂ.neg (scale_of (majoranas_of modes k r c) (q k)))

  -- the squares of a row's entries, and of the first k rows, in one sum
  abbrev pub norms_of : 𝓡.N → (ℕ → ℂ.N) → ℕ → 𝓡.N
  norms_of t f zero = t
  norms_of t f (suc k) = 𝓡.add (norms_of t f k) (norm_sqr_of (f k))

  abbrev pub square_of : ℕ → Mat ℂ → ℕ → 𝓡.N
  square_of w m zero = 𝓡.zero
  square_of w m (suc k) = norms_of (square_of w m k) (m k) w

  -- ---- what asks for zeros and quotients

  module _ (𝓣 : Tests 𝓡) where
    -- equal to 0
    abbrev pub is_zero_of : ℂ.N → Bool
    is_zero_of s = 𝓣.null s.re && 𝓣.null s.im

    -- m + x * s, and m itself where x equals 0
    abbrev pub axpy_of : ℂ.N → ℂ.N → ℂ.N → ℂ.N
    axpy_of m x s = cond (is_zero_of x) m (ℂ.add m (ℂ.mul x s))

    -- products of 4 by 4 matrices, and of both widths
    abbrev pub mul4_of : Mat ℂ → Mat ℂ → Mat ℂ
    mul4_of a b r c = axpy_of (axpy_of (axpy_of (axpy_of ℂ.zero (a r 0) (b 0 c)) (a r 1) (b 1 c)) (a r 2) (b 2 c)) (a r 3) (b 3 c)

    abbrev pub mul_of : ℕ → Mat ℂ → Mat ℂ → Mat ℂ
    mul_of modes a b = cond (eqb modes 1) (mul2_of a b) (mul4_of a b)

    -- w = u* (c u)
    abbrev pub image_of : ℕ → Mat ℂ → Mat ℂ → Mat ℂ
    image_of modes c u = mul_of modes (dag_of u) (mul_of modes c u)

    -- s / 2.0, or s / 4.0
    abbrev pub over_of : ℕ → 𝓡.N → 𝓡.N
    over_of modes s =
        let two = 𝓡.add 𝓡.one 𝓡.one in
        𝓣.div s (cond (eqb modes 1) two (𝓡.add two two))

    -- re Tr(c w) / 2 or 4
    abbrev pub coefficient_of : ℕ → Mat ℂ → Mat ℂ → 𝓡.N
    coefficient_of modes c w = over_of modes (trace ℂ (2 * modes) c w (2 * modes)).re

    -- row a, column b of the engine's q
    abbrev pub entry_of : ℕ → Mat ℂ → ℕ → ℕ → 𝓡.N
    entry_of modes u a b = coefficient_of modes (majoranas_of modes b) (image_of modes (majoranas_of modes a) u)

    -- w - sum_b q_ab c_b, and its square over that of c_a
    abbrev pub rest_of : ℕ → Mat ℂ → ℕ → Mat ℂ
    rest_of modes u a = less_of modes (image_of modes (majoranas_of modes a) u) (entry_of modes u a) (2 * modes)

    abbrev pub distance_of : ℕ → Mat ℂ → ℕ → 𝓡.N
    distance_of modes u a = over_of modes (square_of (2 * modes) (rest_of modes u a) (2 * modes))

    -- the largest root of the first k distances
    abbrev pub residual_of : Roots 𝓡 → ℕ → Mat ℂ → ℕ → 𝓡.N
    residual_of 𝓦 modes u zero = 𝓡.zero
    residual_of 𝓦 modes u (suc k) = 𝓦.larger (residual_of 𝓦 modes u k) (𝓦.root (distance_of modes u k))
