-- MATRICES over any numbers: products, traces, and the Majorana matrices of one mode and of two (crate `majorana`: `majoranas2` of detect.rs). Entries below a
-- width w count. Definitions only. A public promise rests on this.
use Rattle.std.specs.Prelude.{cond, ℕ, zero, suc, ◌/◌, ◌%◌, eqb}
use Rattle.rings.specs.Rings.{Ops}
use Rattle.formulas.specs.Engine.{Mat, dot}

module _ (𝓝 : Ops) where
  -- of matrices of width w
  abbrev pub product : ℕ → Mat 𝓝 → Mat 𝓝 → Mat 𝓝
  product w a b r c = dot 𝓝 (a r) (λ l. b l c) w

  -- 1 on the diagonal
  abbrev pub identity : Mat 𝓝
  identity r c = cond (eqb r c) 𝓝.one 𝓝.zero

  -- a on the first qubit, b on the second
  abbrev pub kron : Mat 𝓝 → Mat 𝓝 → Mat 𝓝
  kron a b r c = 𝓝.mul (a (r / 2) (c / 2)) (b (r % 2) (c % 2))

  -- t + the products of the first k entries
  abbrev pub dot_on : 𝓝.N → (ℕ → 𝓝.N) → (ℕ → 𝓝.N) → ℕ → 𝓝.N
  dot_on t p q zero = t
  dot_on t p q (suc k) = 𝓝.add (dot_on t p q k) (𝓝.mul (p k) (q k))

  -- Tr(c m), the first k rows of c: all terms, in one sum
  abbrev pub trace : ℕ → Mat 𝓝 → Mat 𝓝 → ℕ → 𝓝.N
  trace w c m zero = 𝓝.zero
  trace w c m (suc k) = dot_on (trace w c m k) (c k) (λ l. m l k) w

  -- ---- Majorana matrices

  -- (0 1; 1 0)
  abbrev pub mat_x : Mat 𝓝
  mat_x r c = cond (eqb r c) 𝓝.zero 𝓝.one

  -- (1 0; 0 -1)
  abbrev pub mat_z : Mat 𝓝
  mat_z r c = cond (eqb r c) (cond (eqb r 0) 𝓝.one (𝓝.neg 𝓝.one)) 𝓝.zero

  module _ (i : 𝓝.N) where
    -- (0 -i; i 0)
    abbrev pub mat_y : Mat 𝓝
    mat_y r c = cond (eqb r c) 𝓝.zero (cond (eqb r 0) (𝓝.neg i) i)

    -- of one mode X and Y
    abbrev pub single : ℕ → Mat 𝓝
    single zero = mat_x
    single (suc a) = mat_y

    -- of two: `majoranas2`
    abbrev pub double : ℕ → Mat 𝓝
    double zero = kron mat_x identity
    double (suc zero) = kron mat_y identity
    double (suc (suc zero)) = kron mat_z mat_x
    double (suc (suc (suc a))) = kron mat_z mat_y

    -- c_a
    abbrev pub majoranas : ℕ → ℕ → Mat 𝓝
    majoranas modes a = cond (eqb modes 1) (single a) (double a)

    -- m - q_0 c_0 - .. - q_(k - 1) c_(k - 1)
    abbrev pub less_sum : ℕ → Mat 𝓝 → (ℕ → 𝓝.N) → ℕ → Mat 𝓝
    less_sum modes m q zero = m
    less_sum modes m q (suc k) = λ r c. 𝓝.add (less_sum modes m q k r c) (𝓝.neg (𝓝.mul (majoranas modes k r c) (q k)))
