-- WHAT THE THEOREM ON MARGINALS SAYS. The engine's marginal over any numbers (crate `queries`, Marginals), up to its last step, `max(0.0)`, which changes no
-- probability. It is the probability that quantum mechanics gives, after every list of blocks, at every angle. What is asked of a mode is its mark: 0
-- nothing, else one more than the bit. Definitions only. A public promise rests on this.
use Rattle.std.specs.Prelude.{◌≡◌, Bool, cond, ◌&&◌, List, get_or, ℕ, ◌+◌, ◌/◌, ◌%◌, eqb}
use Rattle.rings.specs.Rings.{Ops, sg, times}
use Rattle.formulas.specs.Numbers.{Exact, Tests, Divides}
use Rattle.formulas.specs.Engine.{Mat, Local, Item, get}
use Rattle.formulas.specs.Determinants.{own_odd}
use Rattle.formulas.specs.Pfaffians.{own_pfaffian}
use Rattle.angles.specs.Qubits.{z, Operators}
use Rattle.angles.specs.Angles.{Block, after, state_after}
use Rattle.queries.specs.Lists.{oddly, noted_modes}
use Rattle.queries.specs.Products.{dim_left}
use Rattle.queries.specs.Marginals.{is_one}
use Rattle.answers.specs.Products.{restricted}

module _ (𝓝 : Ops) (half : 𝓝.N) where
  -- `s`: -0.5 for a one, else 0.5
  abbrev pub half_spin_of : ℕ → 𝓝.N
  half_spin_of mark = sg 𝓝 (is_one mark) half

  -- a[2j][2j + 1] += s, a[2j + 1][2j] -= s, for each pair j
  abbrev pub shifted : (ℕ → 𝓝.N) → Mat 𝓝 → Mat 𝓝
  shifted s a r c =
      cond (eqb (r % 2) 0 && eqb c (r + 1)) (𝓝.add (a r c) (s (r / 2)))
      (cond (eqb (c % 2) 0 && eqb r (c + 1)) (𝓝.add (a r c) (𝓝.neg (s (r / 2)))) (a r c))

  -- every entry times 0.5
  abbrev pub halved : Mat 𝓝 → Mat 𝓝
  halved a r c = 𝓝.mul half (a r c)

  -- the matrix of the modes l
  abbrev pub asked_matrix : Mat 𝓝 → (ℕ → ℕ) → List ℕ → Mat 𝓝
  asked_matrix e mark l = shifted (λ j. half_spin_of (mark (get_or l j 0))) (halved (restricted e l))

  -- `sign`: -1.0 if the ones are odd in number, else 1.0
  abbrev pub sign_of : ℕ → (ℕ → ℕ) → 𝓝.N
  sign_of n mark = sg 𝓝 (oddly (λ k. is_one (mark k)) n) 𝓝.one

  unfoldable pub marked_of : Tests 𝓝 → Mat 𝓝 → ℕ → (ℕ → ℕ) → 𝓝.N
  marked_of 𝓣 e n mark =
      let l = noted_modes n mark in
      𝓝.mul (sign_of n mark) (own_pfaffian 𝓝 𝓣 (dim_left l) (asked_matrix e mark l))

module _ {𝓝 : Ops} {below : 𝓝.N → Bool} (𝓔 : Exact 𝓝 below) {n : ℕ} {𝓐 : Ops} (𝓠 : Operators 𝓝 𝓔.i n 𝓐) where
  -- mode k reads 0, (1 + Z) / 2; or 1, (1 - Z) / 2, if b
  abbrev pub reads : Bool → ℕ → 𝓐.N
  reads b k = 𝓐.mul (𝓠.num 𝓔.half) (𝓐.add 𝓐.one (sg 𝓐 b (𝓠.pauli z k)))

  -- each of the listed modes reads its bit
  abbrev pub all_read : (ℕ → Bool) → List ℕ → 𝓐.N
  all_read b = times 𝓐 (λ k. reads (b k) k)

  -- THE STATEMENT, of marks
  abbrev pub OwnMarginals : Tests 𝓝 → (Local 𝓝 → Bool) → Type 0
  OwnMarginals 𝓣 odd = (gs : List (Item (Block 𝓠))) (mark : ℕ → ℕ)
      → marked_of 𝓝 𝓔.half 𝓣 (get 𝓝 (state_after 𝓔 𝓠 odd gs)) n mark ≡ after 𝓠 gs (all_read (λ k. is_one (mark k)) (noted_modes n mark))

-- THE WHOLE STATEMENT: over all exact numbers that divide, of the engine with its own elimination
abbrev pub MarginalTheorem : Type 1
MarginalTheorem = (𝓝 : Ops) (𝓣 : Tests 𝓝) → Divides 𝓝 𝓣 → (below : 𝓝.N → Bool) (𝓔 : Exact 𝓝 below) (n : ℕ) (𝓐 : Ops) (𝓠 : Operators 𝓝 𝓔.i n 𝓐)
    → OwnMarginals 𝓔 𝓠 𝓣 (own_odd 𝓝 𝓣 below)
