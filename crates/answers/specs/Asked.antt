-- WHAT QUERIES ANSWER AT EVERY ANGLE. Queries name qubits; the mode table says on which mode each stands. What the engine's formulas answer to the
-- list of a product, to the list of a marginal and to a basis index is the value of an operator of those qubits, place by place: repeats and contradictions
-- are nothing special to quantum mechanics. Definitions only. A public promise rests on this.
use Rattle.std.specs.Prelude.{◌≡◌, Bool, true, cond, List, map, length, get_or, ℕ, zero, suc, ◌<◌, eqb, ltb}
use Rattle.laws.specs.Lists.{All}
use Rattle.laws.specs.Tables.{mode_at}
use Rattle.rings.specs.Rings.{Ops}
use Rattle.formulas.specs.Numbers.{Exact, Tests, Divides}
use Rattle.formulas.specs.Engine.{Mat, Local, Item, each, run, vacuum, get}
use Rattle.formulas.specs.Determinants.{own_odd}
use Rattle.angles.specs.Qubits.{z, Operators}
use Rattle.angles.specs.Angles.{Block, after, state_after}
use Rattle.matchgates.specs.Maps.{Conjugate}
use Rattle.matchgates.specs.Gates.{Gate, computed, expected}
use Rattle.matchgates.specs.Circuits.{conjugated}
use Rattle.matchgates.specs.Fused.{Fusion, fusion_gate}
use Rattle.matchgates.specs.Renamed.{Step, meant}
use Rattle.matchgates.specs.Compiled.{Ordered, Compiled}
use Rattle.state.specs.Modes.{is_permutation, qubit_at}
use Rattle.queries.specs.Lists.{odd_modes, bits_ok, stop_place, asked}
use Rattle.queries.specs.Basis.{basis_bit_of, basis_mark}
use Rattle.answers.specs.Products.{product_of}
use Rattle.answers.specs.Marginals.{marked_of, reads}

-- ---- the engine's answers, over any numbers, from the covariance e of n modes

module _ (𝓝 : Ops) (𝓣 : Tests 𝓝) (half : 𝓝.N) (e : Mat 𝓝) (n : ℕ) (modes : List ℕ) where
  -- "pairs of a listed qubit cancel"
  abbrev pub product_answer : List ℕ → 𝓝.N
  product_answer qs = product_of 𝓝 𝓣 e (odd_modes n modes qs)

  -- "a marginal stops with 0.0 at the first contradiction"
  abbrev pub marginal_answer : List ℕ → List ℕ → 𝓝.N
  marginal_answer qs bits = cond (ltb (stop_place n modes qs bits) (length qs)) 𝓝.zero (marked_of 𝓝 half 𝓣 e n (asked modes qs bits))

  abbrev pub index_answer : ℕ → ℕ → 𝓝.N
  index_answer low high = marked_of 𝓝 half 𝓣 e n (basis_mark n modes low high)

-- ---- what is asked

-- f 0 * .. * f (i - 1)
unfoldable pub through : (𝓐 : Ops) → (ℕ → 𝓐.N) → ℕ → 𝓐.N
through 𝓐 f zero = 𝓐.one
through 𝓐 f (suc i) = 𝓐.mul (through 𝓐 f i) (f i)

-- the operators 𝓦 of the modes are those of the qubits, 𝓠, each qubit on the mode that the table gives it
abbrev pub ByTable : {𝓝 : Ops} {i : 𝓝.N} {n : ℕ} {𝓐 : Ops} (𝓠 𝓦 : Operators 𝓝 i n 𝓐) → List ℕ → Type 0
ByTable {n = n} 𝓠 𝓦 modes = Ordered 𝓠 𝓦 (qubit_at n modes)

module _ {𝓝 : Ops} {below : 𝓝.N → Bool} (𝓔 : Exact 𝓝 below) {n : ℕ} {𝓐 : Ops} (𝓠 : Operators 𝓝 𝓔.i n 𝓐) where
  -- Z of the qubit at each place of the list
  abbrev pub z_product : List ℕ → 𝓐.N
  z_product qs = through 𝓐 (λ j. 𝓠.pauli z (get_or qs j 0)) (length qs)

  -- the qubit at each place reads its bit
  abbrev pub all_bits : List ℕ → List ℕ → 𝓐.N
  all_bits qs bits = through 𝓐 (λ j. reads 𝓔 𝓠 (eqb (get_or bits j 0) 1) (get_or qs j 0)) (length qs)

  -- every qubit reads its bit of a basis index
  abbrev pub basis_state : ℕ → ℕ → 𝓐.N
  basis_state low high = through 𝓐 (λ q. reads 𝓔 𝓠 (eqb (basis_bit_of low high q) 1) q) n

-- THE STATEMENT that there are such: a mode table only renames
abbrev pub ModesExist : Type 1
ModesExist = (𝓝 : Ops) (i : 𝓝.N) (n : ℕ) (𝓐 : Ops) (𝓠 : Operators 𝓝 i n 𝓐) (modes : List ℕ) → is_permutation n modes ≡ true
    → (𝓦 : Operators 𝓝 i n 𝓐) × ByTable 𝓠 𝓦 modes

-- the answers from a covariance e, read by ι among the numbers of quantum mechanics, are the values that v gives
pub record RightAnswers {𝓡 : Ops} (𝓣 : Tests 𝓡) (half : 𝓡.N) {𝓝 : Ops} (ι : 𝓡.N → 𝓝.N) {below : 𝓝.N → Bool} (𝓔 : Exact 𝓝 below) {n : ℕ} {𝓐 : Ops}
    (𝓠 : Operators 𝓝 𝓔.i n 𝓐) (modes : List ℕ) (e : Mat 𝓡) (v : 𝓐.N → 𝓝.N) : Type 0 where
  pub product : (qs : List ℕ) → All (λ q. q < n) qs → ι (product_answer 𝓡 𝓣 half e n modes qs) ≡ v (z_product 𝓔 𝓠 qs)
  pub marginal : (qs bits : List ℕ) → All (λ q. q < n) qs → bits_ok qs bits ≡ true → ι (marginal_answer 𝓡 𝓣 half e n modes qs bits) ≡ v (all_bits 𝓔 𝓠 qs bits)
  pub index : (low high : ℕ) → ι (index_answer 𝓡 𝓣 half e n modes low high) ≡ v (basis_state 𝓔 𝓠 low high)

-- THE STATEMENT, of an engine that asks `odd` whether a determinant is below zero: after every list of blocks on the modes,
module _ {𝓝 : Ops} (𝓣 : Tests 𝓝) {below : 𝓝.N → Bool} (𝓔 : Exact 𝓝 below) (odd : Local 𝓝 → Bool) where
  abbrev pub QueriesRight : Type 1
  QueriesRight = (n : ℕ) (𝓐 : Ops) (𝓠 𝓦 : Operators 𝓝 𝓔.i n 𝓐) (modes : List ℕ) → is_permutation n modes ≡ true → ByTable 𝓠 𝓦 modes
      → (gs : List (Item (Block 𝓦))) → RightAnswers 𝓣 𝓔.half (λ s. s) 𝓔 𝓠 modes (get 𝓝 (state_after 𝓔 𝓦 odd gs)) (after 𝓦 gs)

  -- and after every list of gates on them, by their matrices
  abbrev pub GatesRight : Conjugate 𝓝 𝓔.i → Type 1
  GatesRight 𝓙 = (n : ℕ) (𝓐 : Ops) (𝓠 𝓦 : Operators 𝓝 𝓔.i n 𝓐) (modes : List ℕ) → is_permutation n modes ≡ true → ByTable 𝓠 𝓦 modes
      → (gs : List (Item (Gate 𝓔 𝓙 n)))
      → RightAnswers 𝓣 𝓔.half (λ s. s) 𝓔 𝓠 modes (get 𝓝 (run 𝓝 below odd (map (each computed) gs) (vacuum 𝓝))) (expected 𝓔 𝓙 𝓦 gs)

  -- and after every circuit that has become blocks on them (crate `matchgates`, Compiled): the answers are the circuit's own, of its qubits
  abbrev pub CircuitsRight : Conjugate 𝓝 𝓔.i → Type 1
  CircuitsRight 𝓙 = (n : ℕ) (𝓐 : Ops) (𝓠 𝓦 : Operators 𝓝 𝓔.i n 𝓐) (modes : List ℕ) → is_permutation n modes ≡ true
      → (gs hs : List (Step 𝓝)) (bs : List (Item (Fusion 𝓔 𝓙 n))) (l : ℕ → ℕ) → Compiled 𝓔 𝓙 𝓠 𝓦 gs hs bs l (mode_at modes)
      → RightAnswers 𝓣 𝓔.half (λ s. s) 𝓔 𝓠 modes (get 𝓝 (run 𝓝 below odd (map (each computed) (map (each fusion_gate) bs)) (vacuum 𝓝)))
      (λ a. 𝓠.vac (conjugated 𝓔 𝓙 𝓠 (map meant gs) a))

-- THE WHOLE STATEMENT: over all exact numbers that divide, of the engine with its own elimination
pub record QueryTheorem : Type 1 where
  pub modes-exist : ModesExist
  pub after-blocks : {𝓝 : Ops} {𝓣 : Tests 𝓝} → Divides 𝓝 𝓣 → {below : 𝓝.N → Bool} (𝓔 : Exact 𝓝 below) → QueriesRight 𝓣 𝓔 (own_odd 𝓝 𝓣 below)
  pub after-gates : {𝓝 : Ops} {𝓣 : Tests 𝓝} → Divides 𝓝 𝓣 → {below : 𝓝.N → Bool} (𝓔 : Exact 𝓝 below) (𝓙 : Conjugate 𝓝 𝓔.i)
      → GatesRight 𝓣 𝓔 (own_odd 𝓝 𝓣 below) 𝓙
  pub after-circuits : {𝓝 : Ops} {𝓣 : Tests 𝓝} → Divides 𝓝 𝓣 → {below : 𝓝.N → Bool} (𝓔 : Exact 𝓝 below) (𝓙 : Conjugate 𝓝 𝓔.i)
      → CircuitsRight 𝓣 𝓔 (own_odd 𝓝 𝓣 below) 𝓙
