-- Queries and shots after a circuit that has become blocks on the modes: what is asked is an observable of its qubits, so that the answer is the circuit's
-- own. Assumes nothing.
use mathlib.Core.Path.{◌≡◌, refl, sym, ap, ◌∙◌}
use mathlib.Core.Bool.{Bool, true, false}
use mathlib.Core.List.{List, map}
use Prim.Native.Nat.{ℕ, zero, suc, ◌<◌}
use native.Mathlib.Omega.{arith}
use lib.Dec.{eqb}
use lib.ListN.{length, get_or}
use Rattle.laws.specs.Tables.{mode_at}
use Rattle.rings.specs.Rings.{Ops}
use Rattle.formulas.specs.Numbers.{Exact, Tests, Divides}
use Rattle.formulas.specs.Engine.{Mat, Item, each, run, vacuum, get}
use Rattle.formulas.specs.Determinants.{own_odd}
use Rattle.angles.specs.Qubits.{z, Operators}
use Rattle.matchgates.specs.Maps.{Conjugate}
use Rattle.matchgates.specs.Gates.{computed, expected}
use Rattle.matchgates.specs.Circuits.{conjugated}
use Rattle.matchgates.specs.Fused.{Fusion, fusion_gate}
use Rattle.matchgates.specs.Renamed.{Step, meant, Observable, pauli, number, sum, times, Within, sent, seen}
use Rattle.matchgates.specs.Compiled.{Compiled}
use Rattle.state.specs.Modes.{is_permutation, qubit_at}
use Rattle.state.proofs.Permutations.{mode-below}
use Rattle.state.proofs.Inverse.{qubit-mode}
use Rattle.queries.specs.Basis.{basis_bit_of}
use Rattle.answers.specs.Marginals.{reads}
use Rattle.answers.specs.Asked.{through, ByTable, RightAnswers, CircuitsRight, QueryTheorem}
use Rattle.answers.specs.Shots.{Draws, CircuitShots, ShotTheorem}
use Rattle.rings.proofs.Rings.{neg-mul}
use Rattle.angles.proofs.Lists.{all-at}
use Rattle.angles.proofs.Majoranas.{num-neg}
use Rattle.matchgates.proofs.Compiled.{every-circuit-by-elimination}
use Rattle.answers.proofs.Asked.{queries-right, gates-right}
use Rattle.answers.proofs.Shots.{shots-right, shot-draws}
use Rattle.answers.proofs.Modes.{reordered, is-order, modes-differ, modes-exist, shots-by-qubit, gate-shots}

-- ---- what is asked, as observables

module _ {𝓝 : Ops} where
  abbrev in_turn : (ℕ → Observable 𝓝) → ℕ → Observable 𝓝
  in_turn f zero = number 𝓝.one
  in_turn f (suc i) = times (in_turn f i) (f i)

  in-turn-within : (n : ℕ) (f : ℕ → Observable 𝓝) (i : ℕ) → ((j : ℕ) → j < i → Within n (f j)) → Within n (in_turn f i)
  in-turn-within n f zero h = tt
  in-turn-within n f (suc i) h = (in-turn-within n f i (λ j u. h j (omega (arith, u))), h i (omega arith))

  sent-in-turn : (s : ℕ → ℕ) (f : ℕ → Observable 𝓝) (i : ℕ) → sent s (in_turn f i) ≡ in_turn (λ j. sent s (f j)) i
  sent-in-turn s f zero = refl
  sent-in-turn s f (suc i) = ap (λ t. times t (sent s (f i))) (sent-in-turn s f i)

module _ {𝓝 : Ops} {below : 𝓝.N → Bool} (𝓔 : Exact 𝓝 below) where
  signed : Bool → ℕ → Observable 𝓝
  signed false q = pauli z q
  signed true q = times (number (𝓝.neg 𝓝.one)) (pauli z q)

  -- qubit q reads its bit
  reading : Bool → ℕ → Observable 𝓝
  reading b q = times (number 𝓔.half) (sum (number 𝓝.one) (signed b q))

  reading-within : (n : ℕ) (b : Bool) (q : ℕ) → q < n → Within n (reading b q)
  unfolding reading signed
  reading-within n false q h = (tt, (tt, h))
  reading-within n true q h = (tt, (tt, (tt, h)))

  sent-reading : (s : ℕ → ℕ) (b : Bool) (q : ℕ) → sent s (reading b q) ≡ reading b (s q)
  unfolding reading signed
  sent-reading s false q = refl
  sent-reading s true q = refl

  module _ {n : ℕ} {𝓐 : Ops} (𝓠 : Operators 𝓝 𝓔.i n 𝓐) where
    seen-in-turn : (f : ℕ → Observable 𝓝) (i : ℕ) → seen 𝓠 (in_turn f i) ≡ through 𝓐 (λ j. seen 𝓠 (f j)) i
    unfolding through
    seen-in-turn f zero = 𝓠.num-one
    seen-in-turn f (suc i) = ap (λ a. 𝓐.mul a (seen 𝓠 (f i))) (seen-in-turn f i)

    seen-reading : (b : Bool) (q : ℕ) → seen 𝓠 (reading b q) ≡ reads 𝓔 𝓠 b q
    unfolding reading signed
    seen-reading false q = ap (λ a. 𝓐.mul (𝓠.num 𝓔.half) (𝓐.add a (𝓠.pauli z q))) 𝓠.num-one
    seen-reading true q =
        λ i. 𝓐.mul (𝓠.num 𝓔.half) (𝓐.add (𝓠.num-one i) ((ap (λ a. 𝓐.mul a (𝓠.pauli z q)) (num-neg 𝓔 𝓠 𝓝.one ∙ ap 𝓐.neg 𝓠.num-one)
        ∙ neg-mul 𝓠.ring 𝓐.one (𝓠.pauli z q) ∙ ap 𝓐.neg (𝓠.ring.one-mul (𝓠.pauli z q))) i))

-- ---- queries

module _ {𝓝 : Ops} {𝓣 : Tests 𝓝} (𝓥 : Divides 𝓝 𝓣) {below : 𝓝.N → Bool} (𝓔 : Exact 𝓝 below) (𝓙 : Conjugate 𝓝 𝓔.i) {n : ℕ} {𝓐 : Ops}
    (𝓠 𝓦 : Operators 𝓝 𝓔.i n 𝓐) (modes : List ℕ) (table : is_permutation n modes ≡ true) (gs hs : List (Step 𝓝)) (bs : List (Item (Fusion 𝓔 𝓙 n)))
    (l : ℕ → ℕ) (c : Compiled 𝓔 𝓙 𝓠 𝓦 gs hs bs l (mode_at modes)) where
  -- the operators of the modes, by qubits
  abbrev by_qubits : Operators 𝓝 𝓔.i n 𝓐
  by_qubits = reordered 𝓦 (mode_at modes) (mode-below n modes table) (modes-differ n modes table)

  by-table : ByTable by_qubits 𝓦 modes
  by-table = is-order 𝓦 (mode_at modes) (mode-below n modes table) (modes-differ n modes table) (qubit_at n modes) (λ k h. qubit-mode n modes table k h)

  -- the engine's entries
  abbrev entries : Mat 𝓝
  entries = get 𝓝 (run 𝓝 below (own_odd 𝓝 𝓣 below) (map (each computed) (map (each fusion_gate) bs)) (vacuum 𝓝))

  unfoldable of_blocks : 𝓐.N → 𝓝.N
  of_blocks = expected 𝓔 𝓙 𝓦 (map (each fusion_gate) bs)

  unfoldable of_circuit : 𝓐.N → 𝓝.N
  of_circuit a = 𝓠.vac (conjugated 𝓔 𝓙 𝓠 (map meant gs) a)

  answered : RightAnswers 𝓣 𝓔.half (λ s. s) 𝓔 by_qubits modes entries of_blocks
  unfolding of_blocks
  answered =
      gates-right 𝓥 𝓔 𝓙 n 𝓐 by_qubits 𝓦 modes table by-table (map (each fusion_gate) bs)

  -- a product of observables, of the modes and of the circuit
  carried : (f : ℕ → Observable 𝓝) (i : ℕ) → ((j : ℕ) → j < i → Within n (f j))
      → of_blocks (through 𝓐 (λ j. seen 𝓦 (sent (mode_at modes) (f j))) i) ≡ of_circuit (through 𝓐 (λ j. seen 𝓠 (f j)) i)
  unfolding of_blocks of_circuit
  carried f i h =
      ap of_blocks (sym (ap (seen 𝓦) (sent-in-turn (mode_at modes) f i) ∙ seen-in-turn 𝓔 𝓦 (λ j. sent (mode_at modes) (f j)) i))
      ∙ (every-circuit-by-elimination 𝓔 𝓙 𝓠 𝓦 𝓥 gs hs bs l (mode_at modes) c).observable (in_turn f i) (in-turn-within n f i h)
      ∙ ap of_circuit (seen-in-turn 𝓔 𝓠 f i)

  -- qubits that read bits
  carried-bits : (b : ℕ → Bool) (q : ℕ → ℕ) (i : ℕ) → ((j : ℕ) → j < i → q j < n)
      → of_blocks (through 𝓐 (λ j. reads 𝓔 by_qubits (b j) (q j)) i) ≡ of_circuit (through 𝓐 (λ j. reads 𝓔 𝓠 (b j) (q j)) i)
  unfolding reordered
  carried-bits b q i h =
      ap of_blocks (λ t. through 𝓐 (λ j. sym (ap (seen 𝓦) (sent-reading 𝓔 (mode_at modes) (b j) (q j)) ∙ seen-reading 𝓔 𝓦 (b j) (mode_at modes (q j))) t) i)
      ∙ carried (λ j. reading 𝓔 (b j) (q j)) i (λ j u. reading-within 𝓔 n (b j) (q j) (h j u))
      ∙ ap of_circuit (λ t. through 𝓐 (λ j. seen-reading 𝓔 𝓠 (b j) (q j) t) i)

  circuit-answers : RightAnswers 𝓣 𝓔.half (λ s. s) 𝓔 𝓠 modes entries of_circuit
  unfolding reordered
  circuit-answers = record {
    product = λ qs h. answered.product qs h ∙ carried (λ j. pauli z (get_or qs j 0)) (length qs) (λ j u. all-at (λ q. q < n) qs j 0 h u);
    marginal = λ qs bits h ok. answered.marginal qs bits h ok
        ∙ carried-bits (λ j. eqb (get_or bits j 0) 1) (λ j. get_or qs j 0) (length qs) (λ j u. all-at (λ q. q < n) qs j 0 h u);
    index = λ low high. answered.index low high ∙ carried-bits (λ q. eqb (basis_bit_of low high q) 1) (λ q. q) n (λ q u. u);
  }

pub circuits-right : {𝓝 : Ops} {𝓣 : Tests 𝓝} (𝓥 : Divides 𝓝 𝓣) {below : 𝓝.N → Bool} (𝓔 : Exact 𝓝 below) (𝓙 : Conjugate 𝓝 𝓔.i)
    → CircuitsRight 𝓣 𝓔 (own_odd 𝓝 𝓣 below) 𝓙
unfolding of_circuit
circuits-right 𝓥 𝓔 𝓙 n 𝓐 𝓠 𝓦 modes table gs hs bs l c = circuit-answers 𝓥 𝓔 𝓙 𝓠 𝓦 modes table gs hs bs l c

pub circuit-shots : {𝓝 : Ops} {𝓣 : Tests 𝓝} (𝓥 : Divides 𝓝 𝓣) (𝓓 : Draws 𝓝) {below : 𝓝.N → Bool} (𝓔 : Exact 𝓝 below) (𝓙 : Conjugate 𝓝 𝓔.i)
    → CircuitShots 𝓣 𝓓 𝓔 (own_odd 𝓝 𝓣 below) 𝓙
unfolding of_blocks of_circuit
circuit-shots 𝓥 𝓓 𝓔 𝓙 not-null n 𝓐 𝓠 𝓦 modes table gs hs bs l c o r =
    gate-shots 𝓥 𝓓 𝓔 𝓙 not-null n 𝓐 (by_qubits 𝓥 𝓔 𝓙 𝓠 𝓦 modes table gs hs bs l c) 𝓦 modes table (by-table 𝓥 𝓔 𝓙 𝓠 𝓦 modes table gs hs bs l c)
    (map (each fusion_gate) bs) o r
    ∙ carried-bits 𝓥 𝓔 𝓙 𝓠 𝓦 modes table gs hs bs l c o (λ q. q) n (λ q h. h)

-- ---- the whole statements

pub query-theorem : QueryTheorem
query-theorem = record {
  modes-exist = modes-exist;
  after-blocks = λ 𝓥 𝓔. queries-right 𝓥 𝓔;
  after-gates = λ 𝓥 𝓔 𝓙. gates-right 𝓥 𝓔 𝓙;
  after-circuits = λ 𝓥 𝓔 𝓙. circuits-right 𝓥 𝓔 𝓙;
}

pub shot-theorem : ShotTheorem
shot-theorem = record {
  draws = λ 𝓝 half 𝓣 𝓓. shot-draws 𝓝 half 𝓣 𝓓;
  by-mode = λ 𝓥 𝓓 𝓔 𝓠. shots-right 𝓥 𝓓 𝓔 𝓠;
  by-qubit = λ 𝓥 𝓓 𝓔. shots-by-qubit 𝓥 𝓓 𝓔;
  after-gates = λ 𝓥 𝓓 𝓔 𝓙. gate-shots 𝓥 𝓓 𝓔 𝓙;
  after-circuits = λ 𝓥 𝓓 𝓔 𝓙. circuit-shots 𝓥 𝓓 𝓔 𝓙;
}
