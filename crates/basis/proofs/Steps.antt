-- Basis states in the engine: the vacuum is the one whose bits are all clear, and an operation that comes from a block of register gates carries the
-- basis state of some bits to that of the bits after the block. Of a slice that stores one the queries read those bits. Assumes nothing.
use mathlib.Core.Path.{◌≡◌, refl, sym, ◌∙◌, subst}
use mathlib.Core.Logic.{◌⊎◌, inl, inr, ◌≢◌}
use mathlib.Core.Bool.{Bool, true, false, cond, ◌&&◌}
use mathlib.Core.List.{List}
use Prim.Native.Nat.{ℕ, ◌+◌, ◌*◌, ◌%◌, ◌≤◌, ◌<◌}
use native.Mathlib.Omega.{arith}
use lib.Dec.{T, eqb}
use lib.IntN.{pos, neg_ℤ}
use lib.Ieee.{Float, binary64, mul, neg, fits}
use lib.Ieee.Fits.{mul-fits}
use Rattle.laws.specs.Zeros.{+0, +1}
use Rattle.laws.specs.Dyadic.{Dy}
use Rattle.laws.specs.Tables.{mode_at}
use Rattle.laws.specs.Bounds.{max_qubits}
use Rattle.laws.specs.Phase.{Phase}
use Rattle.real.specs.Maps.{entry2, entry4}
use Rattle.gate.specs.declared.complex.Complex.{Complex}
use Rattle.gate.specs.declared.matrix.Mat2.{Mat2}
use Rattle.gate.specs.declared.matrix.Mat4.{Mat4}
use Rattle.majorana.specs.Majorana.{majorana_map1_of, majorana_map2_of}
use Rattle.classify.specs.Diagonal.{unit_of, rotation_map_of}
use Rattle.monomial.specs.Monomial.{unit, IsEntry, flip, Mono2, Mono4, Has2, Has4, bit_a, bit_b, IsMatchgate}
use Rattle.monomial.specs.Basis.{basis}
use Rattle.monomial.proofs.States.{fits-state, single-state, rotation-state}
use Rattle.local.specs.State.{State, Stored, state_at, vacuum, get}
use Rattle.local.specs.Det.{odd}
use Rattle.local.proofs.Stored.{Alike, read_back}
use Rattle.state.specs.Bounds.{dim_of}
use Rattle.state.specs.Operation.{effect}
use Rattle.state.specs.Modes.{is_permutation}
use Rattle.state.specs.declared.operation.Operation.TheVariants.{One, Two}
use Rattle.queries.specs.Calls.{covariance_of}
use Rattle.basis.specs.Holds.{HoldsBits, Reads}
use Rattle.basis.proofs.Settling.{get-basis, step-holds}

-- ---- the vacuum

pair : (p q : Bool) → Dy 0 (cond p (pos 1) (cond q (neg_ℤ (pos 1)) (pos 0))) (cond p +1 (cond q (neg +1) +0))
unfolding neg
pair true q = (1, refl, refl)
pair false true = (1, refl, refl)
pair false false = (0, refl, refl)

pub vacuum-holds : (n : ℕ) → HoldsBits n (λ k. false) vacuum
vacuum-holds n = record {
  matrix = λ r c h g. pair (eqb (r % 2) 0 && eqb c (r + 1)) (eqb (c % 2) 0 && eqb r (c + 1));
  signs = λ k h. (false, refl, refl);
}

-- ---- operations

module _ (n k : ℕ) (b b' : ℕ → Bool) (t : State) where
  pub one_holds : (u : Mat2) (a : Mono2) → Has2 u a → k < n → HoldsBits n b t → b' k ≡ flip a.turn (b k) → ((j : ℕ) → j ≢ k → b j ≡ b' j)
      → HoldsBits n b' (effect (One k (majorana_map1_of u).q) t)
  unfolding effect
  one_holds u a U room H turned others =
      step-holds n b t H odd k 1 (entry2 (majorana_map1_of u).q) b' (λ m M. single-state k (dim_of n) b b' m M u a U (omega arith) turned elsewhere)
    where
      elsewhere : (j : ℕ) → (j < k) ⊎ (k + 1 ≤ j) → b j ≡ b' j
      elsewhere j (inl h) = others j (λ i. omega arith)
      elsewhere j (inr h) = others j (λ i. omega arith)

  pub two-holds : (u : Mat4) (a : Mono4) → Has4 u a → IsMatchgate a → k + 1 < n
      → HoldsBits n b t → b' k ≡ bit_a a (b k) (b (k + 1)) → b' (k + 1) ≡ bit_b a (b k) (b (k + 1))
      → ((j : ℕ) → j ≢ k → j ≢ k + 1 → b j ≡ b' j) → HoldsBits n b' (effect (Two k (majorana_map2_of u).q) t)
  unfolding effect
  two-holds u a U F room H first second others =
      step-holds n b t H odd k 2 (entry4 (majorana_map2_of u).q) b'
      (λ m M. fits-state k (dim_of n) b b' m M u a U F (omega arith) first second elsewhere)
    where
      elsewhere : (j : ℕ) → (j < k) ⊎ (k + 2 ≤ j) → b j ≡ b' j
      elsewhere j (inl h) = others j (λ i. omega arith) (λ i. omega arith)
      elsewhere j (inr h) = others j (λ i. omega arith) (λ i. omega arith)

pub rotation-holds : (n k : ℕ) (b : ℕ → Bool) (t : State) (z : Complex) (l : Phase) → IsEntry z (unit l) → k < n → HoldsBits n b t
    → HoldsBits n b (effect (One k (rotation_map_of (unit_of z))) t)
unfolding effect
rotation-holds n k b t z l Z room H =
    step-holds n b t H odd k 1 (entry2 (rotation_map_of (unit_of z))) b (λ m M. rotation-state k (dim_of n) b b m M z l Z (omega arith))

-- ---- what the queries read

-- only the rows of the n modes count
pub alike-holds : (n : ℕ) (b : ℕ → Bool) (t u : State) → Alike (dim_of n) t u → HoldsBits n b u → HoldsBits n b t
alike-holds n b t u a H = record {
  matrix = λ r c h g. subst (Dy 0 (basis b r c)) (sym (a.entries r c h g)) (H.matrix r c h g);
  signs = λ k h. ((H.signs k h).0, a.signs (2 * k) (omega arith) ∙ (H.signs k h).1, a.signs (2 * k + 1) (omega arith) ∙ (H.signs k h).2);
}

-- every product is a float of the format
pub get-fits : (t : State) (r c : ℕ) → T (fits binary64 (get t r c))
get-fits t r c = mul-fits binary64 (mul binary64 (t.m r c) (t.d r)) (t.d c)

pub slice-reads : (n : ℕ) (b r : ℕ → Bool) (s₀ s : List Float) (t : State) (modes : List ℕ) → n ≤ max_qubits → Stored (dim_of n) s₀ t s → HoldsBits n b t
    → is_permutation n modes ≡ true → ((q : ℕ) → q < n → b (mode_at modes q) ≡ r q) → Reads n b r (covariance_of n s) modes
slice-reads n b r s₀ s t modes few w H table bits = record {
  few = few;
  covariance = get-basis n b (state_at (dim_of n) s) (alike-holds n b (state_at (dim_of n) s) t (read_back (dim_of n) s₀ t s w) H);
  floats = get-fits (state_at (dim_of n) s);
  table = table;
  bits = bits;
}
