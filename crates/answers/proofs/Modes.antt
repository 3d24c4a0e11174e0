-- A mode table only renames: the operators of the modes, in the order of the table, are operators of qubits too; and the chances of shots by qubits,
-- after blocks and after gates.
-- Assumes nothing.
use mathlib.Core.Path.{◌≡◌, refl, sym, ap, transport, ◌∙◌}
use mathlib.Core.Logic.{◌≢◌}
use mathlib.Core.Bool.{Bool, true, false}
use mathlib.Core.List.{List}
use Prim.Native.Nat.{ℕ, ◌<◌}
use native.Mathlib.Omega.{arith}
use lib.Dec.{eqb}
use Rattle.laws.specs.Tables.{mode_at}
use Rattle.rings.specs.Rings.{Ops}
use Rattle.formulas.specs.Numbers.{Exact, Tests, Divides}
use Rattle.formulas.specs.Engine.{run, vacuum, get}
use Rattle.formulas.specs.Determinants.{own_odd}
use Rattle.angles.specs.Qubits.{Operators}
use Rattle.angles.specs.Angles.{after}
use Rattle.pfaffian.specs.Shot.{bit}
use Rattle.state.specs.Modes.{is_permutation, qubit_at}
use Rattle.state.proofs.Permutations.{mode-below, mode-one}
use Rattle.state.proofs.Inverse.{qubit-below, qubit-mode}
use Rattle.queries.specs.Lists.{noted, contradicts}
use Rattle.queries.proofs.Marking.{none-contradicts}
use Rattle.queries.proofs.Stopping.{noted-place}
use Rattle.matchgates.specs.Maps.{Conjugate}
use Rattle.matchgates.specs.Compiled.{Ordered}
use Rattle.answers.specs.Marginals.{reads}
use Rattle.answers.specs.Asked.{ModesExist}
use Rattle.answers.specs.Shots.{Draws, RightChances, ShotsByQubit, GateShots}
use Rattle.matchgates.proofs.Gates.{blocks, operations, pulled-through}
use Rattle.answers.proofs.Through.{times-up, through-same}
use Rattle.answers.proofs.Asked.{mark_if, marked, at_place, listed-marks, reads-mode}
use Rattle.answers.proofs.Shots.{shots-right}

module _ {𝓝 : Ops} {i : 𝓝.N} {n : ℕ} {𝓐 : Ops} (𝓠 : Operators 𝓝 i n 𝓐) (l : ℕ → ℕ) (stands : (k : ℕ) → k < n → l k < n)
    (differ : (j k : ℕ) → j < n → k < n → j ≢ k → l j ≢ l k) where
  -- the same operators, that of l k as number k
  unfoldable pub reordered : Operators 𝓝 i n 𝓐
  reordered = record {
    ring = 𝓠.ring;
    num = 𝓠.num;
    num-add = 𝓠.num-add;
    num-mul = 𝓠.num-mul;
    num-one = 𝓠.num-one;
    central = 𝓠.central;
    pauli = λ p k. 𝓠.pauli p (l k);
    square = λ p k h. 𝓠.square p (l k) (stands k h);
    xy = λ k h. 𝓠.xy (l k) (stands k h);
    yz = λ k h. 𝓠.yz (l k) (stands k h);
    zx = λ k h. 𝓠.zx (l k) (stands k h);
    apart = λ p q j k hj hk d. 𝓠.apart p q (l j) (l k) (stands j hj) (stands k hk) (differ j k hj hk d);
    vac = 𝓠.vac;
    vac-add = 𝓠.vac-add;
    vac-num = 𝓠.vac-num;
    vac-one = 𝓠.vac-one;
    ket = λ k a h. 𝓠.ket (l k) a (stands k h);
    bra = λ k a h. 𝓠.bra (l k) a (stands k h);
  }

  is-ordered : Ordered 𝓠 reordered l
  unfolding reordered
  is-ordered = record { place = λ p k h. refl; number = λ s. refl; vacuum = λ a. refl }

  -- and back, by the inverse
  pub is-order : (m : ℕ → ℕ) → ((k : ℕ) → k < n → l (m k) ≡ k) → Ordered reordered 𝓠 m
  unfolding reordered
  is-order m back = record { place = λ p k h. ap (𝓠.pauli p) (sym (back k h)); number = λ s. refl; vacuum = λ a. refl }

module _ (n : ℕ) (modes : List ℕ) (table : is_permutation n modes ≡ true) where
  qubits-differ : (j k : ℕ) → j < n → k < n → j ≢ k → qubit_at n modes j ≢ qubit_at n modes k
  qubits-differ j k hj hk d e = d (sym (qubit-mode n modes table j hj) ∙ ap (mode_at modes) e ∙ qubit-mode n modes table k hk)

  pub modes-differ : (j k : ℕ) → j < n → k < n → j ≢ k → mode_at modes j ≢ mode_at modes k
  modes-differ j k hj hk d e = d (mode-one n modes table j k hj hk e)

pub modes-exist : ModesExist
modes-exist 𝓝 i n 𝓐 𝓠 modes table = (
  reordered 𝓠 (qubit_at n modes) (qubit-below n modes table) (qubits-differ n modes table),
  is-ordered 𝓠 (qubit_at n modes) (qubit-below n modes table) (qubits-differ n modes table),
)

-- ---- shots by qubits

one-bit : (b : Bool) → eqb (bit b) 1 ≡ b
one-bit true = refl
one-bit false = refl

pub shots-by-qubit : {𝓝 : Ops} {𝓣 : Tests 𝓝} (𝓥 : Divides 𝓝 𝓣) (𝓓 : Draws 𝓝) {below : 𝓝.N → Bool} (𝓔 : Exact 𝓝 below)
    → ShotsByQubit 𝓣 𝓓 𝓔 (own_odd 𝓝 𝓣 below)
shots-by-qubit 𝓥 𝓓 𝓔 not-null n 𝓐 𝓠 𝓦 modes table w gs o r =
    shots-right 𝓥 𝓓 𝓔 𝓦 not-null gs (λ k. o (qubit_at n modes k)) n (omega arith) r
    ∙ ap (after 𝓦 gs)
    (times-up 𝓦.ring (λ k. reads 𝓔 𝓦 (o (qubit_at n modes k)) k) n
    ∙ through-same 𝓦.ring (λ k. reads 𝓔 𝓦 (o (qubit_at n modes k)) k) (λ k. mark_if 𝓔 𝓦 (noted (mode_at modes) bits n k) k) n at-mode
    ∙ sym (listed-marks 𝓔 𝓦 (mode_at modes) bits n (mode-below n modes table) fine)
    ∙ through-same 𝓦.ring (at_place 𝓔 𝓦 (mode_at modes) bits) (λ q. reads 𝓔 𝓠 (o q) q) n
    (λ q h. ap (λ b. reads 𝓔 𝓦 b (mode_at modes q)) (one-bit (o q)) ∙ reads-mode 𝓔 𝓠 𝓦 modes table w (o q) q h))
  where
    bits : ℕ → ℕ
    bits q = bit (o q)

    fine : (j : ℕ) → j < n → contradicts (mode_at modes) bits j ≡ false
    fine j h =
        none-contradicts (mode_at modes) bits j (λ k u e. omega (arith, u, mode-one n modes table k j (omega (arith, u, h)) h e))

    at-mode : (k : ℕ) → k < n → reads 𝓔 𝓦 (o (qubit_at n modes k)) k ≡ mark_if 𝓔 𝓦 (noted (mode_at modes) bits n k) k
    at-mode k h =
        ap (λ b. reads 𝓔 𝓦 b k) (sym (one-bit (o q)))
        ∙ sym (marked 𝓔 𝓦 (bits q) k)
        ∙ ap (λ x. mark_if 𝓔 𝓦 x k)
        (sym (ap (noted (mode_at modes) bits n) (sym (qubit-mode n modes table k h))
        ∙ noted-place (mode_at modes) bits n q (qubit-below n modes table k h) (fine q (qubit-below n modes table k h))))
      where
        q : ℕ
        q = qubit_at n modes k

-- gates are blocks
pub gate-shots : {𝓝 : Ops} {𝓣 : Tests 𝓝} (𝓥 : Divides 𝓝 𝓣) (𝓓 : Draws 𝓝) {below : 𝓝.N → Bool} (𝓔 : Exact 𝓝 below) (𝓙 : Conjugate 𝓝 𝓔.i)
    → GateShots 𝓣 𝓓 𝓔 (own_odd 𝓝 𝓣 below) 𝓙
gate-shots {𝓝} {𝓣} 𝓥 𝓓 {below} 𝓔 𝓙 not-null n 𝓐 𝓠 𝓦 modes table w gs =
    transport
    (λ t. RightChances 𝓣 𝓓 𝓔.half (λ s. s) 𝓔 𝓠 modes (get 𝓝 (run 𝓝 below (own_odd 𝓝 𝓣 below) (operations 𝓔 𝓙 𝓦 gs t) (vacuum 𝓝)))
    (λ a. 𝓦.vac (pulled-through 𝓔 𝓙 𝓦 gs a t)))
    (shots-by-qubit 𝓥 𝓓 𝓔 not-null n 𝓐 𝓠 𝓦 modes table w (blocks 𝓔 𝓙 𝓦 gs))
