-- A basis index is the marginal of all n qubits, each with its own bit: the list of qubits 0, 1, .., n - 1 has no bad place and no contradiction.
-- Assumes nothing.
use mathlib.Core.Path.{◌≡◌, refl, sym, ap, ◌∙◌}
use mathlib.Core.Logic.{◌≢◌}
use mathlib.Core.Bool.{Bool, true, false, ◌||◌}
use mathlib.Core.List.{List}
use Prim.Native.Nat.{ℕ, ◌≤◌, ◌<◌}
use native.Mathlib.Nat.{le_refl}
use native.Mathlib.Omega.{arith}
use lib.Dec.{leb, ltb}
use lib.ListN.{length, get_or}
use lib.Ieee.{Float}
use borrow.Author.Tests.{eq-eqb, le-leb, lt-leb, le-ltb}
use Rattle.std.proofs.lemmas.Bool.{cond_both}
use Rattle.laws.proofs.Tests.{all_of}
use Rattle.laws.specs.Views.{list_of}
use Rattle.laws.specs.Tables.{mode_at}
use Rattle.laws.proofs.Views.{length-list_of, get_or-list_of}
use Rattle.state.specs.Modes.{is_permutation}
use Rattle.state.specs.Questions.{state_ok}
use Rattle.state.proofs.Permutations.{mode-one}
use Rattle.state.proofs.Questions as questions
use Rattle.queries.specs.Lists.{outside, mode_listed, bit_listed, noted, contradicts, bits_ok, stop_place, asked}
use Rattle.queries.specs.Basis.{word_bits, basis_bit_of, basis_mark}
use Rattle.queries.specs.Calls.{covariance_of, probability_of, probability_work, marginal_probability_of, marginal_probability_work}
use Rattle.queries.proofs.Searches.{first-all}
use Rattle.queries.proofs.Marking.{noted-alike, none-contradicts}
use Rattle.queries.proofs.Leaving.{answer-alike, work-alike}

pub basis-small : (low high q : ℕ) → basis_bit_of low high q ≤ 1
unfolding basis_bit_of
basis-small low high q = cond_both (ltb q word_bits) _ _ (λ z. z ≤ 1) (λ _. omega arith) (λ _. omega arith)

-- all n qubits, and their bits
abbrev pub all_qubits : ℕ → List ℕ
all_qubits n = list_of n (λ q. q)

abbrev pub basis_bits : ℕ → ℕ → ℕ → List ℕ
basis_bits n low high = list_of n (basis_bit_of low high)

module _ (n low high : ℕ) where
  pub qubits-long : length (all_qubits n) ≡ n
  qubits-long = length-list_of n (λ q. q)

  pub bits-long : length (basis_bits n low high) ≡ n
  bits-long = length-list_of n (basis_bit_of low high)

  pub qubit-here : (j : ℕ) → j < n → get_or (all_qubits n) j 0 ≡ j
  qubit-here j h = get_or-list_of {A = ℕ} n (λ q. q) j 0 h

  pub bit-here : (j : ℕ) → j < n → get_or (basis_bits n low high) j 0 ≡ basis_bit_of low high j
  bit-here j h = get_or-list_of {A = ℕ} n (basis_bit_of low high) j 0 h

  bits-fine : bits_ok (all_qubits n) (basis_bits n low high) ≡ true
  unfolding bits_ok
  bits-fine =
      rw (eq-eqb (length (all_qubits n)) (length (basis_bits n low high)) (qubits-long ∙ sym bits-long))
      (all_of (λ j. leb (get_or (basis_bits n low high) j 0) 1) (length (basis_bits n low high))
      (λ k h. le-leb (get_or (basis_bits n low high) k 0) 1 (rw (bit-here k (rw bits-long at h)) (basis-small low high k))))

  module _ (modes : List ℕ) (p : is_permutation n modes ≡ true) where
    mode-here : (j : ℕ) → j < n → mode_listed modes (all_qubits n) j ≡ mode_at modes j
    mode-here j h = ap (mode_at modes) (qubit-here j h)

    apart : (i j : ℕ) → i < j → j < n → mode_listed modes (all_qubits n) i ≢ mode_listed modes (all_qubits n) j
    apart i j h g e =
        let z : i ≡ j = mode-one n modes p i j (omega arith) g (sym (mode-here i (omega arith)) ∙ e ∙ mode-here j g) in
        omega arith

    none-stops : (j : ℕ) → j < length (all_qubits n)
        → (outside n (all_qubits n) j || contradicts (mode_listed modes (all_qubits n)) (bit_listed (basis_bits n low high)) j) ≡ false
    none-stops j h =
        let g : j < n = rw qubits-long at h in
        rw (lt-leb n (get_or (all_qubits n) j 0) (rw (qubit-here j g) g))
        (none-contradicts (mode_listed modes (all_qubits n)) (bit_listed (basis_bits n low high)) j (λ i k. apart i j k g))

    reads_all : ltb (stop_place n modes (all_qubits n) (basis_bits n low high)) (length (all_qubits n)) ≡ false
    unfolding stop_place
    reads_all =
        rw (first-all (λ j. outside n (all_qubits n) j || contradicts (mode_listed modes (all_qubits n)) (bit_listed (basis_bits n low high)) j)
        (length (all_qubits n)) none-stops)
        (le-ltb (length (all_qubits n)) (length (all_qubits n)) (le_refl (length (all_qubits n))))

    marks-alike : (k : ℕ) → k < n → basis_mark n modes low high k ≡ asked modes (all_qubits n) (basis_bits n low high) k
    marks-alike k h =
        noted-alike (mode_at modes) (mode_listed modes (all_qubits n)) (basis_bit_of low high) (bit_listed (basis_bits n low high)) n k
        (λ j g. sym (mode-here j g)) (λ j g. sym (bit-here j g))
        ∙ ap (λ i. noted (mode_listed modes (all_qubits n)) (bit_listed (basis_bits n low high)) i k) (sym qubits-long)

  module _ (s : List Float) (modes : List ℕ) (w : List Float) where
    -- but for the row
    pub basis-is-marginal : probability_of n s modes low high w ≡ (marginal_probability_of n s modes (all_qubits n) (basis_bits n low high) w).told
    unfolding probability_of marginal_probability_of
    basis-is-marginal = by (state_ok n s modes) refl
      where
        by : (t : Bool) → state_ok n s modes ≡ t
            → probability_of n s modes low high w ≡ (marginal_probability_of n s modes (all_qubits n) (basis_bits n low high) w).told
        by true e =
            let p = (questions.asked n s modes e).permutation in
            rw (e, bits-fine, reads_all modes p) (ap (λ a. a.told) (answer-alike n _ _ (marks-alike modes p) (covariance_of n s) w))
        by false e = rw e

    pub basis-work-is-marginal : probability_work n s modes low high w ≡ marginal_probability_work n s modes (all_qubits n) (basis_bits n low high) w
    unfolding probability_work marginal_probability_work
    basis-work-is-marginal = by (state_ok n s modes) refl
      where
        by : (t : Bool) → state_ok n s modes ≡ t
            → probability_work n s modes low high w ≡ marginal_probability_work n s modes (all_qubits n) (basis_bits n low high) w
        by true e =
            let p = (questions.asked n s modes e).permutation in
            rw (e, bits-fine, reads_all modes p) (work-alike n _ _ (marks-alike modes p) w)
        by false e = rw e
