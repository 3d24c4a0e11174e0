-- In a mode table as many modes pass a test as qubits have a mode that does. Assumes nothing.
use mathlib.Core.Path.{◌≡◌, refl, sym, ap, ◌∙◌}
use mathlib.Core.Logic.{◌⊎◌, inl, inr, ◌≢◌}
use mathlib.Core.Bool.{Bool, true, false, not, cond, ◌&&◌, and-true, and-false}
use mathlib.Core.List.{List}
use Prim.Native.Nat.{ℕ, zero, suc, ◌+◌, ◌≤◌, ◌<◌}
use native.Mathlib.Nat.{le_refl, zero-add}
use native.Mathlib.Omega.{arith}
use lib.Dec.{eqb, ltb}
use borrow.Author.Tests.{eq-eqb, ne_eqb}
use Rattle.std.proofs.lemmas.Bool.{and_parts, cases_eq}
use Rattle.laws.specs.Tables.{mode_at}
use Rattle.laws.specs.Tests.{all_below, count}
use Rattle.laws.proofs.Tests.{all-fails, count_same, count-none, count-apart}
use Rattle.state.specs.Modes.{unused, is_permutation, qubit_at}
use Rattle.state.proofs.Permutations.{ok, mode-below}
use Rattle.state.proofs.Inverse.{qubit-below, qubit-mode}

module _ (n : ℕ) (l : List ℕ) (p : is_permutation n l ≡ true) (f : ℕ → Bool) where
  -- mode k is of one of the first i qubits, and passes
  abbrev counted : ℕ → ℕ → Bool
  counted i k = not (unused l i k) && f k

  so-far : (i : ℕ) → i ≤ n → count (counted i) n ≡ count (λ q. f (mode_at l q)) i
  unfolding all_below count
  so-far zero h = count-none (counted 0) n (λ k g. refl)
  so-far (suc i) h = by (f (mode_at l i)) refl (so-far i (omega arith))
    where
      away : (k : ℕ) → k ≢ mode_at l i → counted (suc i) k ≡ counted i k
      away k ne = rw (ne_eqb (mode_at l i) k (λ e. ne (sym e)), and-true (unused l i k))

      here : counted (suc i) (mode_at l i) ≡ f (mode_at l i)
      here = rw (eq-eqb (mode_at l i) (mode_at l i) refl, and-false (unused l i (mode_at l i)))

      not-yet : counted i (mode_at l i) ≡ false
      not-yet = rw (and_parts (ltb (mode_at l i) n) (unused l i (mode_at l i)) (ok n l p i (omega arith))).1

      by : (t : Bool) → f (mode_at l i) ≡ t → count (counted i) n ≡ count (λ q. f (mode_at l q)) i
          → count (counted (suc i)) n ≡ cond (f (mode_at l i)) 1 0 + count (λ q. f (mode_at l q)) i
      by true e was =
          rw e
          (count-apart (counted (suc i)) (counted i) (mode_at l i) n (mode-below n l p i (omega arith)) away (here ∙ e) not-yet
          ∙ omega (arith, was))
      by false e was = rw (e, zero-add (count (λ q. f (mode_at l q)) i)) (count_same (counted (suc i)) (counted i) n (λ k g. same k) ∙ was)
        where
          same : (k : ℕ) → counted (suc i) k ≡ counted i k
          same k = at (cases_eq k (mode_at l i))
            where
              at : (k ≡ mode_at l i) ⊎ (k ≢ mode_at l i) → counted (suc i) k ≡ counted i k
              at (inl q) = ap (counted (suc i)) q ∙ here ∙ e ∙ sym (ap (counted i) q ∙ not-yet)
              at (inr ne) = away k ne

  pub modes-counted : count f n ≡ count (λ q. f (mode_at l q)) n
  modes-counted = count_same f (counted n) n all ∙ so-far n (le_refl n)
    where
      all : (k : ℕ) → k < n → f k ≡ counted n k
      all k h =
          rw (sym (all-fails (λ q. not (eqb (mode_at l q) k)) n (qubit_at n l k) (qubit-below n l p k h)
          (ap not (eq-eqb (mode_at l (qubit_at n l k)) k (qubit-mode n l p k h))))) refl
