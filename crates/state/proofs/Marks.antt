-- The modes of all qubits marked: every number below n is marked exactly if they are a permutation. Assumes nothing.
use Rattle.std.proofs.lemmas.Bool.{and_parts}
use Rattle.std.proofs.Common.{◌≡◌, ℕ, ◌<◌, ◌≤◌, Bool, true, false, not, eqb, ltb, ◌≢◌, List, length, get_or, sym, refl, ap, ◌∙◌, arith, eq-eqb, ne_eqb, le-leb}
use mathlib.Core.Bool.{false≢true}
use Rattle.laws.specs.Tables.{mode_at}
use Rattle.laws.specs.Tests.{all_below}
use Rattle.laws.proofs.Tests.{all-each, all_of, all-fails}
use Rattle.state.specs.Modes.{unused, mode_ok, is_permutation}
use Rattle.state.specs.Parts.{Marked}
use Rattle.state.proofs.Inverse.{every-met, qubit-below, qubit-mode}

module _ (n : ℕ) (l : List ℕ) (seen : List Bool) (long : n ≤ length l) (room : n ≤ length seen) (w : Marked l n seen)
    (below : (q : ℕ) → q < n → mode_at l q < n) where
  -- a marked number is met, and one that is met is marked
  some : (k : ℕ) → k < n → get_or seen k false ≡ true → ((q : ℕ) → q < n → mode_at l q ≢ k) → ⊥
  some k h e none =
      false≢true (ap not (sym (all_of (λ p. not (eqb (mode_at l p) k)) n (λ q g. ap not (ne_eqb (mode_at l q) k (none q g))))) ∙ sym (w k (omega arith)) ∙ e)

  set : is_permutation n l ≡ true → (k : ℕ) → k < n → get_or seen k false ≡ true
  set p k h =
      w k (omega arith)
      ∙ ap not (sym (all-fails (λ p. not (eqb (mode_at l p) k)) n _ (qubit-below n l p k h) (ap not (eq-eqb _ k (qubit-mode n l p k h)))))

  pub marks-all : all_below (λ k. get_or seen k false) n ≡ all_below (mode_ok n l) n
  unfolding is_permutation
  marks-all = by _ refl
    where
      unless : (t : Bool) → t ≡ all_below (mode_ok n l) n → all_below (λ k. get_or seen k false) n ≡ false → false ≡ t
      unless false e ne = refl
      unless true e ne = absurd (false≢true (sym ne ∙ all_of (λ k. get_or seen k false) n (set (rw (le-leb n (length l) long, ← e)))))

      by : (t : Bool) → t ≡ all_below (λ k. get_or seen k false) n → all_below (λ k. get_or seen k false) n ≡ all_below (mode_ok n l) n
      by true e = sym e ∙ sym (every-met n l (λ k h. some k h (all-each (λ k. get_or seen k false) n k (sym e) h)) below)
      by false e = sym e ∙ unless _ refl (sym e)

-- where a mode is not below n, they are not
pub not-below : (n : ℕ) (l : List ℕ) → all_below (λ q. ltb (mode_at l q) n) n ≡ false → false ≡ all_below (mode_ok n l) n
not-below n l e = by _ refl
  where
    by : (t : Bool) → t ≡ all_below (mode_ok n l) n → false ≡ t
    by false f = refl
    by true f =
        absurd (false≢true (sym e
        ∙ all_of (λ q. ltb (mode_at l q) n) n (λ q h. (and_parts (ltb (mode_at l q) n) (unused l q (mode_at l q)) (all-each (mode_ok n l) n q (sym f) h)).0)))
