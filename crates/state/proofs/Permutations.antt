-- Laws of the mode table: a turn of the loop that marks the modes it has met; and of a permutation: every mode below n is the mode of exactly one
-- qubit below n. Assumes nothing.
use borrow.Author.Tests.{not-true}
use Rattle.std.proofs.lemmas.Bool.{and_parts, cases_lt, cases_eq}
use Rattle.std.proofs.Common.{◌≡◌, ℕ, zero, suc, ◌+◌, ◌<◌, ◌≤◌, Bool, true, false, not, ◌&&◌, eqb, ltb, leb, ◌≢◌, ◌⊎◌, List, [], ◌∷◌, length, get_or, set, take, sym, refl, ap, ◌∙◌, inl, inr, le_antisymm, add-one, arith, length-set, get_or-set_other, get_or-set_same, ltb-true, lt-ltb, eq-eqb, ne_eqb, eqb-true, leb-true}
use mathlib.Core.Bool.{false≢true, and-true, and-false}
use Rattle.laws.specs.Tests.{all_below}
use Rattle.laws.specs.Tables.{mode_at}
use Rattle.laws.proofs.Tests.{all-each, all_of, all_same}
use Rattle.std.proofs.lemmas.List.{get_or-take}
use Rattle.state.specs.Modes.{unused, mode_ok, is_permutation}
use Rattle.state.specs.Parts.{Marked}

-- ---- the marks: mode k is marked exactly if a qubit before q has it

-- a list with no mark, by a test that computes
abbrev none_set : List Bool → Bool
none_set [] = true
none_set (x ∷ l) = not x && none_set l

pub none-set : (l : List Bool) → none_set l ≡ true → (k : ℕ) → get_or l k false ≡ false
none-set [] e k = refl
none-set (x ∷ l) e zero = not-true x (and_parts (not x) (none_set l) e).0
none-set (x ∷ l) e (suc k) = none-set l (and_parts (not x) (none_set l) e).1 k

pub marked-none : (l : List ℕ) (seen : List Bool) → ((k : ℕ) → get_or seen k false ≡ false) → Marked l 0 seen
unfolding all_below
marked-none l seen h k g = h k

pub marked_more : (l : List ℕ) (q k : ℕ) (seen : List Bool) → k ≡ mode_at l q → Marked l q seen → Marked l (q + 1) (set seen k true)
unfolding all_below
marked_more l q k seen e w j h = rw add-one (by (cases_eq j k))
  where
    h' : j < length seen
    h' = simp length-set at h

    by : (j ≡ k) ⊎ (j ≢ k) → get_or (set seen k true) j false ≡ not (unused l q j && not (eqb (mode_at l q) j))
    by (inl f) =
        rw (eq-eqb (mode_at l q) j (sym e ∙ sym f))
        (ap (λ n. get_or (set seen k true) n false) f ∙ get_or-set_same seen k true false (omega (arith, h')) ∙ ap not (sym (and-false (unused l q j))))
    by (inr ne) =
        rw (ne_eqb (mode_at l q) j (λ f. ne (sym f ∙ sym e))) (get_or-set_other seen k j true false ne ∙ w j h' ∙ ap not (sym (and-true (unused l q j))))

-- ---- a permutation

-- entries below n, none of which is an earlier one
pub modes-fit : (n : ℕ) (l : List ℕ) → ((q : ℕ) → q < n → mode_at l q < n)
    → ((p q : ℕ) → p < q → q < n → mode_at l p ≢ mode_at l q) → all_below (mode_ok n l) n ≡ true
modes-fit n l below apart =
    all_of (mode_ok n l) n (λ q h.
    rw (lt-ltb (mode_at l q) n (below q h))
    (all_of (λ p. not (eqb (mode_at l p) (mode_at l q))) q (λ p g. ap not (ne_eqb (mode_at l p) (mode_at l q) (apart p q g h)))))

-- the table in which each entry is its own number is one
pub identity-ok : (n : ℕ) (l : List ℕ) → all_below (λ q. eqb (mode_at l q) q) n ≡ true → all_below (mode_ok n l) n ≡ true
identity-ok n l e = modes-fit n l (λ q h. omega (arith, own q h)) (λ p q g h y. omega (arith, own q h, own p (omega arith), y))
  where
    own : (q : ℕ) → q < n → mode_at l q ≡ q
    own q h = eqb-true (mode_at l q) q (all-each (λ q. eqb (mode_at l q) q) n q e h)

-- the first n entries say it as the whole table does
pub mode-front : (n : ℕ) (l : List ℕ) → all_below (mode_ok n (take n l)) n ≡ all_below (mode_ok n l) n
mode-front n l = all_same _ _ n one
  where
    one : (q : ℕ) → q < n → mode_ok n (take n l) q ≡ mode_ok n l q
    one q h =
        let e : mode_at (take n l) q ≡ mode_at l q = get_or-take n l q 0 h in
        (λ t. ltb (e t) n && unused (take n l) q (e t))
        ∙ ap (λ b. ltb (mode_at l q) n && b)
        (all_same _ _ q (λ p g. ap (λ x. not (eqb x (mode_at l q))) (get_or-take n l p 0 (omega arith))))

not_eqb : (a b : ℕ) → not (eqb a b) ≡ true → a ≢ b
not_eqb a b e q = absurd (false≢true (ap not (sym (eq-eqb a b q)) ∙ e))

module _ (n : ℕ) (l : List ℕ) (p : is_permutation n l ≡ true) where
  pub table-long : n ≤ length l
  unfolding is_permutation
  table-long = leb-true n (length l) (and_parts (leb n (length l)) (all_below (mode_ok n l) n) p).0

  pub ok : (q : ℕ) → q < n → mode_ok n l q ≡ true
  unfolding is_permutation
  ok q h = all-each (mode_ok n l) n q (and_parts (leb n (length l)) (all_below (mode_ok n l) n) p).1 h

  -- a mode is below n
  pub mode-below : (q : ℕ) → q < n → mode_at l q < n
  mode-below q h = ltb-true (mode_at l q) n (and_parts (ltb (mode_at l q) n) (unused l q (mode_at l q)) (ok q h)).0

  earlier : (r q : ℕ) → r < q → q < n → mode_at l r ≢ mode_at l q
  earlier r q h g =
      not_eqb (mode_at l r) (mode_at l q)
      (all-each (λ r. not (eqb (mode_at l r) (mode_at l q))) q r (and_parts (ltb (mode_at l q) n) (unused l q (mode_at l q)) (ok q g)).1 h)

  -- no two qubits have one mode
  pub mode-one : (r q : ℕ) → r < n → q < n → mode_at l r ≡ mode_at l q → r ≡ q
  mode-one r q h g e = by (cases_lt r q) (cases_lt q r)
    where
      by : (r < q) ⊎ (q ≤ r) → (q < r) ⊎ (r ≤ q) → r ≡ q
      by (inl a) _ = absurd (earlier r q a g e)
      by (inr _) (inl b) = absurd (earlier q r b h (sym e))
      by (inr a) (inr b) = le_antisymm b a
