-- Where the list of a marginal stops: before the place no two places ask one qubit for two bits, and if the place is a contradiction two up to it do. Assumes
-- nothing.
use mathlib.Core.Path.{◌≡◌, refl, sym, ap, ◌∙◌, subst}
use mathlib.Core.Logic.{◌⊎◌, inl, inr, ◌≢◌}
use mathlib.Core.Bool.{Bool, true, false, not, cond, ◌&&◌, ◌||◌, or-true, false≢true}
use mathlib.Core.List.{List}
use Prim.Native.Nat.{ℕ, zero, suc, ◌≤◌, ◌<◌}
use native.Mathlib.Nat.{le_antisymm, le_refl}
use native.Mathlib.Omega.{arith}
use lib.Dec.{eqb, leb, ltb}
use lib.ListN.{get_or, length}
use lib.Ieee.{Float}
use borrow.Author.Tests.{eq-eqb, ne_eqb, eqb-true, eqb-false, le-leb, lt-leb, lt-ltb, le-ltb, not-true, not-false}
use Rattle.std.proofs.lemmas.Bool.{and_parts, cases_eq, cases_lt}
use Rattle.laws.specs.Tables.{mode_at}
use Rattle.laws.specs.Tests.{all_below}
use Rattle.laws.proofs.Tests.{all_of, all-fails}
use Rattle.state.specs.Modes.{is_permutation}
use Rattle.state.proofs.Permutations.{mode-one}
use Rattle.queries.specs.Lists.{mode_listed, noted, conflicts_of, contradicts, bit_listed, stop_place, asked, noted_modes}
use Rattle.queries.proofs.Stopping.{listed_below, no-contradiction, stop_hit, noted-place}
use Rattle.queries.specs.Products.{dim_left}
use Rattle.queries.specs.Calls.{work_ok}
use Rattle.claim.specs.Questions.{has_places, left_of_marginal, contradict, agree, read_qubits_exist}
use Rattle.claim.proofs.Left.{marginal-left}

-- ---- where the list of a marginal stops

agreeing : (a b : ℕ) → conflicts_of (suc a) (suc b) ≡ false → a ≡ b
agreeing a b c =
    let yes : ltb 0 (suc a) ≡ true = lt-ltb 0 (suc a) (omega arith) in
    omega (arith, eqb-true (suc a) (suc b) (not-false (eqb (suc a) (suc b)) (rw yes at c)))

-- what is noted stands at a place
noted-from : (m x : ℕ → ℕ) (i k y : ℕ) → noted m x i k ≡ suc y → (j : ℕ) × ((j < i) × (m j ≡ k) × (x j ≡ y))
unfolding noted
noted-from m x zero k y e = absurd (omega (arith, e))
noted-from m x (suc i) k y e = by (eqb (noted m x i k) 0) (eqb (m i) k) refl e (noted-from m x i k y)
  where
    later : (j : ℕ) × ((j < i) × (m j ≡ k) × (x j ≡ y)) → (j : ℕ) × ((j < suc i) × (m j ≡ k) × (x j ≡ y))
    later w = (w.0, (omega (arith, w.1.0), w.1.1, w.1.2))

    by : (s t : Bool) → eqb (m i) k ≡ t → cond (s && t) (suc (x i)) (noted m x i k) ≡ suc y
        → (noted m x i k ≡ suc y → (j : ℕ) × ((j < i) × (m j ≡ k) × (x j ≡ y))) → (j : ℕ) × ((j < suc i) × (m j ≡ k) × (x j ≡ y))
    by true true f e rest = (i, (omega arith, eqb-true (m i) k f, omega (arith, e)))
    by true false f e rest = later (rest e)
    by false t f e rest = later (rest e)

module _ (n : ℕ) (modes : List ℕ) (p : is_permutation n modes ≡ true) (qs xs : List ℕ) where
  abbrev place : ℕ
  place = stop_place n modes qs xs

  abbrev m : ℕ → ℕ
  m = mode_listed modes qs

  abbrev x : ℕ → ℕ
  x = bit_listed xs

  -- the places before it agree
  stop-agrees : (i : ℕ) → i ≤ place → agree qs xs i ≡ true
  unfolding agree
  stop-agrees i h =
      all_of _ i (λ k l.
      all_of (λ j. not (contradict qs xs j k)) k (λ j g. ap not (fine j k g (omega (arith, h, l)) (cases_eq (get_or qs j 0) (get_or qs k 0)))))
    where
      fine : (j k : ℕ) → j < k → k < place → (get_or qs j 0 ≡ get_or qs k 0) ⊎ (get_or qs j 0 ≢ get_or qs k 0) → contradict qs xs j k ≡ false
      fine j k g l (inr d) = rw (ne_eqb (get_or qs j 0) (get_or qs k 0) d) refl
      fine j k g l (inl e) = rw (eq-eqb (get_or qs j 0) (get_or qs k 0) e) (ap not (eq-eqb (x j) (x k) (agreeing (x j) (x k) clash)))
        where
          there : noted m x k (m k) ≡ suc (x j)
          there = ap (noted m x k) (ap (mode_at modes) (sym e)) ∙ noted-place m x k j g (no-contradiction n modes qs xs j (omega (arith, g, l)))

          clash : conflicts_of (suc (x j)) (suc (x k)) ≡ false
          clash = ap (λ y. conflicts_of y (suc (x k))) (sym there) ∙ no-contradiction n modes qs xs k l

  -- a contradiction at the place: the places up to it do not agree
  stop-contradicts : place < length qs → get_or qs place 0 < n → (i : ℕ) → place < i → agree qs xs i ≡ false
  unfolding agree
  stop-contradicts h below i g =
      sym (all-fails (λ k. all_below (λ j. not (contradict qs xs j k)) k) i place g
      (sym (all-fails (λ j. not (contradict qs xs j place)) place other.0 other.1.0 (ap not clash))))
    where
      hit : contradicts m x place ≡ true
      hit = rw (lt-leb n (get_or qs place 0) below) at (stop_hit n modes qs xs h)

      other : (j : ℕ) × ((j < place) × (m j ≡ m place) × (x j ≢ x place))
      other = from (noted m x place (m place)) refl hit
        where
          from : (y : ℕ) → noted m x place (m place) ≡ y → conflicts_of y (suc (x place)) ≡ true → (j : ℕ) × ((j < place) × (m j ≡ m place) × (x j ≢ x place))
          from zero e c = absurd (false≢true c)
          from (suc y) e c =
              let w = noted-from m x place (m place) y e in
              let apart : eqb (suc y) (suc (x place)) ≡ false = not-true (eqb (suc y) (suc (x place))) (and_parts (ltb 0 (suc y)) _ c).1 in
              (w.0, (w.1.0, w.1.1, λ q. eqb-false (suc y) (suc (x place)) apart (ap suc (sym w.1.2 ∙ q))))

      clash : contradict qs xs other.0 place ≡ true
      clash =
          rw (
            eq-eqb (get_or qs other.0 0) (get_or qs place 0)
                (mode-one n modes p (get_or qs other.0 0) (get_or qs place 0) (listed_below n modes qs xs other.0 other.1.0) below other.1.1),
            ne_eqb (get_or xs other.0 0) (get_or xs place 0) other.1.2,
          )
          refl

  -- ---- 19 and 20 of a marginal

  pub marginal-asked : (w : List Float)
      → cond (ltb place (length qs)) (not (leb n (get_or qs place 0))) (work_ok (dim_left (noted_modes n (asked modes qs xs))) w)
      ≡ (read_qubits_exist n qs xs && (not (agree qs xs (length qs)) || has_places (left_of_marginal n qs) w))
  marginal-asked w = by (cases_lt place (length qs)) (cases_lt (get_or qs place 0) n)
    where
      exist : (j : ℕ) → get_or qs j 0 < n → (not (agree qs xs j) || ltb (get_or qs j 0) n) ≡ true
      exist j l = rw (lt-ltb (get_or qs j 0) n l) (or-true (not (agree qs xs j)))

      by : (place < length qs) ⊎ (length qs ≤ place) → (get_or qs place 0 < n) ⊎ (n ≤ get_or qs place 0)
          → cond (ltb place (length qs)) (not (leb n (get_or qs place 0))) (work_ok (dim_left (noted_modes n (asked modes qs xs))) w)
          ≡ (read_qubits_exist n qs xs && (not (agree qs xs (length qs)) || has_places (left_of_marginal n qs) w))
      -- no place stops it
      by (inr h) b =
          rw (
            le-ltb place (length qs) h,
            all_of _ (length qs) (λ j l. exist j (listed_below n modes qs xs j (omega (arith, h, l)))),
            stop-agrees (length qs) h,
            marginal-left n modes p qs (λ j l. listed_below n modes qs xs j (omega (arith, h, l))) xs,
          )
          refl
      -- a qubit that is not there
      by (inl h) (inr b) =
          rw (
            lt-ltb place (length qs) h,
            le-leb n (get_or qs place 0) b,
            sym
                (all-fails (λ j. not (agree qs xs j) || ltb (get_or qs j 0) n) (length qs) place h
                (rw (stop-agrees place (le_refl place), le-ltb (get_or qs place 0) n b) refl)),
          )
          refl
      -- a contradiction
      by (inl h) (inl b) =
          rw (
            lt-ltb place (length qs) h,
            lt-leb n (get_or qs place 0) b,
            stop-contradicts h b (length qs) h,
            all_of _ (length qs) (λ j l. read j (cases_lt j place) (cases_lt place j)),
          )
          refl
        where
          read : (j : ℕ) → (j < place) ⊎ (place ≤ j) → (place < j) ⊎ (j ≤ place) → (not (agree qs xs j) || ltb (get_or qs j 0) n) ≡ true
          read j (inl c) d = exist j (listed_below n modes qs xs j c)
          read j (inr c) (inl d) = rw (stop-contradicts h b j d) refl
          read j (inr c) (inr d) = exist j (subst (λ (i : ℕ). get_or qs i 0 < n) (le_antisymm c d) b)
