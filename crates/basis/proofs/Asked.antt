-- What a list of qubits with bits says of modes, against the register: if no listed qubit differs, then no mode differs from what is noted of it; if
-- one differs, then a mode does. Where the list stops at a contradiction, one of the two bits asked is not the register's. Assumes nothing.
use mathlib.Core.Path.{◌≡◌, refl, sym, ap, ◌∙◌}
use mathlib.Core.Logic.{◌⊎◌, inl, inr, ◌≢◌}
use mathlib.Core.Bool.{Bool, true, false, not, cond, ◌&&◌, ◌||◌, and-false, false≢true}
use mathlib.Core.List.{List, [], ◌∷◌}
use Prim.Native.Nat.{ℕ, zero, suc, ◌≤◌, ◌<◌}
use native.Mathlib.Nat.{not-suc-le-zero, le_refl}
use native.Mathlib.Numerals.{add-one}
use native.Mathlib.Omega.{arith}
use lib.Dec.{eqb, ltb, eqb-suc-zero}
use lib.ListN.{length, get_or}
use borrow.Author.Tests.{eq-eqb, ne_eqb, eqb-true, eqb-false, lt-ltb, ltb-true, lt-leb, leb-false}
use Rattle.laws.specs.Matrix.{Mat}
use Rattle.std.proofs.lemmas.Bool.{cases_eq, or_parts, cond_both}
use Rattle.pfaffian.specs.Shot.{bit}
use Rattle.state.proofs.Permutations.{mode-below}
use Rattle.queries.specs.Lists.{mode_listed, outside, noted, conflicts_of, contradicts, bits_ok, bit_listed, stop_place, asked}
use Rattle.queries.proofs.Marking.{noted_here, bits-asked}
use Rattle.basis.specs.Holds.{Reads}
use Rattle.basis.specs.Answers.{differs}
use Rattle.queries.proofs.Stopping.{noted-place, listed_below, no-contradiction, stops, stop_hit}

-- ---- the places of a list

module _ (n : ℕ) (r : ℕ → Bool) where
  -- no place differs: each that lists a qubit below n asks for its bit
  pub differs-each : (qs xs : List ℕ) → length qs ≡ length xs → differs n r qs xs ≡ false
      → (j : ℕ) → j < length qs → get_or qs j 0 < n → get_or xs j 0 ≡ bit (r (get_or qs j 0))
  unfolding differs
  differs-each [] xs e d j h g = absurd (not-suc-le-zero h)
  differs-each (q ∷ qs) [] e d j h g = absurd (omega arith)
  differs-each (q ∷ qs) (x ∷ xs) e d zero h g = sym (by (eqb (bit (r q)) x) refl (or_parts _ (differs n r qs xs) d).0)
    where
      by : (t : Bool) → eqb (bit (r q)) x ≡ t → (ltb q n && not t) ≡ false → bit (r q) ≡ x
      by true f c = eqb-true (bit (r q)) x f
      by false f c = absurd (false≢true (sym c ∙ rw (lt-ltb q n g)))
  differs-each (q ∷ qs) (x ∷ xs) e d (suc j) h g =
      differs-each qs xs (omega arith) (or_parts (ltb q n && not (eqb (bit (r q)) x)) (differs n r qs xs) d).1 j (omega arith) g

  -- a place that lists a qubit below n and does not ask for its bit
  pub record Other (qs xs : List ℕ) : Type 0 where
    pub at : ℕ
    pub within : at < length qs
    pub below : get_or qs at 0 < n
    pub other : get_or xs at 0 ≢ bit (r (get_or qs at 0))

  pub differs-some : (qs xs : List ℕ) → differs n r qs xs ≡ true → Other qs xs
  unfolding differs
  differs-some [] xs d = absurd (false≢true d)
  differs-some (q ∷ qs) [] d = absurd (false≢true d)
  differs-some (q ∷ qs) (x ∷ xs) d = by (ltb q n) (eqb (bit (r q)) x) refl refl d (differs-some qs xs)
    where
      later : Other qs xs → Other (q ∷ qs) (x ∷ xs)
      later o = record { at = suc o.at; within = omega (arith, o.within); below = o.below; other = o.other }

      by : (s t : Bool) → ltb q n ≡ s → eqb (bit (r q)) x ≡ t → ((s && not t) || differs n r qs xs) ≡ true
          → (differs n r qs xs ≡ true → Other qs xs) → Other (q ∷ qs) (x ∷ xs)
      by true false e f d o = record { at = 0; within = omega arith; below = ltb-true q n e; other = λ z. eqb-false (bit (r q)) x f (sym z) }
      by true true e f d o = later (o d)
      by false t e f d o = later (o d)

-- ---- what is noted

fine : (y : ℕ) → conflicts_of (suc y) (suc y) ≡ false
fine y = rw (eq-eqb (suc y) (suc y) refl) (and-false (ltb 0 (suc y)))

clash : (y z : ℕ) → y ≢ z → conflicts_of (suc y) (suc z) ≡ true
clash y z ne =
    let above : ltb 0 (suc y) ≡ true = lt-ltb 0 (suc y) (omega arith) in
    let apart : suc y ≢ suc z = λ e. ne (omega arith) in
    rw (above, ne_eqb (suc y) (suc z) apart)

module _ (m x : ℕ → ℕ) where
  -- each place asks its mode for the bit it has: nothing else is noted
  noted-agrees : (b : ℕ → Bool) (i k : ℕ) → ((j : ℕ) → j < i → x j ≡ bit (b (m j))) → conflicts_of (noted m x i k) (suc (bit (b k))) ≡ false
  unfolding noted
  noted-agrees b zero k h = refl
  noted-agrees b (suc i) k h = by (eqb (noted m x i k) 0) (eqb (m i) k) refl (noted-agrees b i k (λ j g. h j (omega arith)))
    where
      by : (s t : Bool) → eqb (m i) k ≡ t → conflicts_of (noted m x i k) (suc (bit (b k))) ≡ false
          → conflicts_of (cond (s && t) (suc (x i)) (noted m x i k)) (suc (bit (b k))) ≡ false
      by true true e c =
          ap (λ y. conflicts_of (suc y) (suc (bit (b k)))) (h i (le_refl (suc i)) ∙ ap (λ k. bit (b k)) (eqb-true (m i) k e)) ∙ fine (bit (b k))
      by true false e c = c
      by false t e c = c

-- ---- the list of a marginal on a basis state

module _ (n : ℕ) (b r : ℕ → Bool) (e : Mat) (modes : List ℕ) (R : Reads n b r e modes) (qs xs : List ℕ) (ok : bits_ok qs xs ≡ true) where
  abbrev m : ℕ → ℕ
  m = mode_listed modes qs

  abbrev x : ℕ → ℕ
  x = bit_listed xs

  -- the qubit's bit is its mode's
  place-agrees : differs n r qs xs ≡ false → (j : ℕ) → j < length qs → get_or qs j 0 < n → x j ≡ bit (b (m j))
  place-agrees d j h g = differs-each n r qs xs (bits-asked qs xs ok).many d j h g ∙ ap bit (sym (R.bits (get_or qs j 0) g))

  -- a contradiction: both bits were asked of one qubit
  pub stopped-differs : stop_place n modes qs xs < length qs → get_or qs (stop_place n modes qs xs) 0 < n → differs n r qs xs ≡ true
  stopped-differs h g = by (differs n r qs xs) refl
    where
      place : ℕ
      place = stop_place n modes qs xs

      by : (t : Bool) → differs n r qs xs ≡ t → t ≡ true
      by true d = refl
      by false d = absurd (false≢true (sym agreed ∙ stop_hit n modes qs xs h))
        where
          agreed : stops n modes qs xs place ≡ false
          agreed = rw (lt-leb n (get_or qs place 0) g)
              (ap (λ y. conflicts_of (noted m x place (m place)) (suc y)) (place-agrees d place h g)
              ∙ noted-agrees m x b place (m place) (λ j l. place-agrees d j (omega arith) (listed_below n modes qs xs j l)))

  module _ (h : length qs ≤ stop_place n modes qs xs) where
    -- no qubit differs: no mode does
    pub asked-agrees : differs n r qs xs ≡ false → (k : ℕ) → conflicts_of (asked modes qs xs k) (suc (bit (b k))) ≡ false
    asked-agrees d k = noted-agrees m x b (length qs) k (λ j l. place-agrees d j l (listed_below n modes qs xs j (omega arith)))

    -- a qubit differs: its mode does
    pub asked-differs : differs n r qs xs ≡ true → (k : ℕ) × ((k < n) × (conflicts_of (asked modes qs xs k) (suc (bit (b k))) ≡ true))
    asked-differs d =
        let o = differs-some n r qs xs d in
        let j = o.at in
        let y = bit (b (m j)) in
        let there : asked modes qs xs (m j) ≡ suc (x j) = noted-place m x (length qs) j o.within (no-contradiction n modes qs xs j (omega (arith, o.within))) in
        let ne : x j ≢ y = λ z. o.other (z ∙ ap bit (R.bits (get_or qs j 0) o.below)) in
        (m j, (mode-below n modes R.table (get_or qs j 0) o.below, ap (λ t. conflicts_of t (suc y)) there ∙ clash (x j) y ne))
