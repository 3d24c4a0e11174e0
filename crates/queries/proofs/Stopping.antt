-- Where the list of a marginal stops, and what is noted up to there. Assumes nothing.
use mathlib.Core.Path.{◌≡◌, refl, sym, ap, ◌∙◌}
use mathlib.Core.Logic.{◌⊎◌, inl, inr, ◌≢◌}
use mathlib.Core.Bool.{Bool, true, false, ◌&&◌, ◌||◌}
use mathlib.Core.List.{List}
use Prim.Native.Nat.{ℕ, zero, suc, ◌≤◌, ◌<◌}
use native.Mathlib.Nat.{not-suc-le-zero, le_refl}
use native.Mathlib.Numerals.{add-one}
use native.Mathlib.Omega.{arith}
use lib.Dec.{eqb, eqb-suc-zero}
use lib.ListN.{length, get_or}
use borrow.Author.Tests.{leb-false}
use Rattle.std.proofs.lemmas.Bool.{cases_eq, or_parts, cond_both}
use Rattle.queries.specs.Lists.{mode_listed, outside, noted, contradicts, bits_ok, bit_listed, stop_place, asked}
use Rattle.queries.proofs.Marking.{noted_here, bits-asked}
use Rattle.queries.proofs.First.{first-before, first_passes}

-- ---- what is noted

module _ (m x : ℕ → ℕ) where
  pub noted_small : (i k : ℕ) → ((j : ℕ) → j < i → x j ≤ 1) → noted m x i k ≤ 2
  unfolding noted
  noted_small zero k h = omega arith
  noted_small (suc i) k h =
      cond_both (eqb (noted m x i k) 0 && eqb (m i) k) _ _ (λ z. z ≤ 2)
      (λ _. omega (arith, h i (le_refl (suc i)))) (λ _. (noted_small i k (λ j g. h j (omega arith))))

  -- what is noted stays: it is the bit of every place that contradicts nothing
  pub noted-place : (i j : ℕ) → j < i → contradicts m x j ≡ false → noted m x i (m j) ≡ suc (x j)
  unfolding noted
  noted-place zero j h c = absurd (not-suc-le-zero h)
  noted-place (suc i) j h c = by (cases_eq j i) (noted-place i j)
    where
      by : (j ≡ i) ⊎ (j ≢ i) → (j < i → contradicts m x j ≡ false → noted m x i (m j) ≡ suc (x j)) → noted m x (suc i) (m j) ≡ suc (x j)
      by (inl q) f = ap (λ i. noted m x (suc i) (m j)) (sym q) ∙ rw add-one at (noted_here m x j (m j) refl c)
      by (inr q) f = rw (f (omega arith) c, eqb-suc-zero (x j))

-- ---- where the list of a marginal stops

module _ (n : ℕ) (modes qs xs : List ℕ) where
  abbrev pub stops : ℕ → Bool
  stops j = outside n qs j || contradicts (mode_listed modes qs) (bit_listed xs) j

  -- nothing stops before the place
  module _ (j : ℕ) (h : j < stop_place n modes qs xs) where
    passed : stops j ≡ false
    unfolding stop_place
    passed = first-before stops (length qs) 0 j (omega arith) h

    pub listed_below : get_or qs j 0 < n
    listed_below = leb-false n (get_or qs j 0) (or_parts (outside n qs j) (contradicts (mode_listed modes qs) (bit_listed xs) j) passed).0

    pub no-contradiction : contradicts (mode_listed modes qs) (bit_listed xs) j ≡ false
    no-contradiction = (or_parts (outside n qs j) (contradicts (mode_listed modes qs) (bit_listed xs) j) passed).1

  pub stop_hit : stop_place n modes qs xs < length qs → stops (stop_place n modes qs xs) ≡ true
  unfolding stop_place
  stop_hit h = first_passes stops (length qs) 0 (omega arith)

-- marks are 0, 1 or 2
pub asked-small : (modes qs xs : List ℕ) → bits_ok qs xs ≡ true → (k : ℕ) → asked modes qs xs k ≤ 2
asked-small modes qs xs ok k =
    noted_small (mode_listed modes qs) (bit_listed xs) (length qs) k (λ j l. (bits-asked qs xs ok).small j (omega (arith, (bits-asked qs xs ok).many)))
