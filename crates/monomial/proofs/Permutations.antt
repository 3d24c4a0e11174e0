-- Tests on signed permutations that compute, over the width: no two rows have their entry in one column, and one matrix of whole numbers is carried
-- to another. Assumes nothing.
use mathlib.Core.Path.{◌≡◌}
use mathlib.Core.Bool.{Bool, true, false, not, ◌||◌}
use Prim.Native.Nat.{ℕ, ◌<◌}
use lib.Dec.{T, eqb, eqb→eq}
use lib.IntN.{ℤ}
use lib.Ieee.Fits.{eq→eqb}
use Rattle.laws.specs.Dyadic.{eq_z}
use Rattle.monomial.specs.Basis.{Signed, permuted}
use Rattle.monomial.proofs.Known.{eq_z→}
use Rattle.monomial.proofs.Tests.{every_place, at_place}

abbrev pub distinct : ℕ → (ℕ → Signed) → Bool
distinct k p = every_place k (λ i. every_place k (λ j. eqb i j || not (eqb (p i).at (p j).at)))

abbrev pub carries : ℕ → (ℕ → Signed) → (ℕ → ℕ → ℤ) → (ℕ → ℕ → ℤ) → Bool
carries k p v w = every_place k (λ i. every_place k (λ j. eq_z (permuted p v i j) (w i j)))

-- a test of all pairs of places
pairs : (k : ℕ) (t : ℕ → ℕ → Bool) → T (every_place k (λ i. every_place k (t i))) → (i j : ℕ) → i < k → j < k → T (t i j)
pairs k t h i j a b = at_place k (t i) (at_place k (λ i. every_place k (t i)) h i a) j b

pub distinct-is : (k : ℕ) (p : ℕ → Signed) → T (distinct k p) → (i j : ℕ) → i < k → j < k → (p i).at ≡ (p j).at → i ≡ j
distinct-is k p t i j a b e =
    by (eqb i j) (eqb→eq i j) (eqb (p i).at (p j).at) (eq→eqb e) (pairs k (λ i j. eqb i j || not (eqb (p i).at (p j).at)) t i j a b)
  where
    by : (x : Bool) → (T x → i ≡ j) → (y : Bool) → T y → T (x || not y) → i ≡ j
    by true f y h g = f tt
    by false f true h g = absurd g
    by false f false h g = absurd h

pub carries-is : (k : ℕ) (p : ℕ → Signed) (v w : ℕ → ℕ → ℤ) → T (carries k p v w) → (i j : ℕ) → i < k → j < k → permuted p v i j ≡ w i j
carries-is k p v w t i j a b = eq_z→ (permuted p v i j) (w i j) (pairs k (λ i j. eq_z (permuted p v i j) (w i j)) t i j a b)
