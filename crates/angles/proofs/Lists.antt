-- Lists with a property, joined and parted. Assumes nothing.
use mathlib.Core.Logic.{◌≢◌}
use mathlib.Core.List.{List, [], ◌∷◌, ◌++◌}
use Prim.Native.Nat.{ℕ, zero, suc, ◌<◌}
use native.Mathlib.Omega.{arith}
use lib.ListN.{length, get_or}
use Rattle.laws.specs.Lists.{All}
use Rattle.formulas.specs.Pfaffians.{Distinct}

module _ {A : Type 0} (P : A → Type 0) where
  pub all-at : (xs : List A) (i : ℕ) (d : A) → All P xs → i < length xs → P (get_or xs i d)
  all-at [] i d h l = absurd (omega (arith, l))
  all-at (x ∷ xs) zero d h l = h.0
  all-at (x ∷ xs) (suc i) d h l = all-at xs i d h.1 (omega (arith, l))

  -- all that is left without x
  all-without : (x : A) (seen xs : List A) → All P (seen ++ (x ∷ xs)) → All P (seen ++ xs)
  all-without x [] xs h = h.1
  all-without x (s ∷ seen) xs h = (h.0, all-without x seen xs h.1)

pub distinct-without : (x : ℕ) (seen xs : List ℕ) → Distinct (seen ++ (x ∷ xs)) → Distinct (seen ++ xs)
distinct-without x [] xs h = h.1
distinct-without x (s ∷ seen) xs h = (all-without (λ y. s ≢ y) x seen xs h.0, distinct-without x seen xs h.1)
