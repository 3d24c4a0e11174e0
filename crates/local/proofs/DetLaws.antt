-- Laws of the determinant's elimination: where its pivot is found, and how it goes on once the pivot is known. Assumes nothing.
use mathlib.Core.Path.{◌≡◌, ap}
use mathlib.Core.Bool.{Bool, true, false, cond}
use mathlib.Core.List.{List, [], ◌∷◌}
use Prim.Native.Nat.{ℕ, suc, ◌+◌, ◌<◌}
use native.Mathlib.Omega.{arith}
use lib.Dec.{eqb}
use lib.ListN.{length}
use lib.Ieee.{Float, neg}
use Rattle.laws.specs.Lists.{pivot_row, other_rows}
use Rattle.local.specs.Det.{Line, head_of, not_below, better_of, last_largest, eliminated, pivoted}
use Rattle.local.specs.declared.det.Best.{Best}

-- the pivot is one of the rows
better-below : (b : Best) (i : ℕ) (x : Float) → b.row < i → (better_of b i x).row < suc i
unfolding better_of
better-below b i x h = by (not_below x b.head)
  where
    by : (t : Bool) → (cond {A = Best} t (record { row = i; head = x }) b).row < suc i
    by true = omega arith
    by false = omega arith

pub largest-below : (rs : List Line) (i : ℕ) (b : Best) → b.row < i → last_largest rs i b < i + length rs
unfolding last_largest
largest-below [] i b h = omega arith
largest-below (r ∷ rs) i b h = omega (arith, largest-below rs (suc i) (better_of b i (head_of r)) (better-below b i (head_of r) h))

-- once it is known
pub chosen : (n : ℕ) (r : Line) (rs : List Line) (d : Float) (p : ℕ) → last_largest rs 1 (record { row = 0; head = head_of r }) ≡ p
    → eliminated (suc n) (r ∷ rs) d ≡ pivoted n (pivot_row p r rs) (other_rows p r rs) (cond (eqb p 0) d (neg d))
unfolding eliminated
chosen n r rs d p e = ap (λ p. pivoted n (pivot_row p r rs) (other_rows p r rs) (cond (eqb p 0) d (neg d))) e
