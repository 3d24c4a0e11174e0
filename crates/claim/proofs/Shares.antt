-- Where no block is bad, no item's share is; and then a matchgate's modes are neighbours. Assumes nothing.
use mathlib.Core.Path.{◌≡◌}
use mathlib.Core.Bool.{true}
use mathlib.Core.List.{List, [], ◌∷◌}
use Prim.Native.Nat.{ℕ, ◌+◌}
use native.Mathlib.Omega.{arith}
use lib.Ieee.{Float}
use Rattle.evolve.proofs.Programs.{match-beside}
use Rattle.laws.specs.Lists.{All}
use Rattle.gate.specs.declared.matrix.Mat4.{Mat4}
use Rattle.order.specs.Arrangement.{beside_of}
use Rattle.resolve.specs.Items.{Item, matchgate, neither}
use Rattle.detect.specs.Counts.{two_share, plus_of, share_of, counted_onto, counts_of}

-- the item's share has nothing bad
abbrev pub Free : Float → (ℕ → ℕ) → Item → Type 0
Free tol pos x = (share_of tol pos x).bad ≡ 0

pub all-free : (tol : Float) (pos : ℕ → ℕ) (xs : List Item) → (counts_of tol pos xs).bad ≡ 0 → All (Free tol pos) xs
unfolding counted_onto plus_of
all-free tol pos [] e = tt
all-free tol pos (x ∷ xs) e =
    let h : (counts_of tol pos xs).bad + (share_of tol pos x).bad ≡ 0 = e in
    (omega arith, all-free tol pos xs (omega arith))

-- a matchgate on modes that are not neighbours is bad
pub beside : (i j : ℕ) (r : Float) (v : Mat4) → (two_share matchgate i j r v).bad ≡ 0 → beside_of i j ≡ true
unfolding two_share
beside = match-beside

-- what is neither is bad
pub not-neither : (i j : ℕ) (r : Float) (v : Mat4) → (two_share neither i j r v).bad ≡ 0 → ⊥
unfolding two_share
not-neither i j r v e = let z : ◌≡◌ {A = ℕ} 1 0 = e in omega arith
