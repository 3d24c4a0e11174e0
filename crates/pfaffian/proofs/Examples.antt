-- The edges of the Pfaffian, rows under one theorem, and small values worked out: Pfaffians, where they stop, and shots with each outcome. Assumes nothing.
use mathlib.Core.Path.{◌≡◌, refl}
use mathlib.Core.Bool.{Bool, true, false}
use mathlib.Core.List.{List, [], ◌∷◌}
use Prim.Native.Nat.{ℕ, ◌+◌, ◌-◌, ◌*◌, ◌%◌}
use native.Mathlib.Omega.{arith}
use lib.Count.{count_trailing_zeros}
use lib.IntN.{pos, negsuc}
use lib.ListN.{get_or}
use lib.Ieee.{Float, nan, fin, of_bits, add, sub, mul, div, neg, sum, round, units, odd, size, climb, span, lt, eq, le}
use borrow.Author.Tests.{eq-eqb}
use Rattle.laws.specs.Zeros.{+0, +1}
use Rattle.laws.specs.Matrix.{Mat}
use Rattle.num.specs.Order.{abs_of, clamp_of}
use Rattle.pfaffian.specs.declared.pairs.End.{End}
use Rattle.pfaffian.specs.declared.pairs.End.TheVariants.{Value, Stopped}
use Rattle.pfaffian.specs.Pfaffian.{search, ended, pfaffian_of}
use Rattle.pfaffian.specs.Shot.{half, shot, word_of, shot_of}

-- ---- the edges: dimension 0, and every odd dimension

pub data Edge : ℕ → End → Type 0 where
  none : Edge 0 (Value +1)
  uneven : (d : ℕ) → Edge (2 * d + 1) (Stopped 0)

pub pfaffian-edge : {dim : ℕ} {p : End} → Edge dim p → (a : Mat) → pfaffian_of dim a ≡ p
unfolding pfaffian_of ended
pfaffian-edge none a = refl
pfaffian-edge (uneven d) a = let e : (2 * d + 1) % 2 ≡ 1 = omega arith in rw (eq-eqb ((2 * d + 1) % 2) 1 e)

-- ---- worked out

-- small odd numbers, and their negatives
p : ℕ → Float
p n = fin false n (pos 0)

m : ℕ → Float
m n = fin true n (pos 0)

-- 2^-1000
low : Float
low = fin false 1 (negsuc 999)

-- a matrix by its rows
rows : List (List Float) → Mat
rows l r c = get_or (get_or l r []) c nan

-- the largest of row 0 stands in columns 2 and 3; the first of them is the pivot, so that rows and columns 1 and 2 change places
four : List (List Float)
four = (+0 ∷ p 1 ∷ p 3 ∷ p 3 ∷ []) ∷ (m 1 ∷ +0 ∷ p 5 ∷ p 7 ∷ []) ∷ (m 3 ∷ m 5 ∷ +0 ∷ p 9 ∷ []) ∷ (m 3 ∷ m 7 ∷ m 9 ∷ +0 ∷ []) ∷ []

-- 1 * 9 - 3 * 7 + 3 * 5
worked : pfaffian_of 4 (rows four) ≡ Value (p 3)
unfolding pfaffian_of ended search abs_of rows four p m add sub mul div neg sum round units odd size climb span lt eq count_trailing_zeros
worked = refl

-- ---- where it stops

-- the row is one of the matrix as swapped by then: the only entry of four rows, (0, 2), is brought to column 1, and row 2 is then empty
swapped : pfaffian_of 4 (rows ((+0 ∷ +0 ∷ p 1 ∷ +0 ∷ []) ∷ (+0 ∷ +0 ∷ +0 ∷ +0 ∷ []) ∷ (m 1 ∷ +0 ∷ +0 ∷ +0 ∷ []) ∷ (+0 ∷ +0 ∷ +0 ∷ +0 ∷ []) ∷ []))
    ≡ Stopped 2
unfolding pfaffian_of ended search abs_of rows p m add mul div neg sum round units odd size climb span lt eq count_trailing_zeros
swapped = refl

-- "a NaN after a first candidate of zero does not prevent that stop", of either sign
nan-after : (s : Bool) → pfaffian_of 4 (rows ((+0 ∷ fin s 0 (pos 0) ∷ nan ∷ +0 ∷ []) ∷ [])) ≡ Stopped 0
unfolding pfaffian_of ended search abs_of rows lt eq
nan-after s = refl

-- a first candidate that is one does
nan_first : pfaffian_of 2 (rows ((+0 ∷ nan ∷ []) ∷ [])) ≡ Value nan
unfolding pfaffian_of ended search abs_of rows mul eq
nan_first = refl

-- a product that is too small for a float is worked out
tiny : pfaffian_of 4 (rows ((+0 ∷ low ∷ +0 ∷ +0 ∷ []) ∷ (neg low ∷ +0 ∷ +0 ∷ +0 ∷ []) ∷ (+0 ∷ +0 ∷ +0 ∷ low ∷ []) ∷ (+0 ∷ +0 ∷ neg low ∷ +0 ∷ []) ∷ []))
    ≡ Value +0
unfolding pfaffian_of ended search abs_of rows low add mul div neg sum round units odd size climb span lt eq count_trailing_zeros
tiny = refl

-- mode 0 is one, mode 1 zero, whatever the draws; qubit 0 has mode 1 and qubit 1 mode 0
flipped : List (List Float)
flipped = (+0 ∷ m 1 ∷ +0 ∷ +0 ∷ []) ∷ (p 1 ∷ +0 ∷ +0 ∷ +0 ∷ []) ∷ (+0 ∷ +0 ∷ +0 ∷ p 1 ∷ []) ∷ (+0 ∷ +0 ∷ m 1 ∷ +0 ∷ []) ∷ []

outcomes : shot (rows flipped) 0 2 (λ k. +0) ≡ true ∷ false ∷ []
unfolding shot clamp_of rows flipped p m add sub mul div neg sum round units odd size climb span lt eq count_trailing_zeros of_bits le
outcomes = refl

-- Z of mode 0 is 0: a draw below a half gives zero, a half or more one. The other mode has the same outcome
pair : List (List Float)
pair = (+0 ∷ +0 ∷ +0 ∷ p 1 ∷ []) ∷ (+0 ∷ +0 ∷ p 1 ∷ +0 ∷ []) ∷ (+0 ∷ m 1 ∷ +0 ∷ +0 ∷ []) ∷ (m 1 ∷ +0 ∷ +0 ∷ +0 ∷ []) ∷ []

zeros : shot (rows pair) 0 2 (λ k. fin false 1 (negsuc 1)) ≡ false ∷ false ∷ []
unfolding shot clamp_of rows pair p m add sub mul div neg sum round units odd size climb span lt eq count_trailing_zeros of_bits le
zeros = refl

ones : shot (rows pair) 0 2 (λ k. half) ≡ true ∷ true ∷ []
unfolding shot clamp_of rows pair p m add sub mul div neg sum round units odd size climb span lt eq count_trailing_zeros of_bits le
ones = refl

-- bit q is the outcome of qubit q's mode
words : (shot_of (rows flipped) 2 (λ k. +0) (λ q. 1 - q)).low ≡ 2
unfolding word_of
words = rw outcomes
