-- Worked values: each definition computes to what its comment says, so that no law here is about something else, or about nothing.
-- By computation. Assumes nothing.
use mathlib.Core.Path.{◌≡◌, refl, ap}
use mathlib.Core.Bool.{Bool, true, false}
use mathlib.Core.List.{List, [], ◌∷◌, map}
use Prim.Native.Nat.{ℕ, zero, suc, ◌*◌, ◌%◌}
use native.Mathlib.Omega.{arith}
use lib.Dec.{eqb, lit<, lit≤}
use lib.IntN.{pos, negsuc, nat_abs}
use lib.ListN.{get_or}
use lib.Ieee.{Float, nan, fin, binary64, add, mul, div, neg, of_bits}
use Rattle.laws.specs.Views.{up_from, list_of, down_to, between, until, from, seek, gap}
use Rattle.laws.specs.Slices.{on_part, turns, mapped_to, filled, stores, put_row, traded}
use Rattle.laws.specs.Tables.{update, exchange}
use Rattle.laws.specs.Zeros.{+0, +1, nz}
use Rattle.laws.specs.Dyadic.{Dy}
use Rattle.laws.specs.Matrix.{Mat, at, matrix}
use Rattle.laws.specs.Maps.{Local, dot, rows, cols, column_turn, row_turn, rotated}
use Rattle.laws.specs.Steps.{masked, in_row, corner_from, right_from, Formula, by_pair, negated}
use Rattle.laws.proofs.Dyadic.{pow-dy, div-pow-dy, quot-dy}

-- ---- lists by their places

abbrev square : ℕ → ℕ
square i = i * i

counted-up : list_of 4 square ≡ 0 ∷ 1 ∷ 4 ∷ 9 ∷ []
unfolding up_from
counted-up = refl

newest-first : down_to square 4 ≡ 9 ∷ 4 ∷ 1 ∷ 0 ∷ []
unfolding down_to
newest-first = refl

from-two-on : between square 2 2 ≡ 9 ∷ 4 ∷ []
unfolding between
from-two-on = refl

-- the search for a multiple of 3: the newest below 6 is 3, so 4 is found, and 5 and 4 are passed over
abbrev third : ℕ → Bool
third i = eqb (i % 3) 0

found : seek third 6 ≡ 4
unfolding seek
found = refl

passed_over : gap third 6 ≡ 2
unfolding gap
passed_over = refl

not_found : seek (λ i. false) 6 ≡ 0
unfolding seek
not_found = refl

before-it : until third (down_to (λ i. i) 6) ≡ 5 ∷ 4 ∷ []
unfolding until down_to
before-it = refl

and-after : from third (down_to (λ i. i) 6) ≡ 3 ∷ 2 ∷ 1 ∷ 0 ∷ []
unfolding from down_to
and-after = refl

-- ---- slices

part-anew : on_part 1 2 (map suc) (5 ∷ 5 ∷ 5 ∷ 5 ∷ []) ≡ 5 ∷ 6 ∷ 6 ∷ 5 ∷ []
unfolding on_part
part-anew = refl

-- the last turn is the outermost
in_order : turns (λ i l. i ∷ l) 3 [] ≡ 2 ∷ 1 ∷ 0 ∷ []
unfolding turns
in_order = refl

first_two : filled {A = ℕ} 2 0 (7 ∷ 8 ∷ 9 ∷ []) ≡ 0 ∷ 0 ∷ 9 ∷ []
unfolding mapped_to
first_two = refl

-- a list that is too short keeps its length
short : filled {A = ℕ} 5 0 (7 ∷ 8 ∷ []) ≡ 0 ∷ 0 ∷ []
unfolding mapped_to
short = refl

-- of two stores at one place the later stays
later-stays : stores 2 (λ i. 0) (λ i. i) (7 ∷ []) ≡ 1 ∷ []
unfolding stores
later-stays = refl

row-stored : put_row 2 1 square (7 ∷ 7 ∷ 7 ∷ 7 ∷ []) ≡ 7 ∷ 0 ∷ 1 ∷ 7 ∷ []
unfolding stores
row-stored = refl

traded-ends : traded {A = ℕ} 0 0 2 (7 ∷ 8 ∷ 9 ∷ []) ≡ 9 ∷ 8 ∷ 7 ∷ []
traded-ends = refl

-- ---- tables

changed : list_of 3 (update 1 7 square) ≡ 0 ∷ 7 ∷ 4 ∷ []
unfolding up_from
changed = refl

exchanged-places : list_of 4 (exchange 1 3 square) ≡ 0 ∷ 9 ∷ 4 ∷ 1 ∷ []
unfolding up_from
exchanged-places = refl

exchanged-back : list_of 4 (exchange 1 3 (exchange 1 3 square)) ≡ list_of 4 square
unfolding up_from
exchanged-back = refl

-- ---- floats

abbrev -0 : Float
-0 = fin true 0 (pos 0)

abbrev -1 : Float
-1 = fin true 1 (pos 0)

abbrev 2·0 : Float
2·0 = fin false 1 (pos 1)

abbrev 4·0 : Float
4·0 = fin false 1 (pos 2)

-- 2 ^ 53: one more is no float
abbrev big : Float
big = fin false 1 (pos 53)

minus-zero-bits : of_bits binary64 0x8000_0000_0000_0000 ≡ -0
unfolding of_bits
minus-zero-bits = refl

zeros-alike : nz -0 ≡ nz +0
zeros-alike = refl

-- a sum starts at 0.0: so it is no -0.0
from_zero : dot (λ j. +1) (λ j. -0) 1 ≡ +0
unfolding dot add mul
from_zero = refl

-- and it goes from left to right: 1 is lost in 1 + 2 ^ 53 - 2 ^ 53
left-to-right : dot (λ j. +1) (λ j. get_or (+1 ∷ big ∷ neg big ∷ []) j nan) 3 ≡ +0
unfolding dot add mul neg
left-to-right = refl

half : Dy 1 (pos 1) (fin false 1 (negsuc 0))
half = (1, refl, refl)

minus-zero : Dy 0 (pos 0) -0
minus-zero = (0, refl, refl)

minus_one : Dy 0 (negsuc 0) -1
minus_one = (1, refl, refl)

-- a float has one number
not-two : Dy 0 (pos 2) +1 → ⊥
not-two p = omega (arith, p.1, ap nat_abs p.2)

-- half of 1.0, and a quarter of -4.0
halved : Dy 1 (pos 1) (div binary64 +1 2·0)
halved = div-pow-dy 1 0 (pos 1) +1 (lit≤ tt) (lit< tt) (1, refl, refl)

quartered : Dy 0 (negsuc 0) (div binary64 (neg 4·0) 4·0)
unfolding neg
quartered = quot-dy 0 0 (negsuc 3) (pos 4) (neg 4·0) 4·0 (lit≤ tt) (lit< tt) (lit< tt) refl (4, refl, refl) (pow-dy 2)

-- ---- matrices

-- 1 2
-- 3 4, and 5 after it
abbrev list : List Float
list = +1 ∷ 2·0 ∷ fin false 3 (pos 0) ∷ 4·0 ∷ fin false 5 (pos 0) ∷ []

-- transposed; what lies after the matrix stays
across : matrix 2 (λ r c. at 2 list c r) list ≡ +1 ∷ fin false 3 (pos 0) ∷ 2·0 ∷ 4·0 ∷ fin false 5 (pos 0) ∷ []
unfolding matrix up_from
across = refl

-- a quarter turn on the indices 0 and 1:  0 1
--                                        -1 0
abbrev turn_map : Mat
turn_map zero j = get_or (+0 ∷ +1 ∷ []) j nan
turn_map (suc i) j = get_or (-1 ∷ +0 ∷ []) j nan

abbrev quarter_turn : Local
quarter_turn = record { start = 0; width = 2; map = turn_map }

turned_rows : matrix 2 (rows quarter_turn (at 2 list)) list ≡ fin false 3 (pos 0) ∷ 4·0 ∷ -1 ∷ neg 2·0 ∷ fin false 5 (pos 0) ∷ []
unfolding matrix up_from dot add mul neg
turned_rows = refl

turned-cols : matrix 2 (cols quarter_turn (at 2 list)) list ≡ 2·0 ∷ -1 ∷ 4·0 ∷ fin true 3 (pos 0) ∷ fin false 5 (pos 0) ∷ []
unfolding matrix up_from dot add mul neg
turned-cols = refl

-- the same by the turns of the loops
by-column-turns : turns (column_turn quarter_turn 2) 2 list ≡ matrix 2 (rows quarter_turn (at 2 list)) list
unfolding turns stores matrix up_from dot add mul neg
by-column-turns = refl

by-row-turns : turns (row_turn quarter_turn 2) 2 list ≡ matrix 2 (cols quarter_turn (at 2 list)) list
unfolding turns on_part rotated matrix up_from dot add mul neg
by-row-turns = refl

-- row 0 and column 0 negated: 1, where they meet, is as it was
crossed : matrix 2 (negated (λ j. eqb j 0) (at 2 list)) list ≡ +1 ∷ neg 2·0 ∷ fin true 3 (pos 0) ∷ 4·0 ∷ fin false 5 (pos 0) ∷ []
unfolding matrix up_from neg
crossed = refl

-- the two masks at row 2 of 4
corner-mask : list_of 4 (corner_from 2 2) ≡ false ∷ false ∷ true ∷ true ∷ []
unfolding up_from
corner-mask = refl

right-mask : list_of 4 (right_from 2 2) ≡ false ∷ false ∷ false ∷ true ∷ []
unfolding up_from
right-mask = refl

-- a sweep of row 1: new there, old in row 0
row-swept : matrix 2 (masked (in_row 1 (λ r c. true)) (λ r c. +0) (at 2 list)) list ≡ +1 ∷ 2·0 ∷ +0 ∷ +0 ∷ fin false 5 (pos 0) ∷ []
unfolding matrix up_from masked
row-swept = refl

-- what entry (2, 3) is made from by the rows 0 and 1
pair_read : (f : Mat) (g : Formula) → by_pair 0 g f 2 3 ≡ g (f 2 3) (f 0 2) (f 0 3) (f 1 2) (f 1 3)
pair_read f g = refl
