-- The engine's determinant is the formula at binary64 (specs/Determinants.antt). Assumes nothing.
use mathlib.Core.Path.{◌≡◌, refl, ap, ◌∙◌}
use mathlib.Core.Bool.{Bool, true, false, cond}
use mathlib.Core.List.{List, [], ◌∷◌}
use Prim.Native.Nat.{ℕ, zero, suc}
use lib.Dec.{eqb}
use lib.Ieee.{Float, binary64, add, sub, mul, div, neg, eq}
use Rattle.laws.specs.Zeros.{+0, +1}
use Rattle.laws.specs.Matrix.{Mat}
use Rattle.laws.specs.Maps.{Local}
use Rattle.laws.specs.Lists.{pivot_row, other_rows}
use Rattle.local.specs.Det.{Line, head_of, tail_of, not_below, better_of, last_largest, less, lowered, lowered_all}
use Rattle.local.specs.Det.{eliminated, lines, det, odd}
use Rattle.local.specs.declared.det.Best.{Best}
use Rattle.formulas.specs.Determinants.{Best as Best', head_of as head', tail_of as tail', better_of as better', last_largest as last_largest', own_det}
use Rattle.formulas.specs.Determinants.{less as less', lowered as lowered'}
use Rattle.formulas.specs.Determinants.{lowered_all as lowered_all', eliminated as eliminated'}
use Rattle.rounded.specs.Floats.{floats, below_zero, float_tests, float_odd, as_local}
use Rattle.rounded.specs.Determinants.{RoundedDeterminants}

abbrev as_best : Best → Best' floats float_tests
as_best b = record { row = b.row; head = b.head }

head-is : (r : Line) → head_of r ≡ head' floats float_tests r
head-is [] = refl
head-is (x ∷ xs) = refl

tail-is : (r : Line) → tail_of r ≡ tail' floats float_tests r
tail-is [] = refl
tail-is (x ∷ xs) = refl

better-is : (b : Best) (i : ℕ) (x : Float) → as_best (better_of b i x) ≡ better' floats float_tests (as_best b) i x
unfolding better_of
better-is b i x = by (not_below x b.head)
  where
    by : (t : Bool) → as_best (cond t (record { row = i; head = x }) b) ≡ cond t (record { row = i; head = x }) (as_best b)
    by true = refl
    by false = refl

largest-is : (rs : List Line) (i : ℕ) (b : Best) → last_largest rs i b ≡ last_largest' floats float_tests rs i (as_best b)
unfolding last_largest last_largest'
largest-is [] i b = refl
largest-is (r ∷ rs) i b =
    largest-is rs (suc i) (better_of b i (head_of r))
    ∙ ap (last_largest' floats float_tests rs (suc i)) (better-is b i (head_of r) ∙ ap (better' floats float_tests (as_best b) i) (head-is r))

less-is : (f : Float) (xs ys : Line) → less f xs ys ≡ less' floats float_tests f xs ys
unfolding less sub
less-is f [] ys = refl
less-is f (x ∷ xs) [] = refl
less-is f (x ∷ xs) (y ∷ ys) = ap (λ w. add binary64 x (neg (mul binary64 f y)) ∷ w) (less-is f xs ys)

lowered-is : (q r : Line) → lowered q r ≡ lowered' floats float_tests q r
lowered-is q r =
    let f = div binary64 (head' floats float_tests r) (head' floats float_tests q) in
    (λ i. less (div binary64 (head-is r i) (head-is q i)) (tail-is r i) (tail-is q i))
    ∙ less-is f (tail' floats float_tests r) (tail' floats float_tests q)

all-lowered : (q : Line) (rs : List Line) → lowered_all q rs ≡ lowered_all' floats float_tests q rs
unfolding lowered_all
all-lowered q [] = refl
all-lowered q (r ∷ rs) = λ i. lowered-is q r i ∷ all-lowered q rs i

eliminated-is : (n : ℕ) (rows : List Line) (d : Float) → eliminated n rows d ≡ eliminated' floats float_tests n rows d
unfolding eliminated eliminated'
eliminated-is zero rows d = refl
eliminated-is (suc n) [] d = refl
eliminated-is (suc n) (r ∷ rs) d =
    (λ i. cond (eq (heads i) +0) +0 (eliminated n (rest i) (mul binary64 (cond (eqb (places i) 0) d (neg d)) (heads i))))
    ∙ ap (cond (eq head +0) +0) (eliminated-is n (lowered_all' floats float_tests pivot others) (mul binary64 (cond (eqb place 0) d (neg d)) head))
  where
    -- the formula's pivot
    place : ℕ
    place = last_largest' floats float_tests rs 1 (record { row = 0; head = head' floats float_tests r })

    pivot : Line
    pivot = pivot_row place r rs

    head : Float
    head = head' floats float_tests pivot

    others : List Line
    others = other_rows place r rs

    -- and the engine's
    found : ℕ
    found = last_largest rs 1 (record { row = 0; head = head_of r })

    places : found ≡ place
    places = largest-is rs 1 (record { row = 0; head = head_of r }) ∙ (λ i. last_largest' floats float_tests rs 1 (record { row = 0; head = head-is r i }))

    pivots : pivot_row found r rs ≡ pivot
    pivots = ap (λ p. pivot_row p r rs) places

    heads : head_of (pivot_row found r rs) ≡ head
    heads = head-is (pivot_row found r rs) ∙ ap (head' floats float_tests) pivots

    rest : lowered_all (pivot_row found r rs) (other_rows found r rs) ≡ lowered_all' floats float_tests pivot others
    rest =
        (λ i. lowered_all (pivots i) (other_rows (places i) r rs)) ∙ all-lowered pivot others

det-is : (k : ℕ) (q : Mat) → det k q ≡ own_det floats float_tests k q
unfolding det own_det sub
det-is k q = ap (cond (eqb k 2) (add binary64 (mul binary64 (q 0 0) (q 1 1)) (neg (mul binary64 (q 0 1) (q 1 0))))) (eliminated-is k (lines k q) +1)

sign-is : (o : Local) → odd o ≡ float_odd (as_local o)
unfolding odd
sign-is o = ap below_zero (det-is o.width o.map)

pub rounded-determinants : RoundedDeterminants
rounded-determinants = record { determinant = det-is; sign = sign-is }
