-- The engine's determinant of a signed permutation, in floats: it is below zero exactly if the permutation is odd, for all 384 of four indices and
-- all 8 of two. By computation; and the determinant sees its entries only up to the sign of a zero. Assumes nothing.
use mathlib.Core.Path.{◌≡◌, refl, sym, ap, ◌∙◌}
use mathlib.Core.Logic.{◌≢◌}
use mathlib.Core.Bool.{Bool, true, false, xor, ◌||◌, cond, beq, true≢false}
use mathlib.Core.List.{List, [], ◌∷◌}
use Prim.Native.Nat.{ℕ, zero, suc, ◌<◌}
use native.Mathlib.Omega.{arith}
use lib.Dec.{T, eqb, lit<}
use lib.Ieee.{Float, binary64, add, sub, mul, div, neg, lt, le, eq, is_nan}
use Rattle.laws.specs.Zeros.{+0, +1, nz}
use Rattle.laws.specs.Views.{up_from, list_of}
use Rattle.laws.specs.Matrix.{Mat}
use Rattle.laws.proofs.Zeros.{sub-cong, mul-cong, div-cong, neg-cong, cond-cong, le-cong, eq-cong, lt-cong}
use Rattle.num.specs.Order.{abs_of}
use Rattle.num.proofs.Alike.{nan-nz, abs-cong}
use Rattle.local.specs.declared.det.Best.{Best}
use Rattle.signs.specs.Majoranas.{Four, c0, c1, c2, c3, num₁, num, Row}
use Rattle.signs.specs.Circuits.{unit_row}
use Rattle.signs.proofs.Permutations.{row, two_rows₁, two_rows₁→, four_rows, four_rows→, implies, by-implies, differ, distinct, odd₁, odd}
use Rattle.laws.specs.Lists.{pivot_row, put, other_rows}
use Rattle.local.specs.Det.{Line, head_of, tail_of, not_below, better_of, last_largest, less, lowered_all, eliminated, lines, det}

-- ---- equal up to the sign of a zero: rows, and lists of rows

abbrev Alike : Line → Line → Type 0
Alike [] [] = Unit {0}
Alike [] (y ∷ ys) = ⊥
Alike (x ∷ xs) [] = ⊥
Alike (x ∷ xs) (y ∷ ys) = (nz x ≡ nz y) × Alike xs ys

abbrev AllAlike : List Line → List Line → Type 0
AllAlike [] [] = Unit {0}
AllAlike [] (s ∷ ss) = ⊥
AllAlike (r ∷ rs) [] = ⊥
AllAlike (r ∷ rs) (s ∷ ss) = Alike r s × AllAlike rs ss

head-alike : (r s : Line) → Alike r s → nz (head_of r) ≡ nz (head_of s)
head-alike [] [] h = refl
head-alike [] (y ∷ ys) h = absurd h
head-alike (x ∷ xs) [] h = absurd h
head-alike (x ∷ xs) (y ∷ ys) h = h.0

tail-alike : (r s : Line) → Alike r s → Alike (tail_of r) (tail_of s)
tail-alike [] [] h = tt
tail-alike [] (y ∷ ys) h = absurd h
tail-alike (x ∷ xs) [] h = absurd h
tail-alike (x ∷ xs) (y ∷ ys) h = h.1

-- ---- the pivot

below_alike : (x y z w : Float) → nz x ≡ nz z → nz y ≡ nz w → not_below x y ≡ not_below z w
below_alike x y z w h k =
    λ i. (nan-nz x ∙ ap is_nan h ∙ sym (nan-nz z)) i || le-cong (abs_of y) (abs_of x) (abs_of w) (abs_of z) (abs-cong y w k) (abs-cong x z h) i

better-alike : (b c : Best) (i : ℕ) (x y : Float) → b.row ≡ c.row → nz b.head ≡ nz c.head → nz x ≡ nz y
    → ((better_of b i x).row ≡ (better_of c i y).row) × (nz (better_of b i x).head ≡ nz (better_of c i y).head)
unfolding better_of
better-alike b c i x y e h k = by (not_below x b.head) (not_below y c.head) (below_alike x b.head y c.head k h)
  where
    by : (s t : Bool) → s ≡ t → ((cond s (record { row = i; head = x }) b).row ≡ (cond t (record { row = i; head = y }) c).row)
        × (nz (cond s (record { row = i; head = x }) b).head ≡ nz (cond t (record { row = i; head = y }) c).head)
    by true true p = (refl, k)
    by false false p = (e, h)
    by true false p = absurd (true≢false p)
    by false true p = absurd (true≢false (sym p))

last-alike : (rs ss : List Line) (i : ℕ) (b c : Best) → AllAlike rs ss → b.row ≡ c.row → nz b.head ≡ nz c.head
    → last_largest rs i b ≡ last_largest ss i c
unfolding last_largest
last-alike [] [] i b c h e k = e
last-alike [] (s ∷ ss) i b c h e k = absurd h
last-alike (r ∷ rs) [] i b c h e k = absurd h
last-alike (r ∷ rs) (s ∷ ss) i b c h e k =
    let better = better-alike b c i (head_of r) (head_of s) e k (head-alike r s h.0) in
    last-alike rs ss (suc i) (better_of b i (head_of r)) (better_of c i (head_of s)) h.1 better.0 better.1

pivot-alike : (p : ℕ) (r s : Line) (rs ss : List Line) → Alike r s → AllAlike rs ss → Alike (pivot_row p r rs) (pivot_row p s ss)
pivot-alike zero r s rs ss h k = h
pivot-alike (suc p) r s [] [] h k = h
pivot-alike (suc p) r s [] (t ∷ ts) h k = absurd k
pivot-alike (suc p) r s (t ∷ ts) [] h k = absurd k
pivot-alike (suc p) r s (t ∷ ts) (u ∷ us) h k = pivot-alike p t u ts us k.0 k.1

put-alike : (p : ℕ) (r s : Line) (rs ss : List Line) → Alike r s → AllAlike rs ss → AllAlike (put p r rs) (put p s ss)
put-alike p r s [] [] h k = tt
put-alike p r s [] (t ∷ ts) h k = absurd k
put-alike p r s (t ∷ ts) [] h k = absurd k
put-alike zero r s (t ∷ ts) (u ∷ us) h k = (h, k.1)
put-alike (suc p) r s (t ∷ ts) (u ∷ us) h k = (k.0, put-alike p r s ts us h k.1)

others-alike : (p : ℕ) (r s : Line) (rs ss : List Line) → Alike r s → AllAlike rs ss → AllAlike (other_rows p r rs) (other_rows p s ss)
others-alike zero r s rs ss h k = k
others-alike (suc p) r s rs ss h k = put-alike p r s rs ss h k

-- ---- the elimination

less-alike : (f g : Float) (xs us ys vs : Line) → nz f ≡ nz g → Alike xs us → Alike ys vs → Alike (less f xs ys) (less g us vs)
unfolding less
less-alike f g [] [] ys vs e h k = tt
less-alike f g [] (u ∷ us) ys vs e h k = absurd h
less-alike f g (x ∷ xs) [] ys vs e h k = absurd h
less-alike f g (x ∷ xs) (u ∷ us) [] [] e h k = tt
less-alike f g (x ∷ xs) (u ∷ us) [] (v ∷ vs) e h k = absurd k
less-alike f g (x ∷ xs) (u ∷ us) (y ∷ ys) [] e h k = absurd k
less-alike f g (x ∷ xs) (u ∷ us) (y ∷ ys) (v ∷ vs) e h k =
    (sub-cong x (mul binary64 f y) u (mul binary64 g v) h.0 (mul-cong f y g v e k.0), less-alike f g xs us ys vs e h.1 k.1)

lowered-alike : (q p : Line) (rs ss : List Line) → nz (head_of q) ≢ +0 → Alike q p → AllAlike rs ss → AllAlike (lowered_all q rs) (lowered_all p ss)
unfolding lowered_all
lowered-alike q p [] [] d e h = tt
lowered-alike q p [] (s ∷ ss) d e h = absurd h
lowered-alike q p (r ∷ rs) [] d e h = absurd h
lowered-alike q p (r ∷ rs) (s ∷ ss) d e h = (
  less-alike (div binary64 (head_of r) (head_of q)) (div binary64 (head_of s) (head_of p)) (tail_of r) (tail_of s) (tail_of q) (tail_of p)
      (div-cong (head_of r) (head_of q) (head_of s) (head_of p) (head-alike r s h.0) (head-alike q p e) d) (tail-alike r s h.0) (tail-alike q p e),
  lowered-alike q p rs ss d e h.1,
)

zero-eq : eq +0 +0 ≡ true
unfolding eq
zero-eq = refl

eliminated-alike : (n : ℕ) (rs ss : List Line) (x y : Float) → AllAlike rs ss → nz x ≡ nz y → nz (eliminated n rs x) ≡ nz (eliminated n ss y)
unfolding eliminated
eliminated-alike zero rs ss x y h e = e
eliminated-alike (suc n) [] [] x y h e = e
eliminated-alike (suc n) [] (s ∷ ss) x y h e = absurd h
eliminated-alike (suc n) (r ∷ rs) [] x y h e = absurd h
eliminated-alike (suc n) (r ∷ rs) (s ∷ ss) x y h e =
    by (eq (head_of q) +0) refl
    (λ d. eliminated-alike n (lowered_all q (other_rows p r rs)) (lowered_all t (other_rows p s ss)) _ _
    (lowered-alike q t (other_rows p r rs) (other_rows p s ss) d alike (others-alike p r s rs ss h.0 h.1))
    (mul-cong _ (head_of q) _ (head_of t) (cond-cong (eqb p 0) x (neg x) y (neg y) e (neg-cong x y e)) heads))
    ∙ ap (λ m. nz (cond (eq (head_of (pivot_row m s ss)) +0) +0 (right m))) same
  where
    p : ℕ
    p = last_largest rs 1 (record { row = 0; head = head_of r })

    same : p ≡ last_largest ss 1 (record { row = 0; head = head_of s })
    same = last-alike rs ss 1 _ _ h.1 refl (head-alike r s h.0)

    q : Line
    q = pivot_row p r rs

    t : Line
    t = pivot_row p s ss

    alike : Alike q t
    alike = pivot-alike p r s rs ss h.0 h.1

    heads : nz (head_of q) ≡ nz (head_of t)
    heads = head-alike q t alike

    -- what follows the pivot, on either side
    left : Float
    left = eliminated n (lowered_all q (other_rows p r rs)) (mul binary64 (cond (eqb p 0) x (neg x)) (head_of q))

    right : ℕ → Float
    right m = eliminated n (lowered_all (pivot_row m s ss) (other_rows m s ss)) (mul binary64 (cond (eqb m 0) y (neg y)) (head_of (pivot_row m s ss)))

    other : eq (head_of q) +0 ≡ eq (head_of t) +0
    other = eq-cong (head_of q) +0 (head_of t) +0 heads refl

    by : (b : Bool) → eq (head_of q) +0 ≡ b → (nz (head_of q) ≢ +0 → nz left ≡ nz (right p))
        → nz (cond b +0 left) ≡ nz (cond (eq (head_of t) +0) +0 (right p))
    by true c rec = ap (λ b. nz (cond b +0 (right p))) (sym c ∙ other)
    by false c rec =
        rec (λ d. true≢false (sym zero-eq ∙ sym (eq-cong (head_of q) +0 +0 +0 d refl) ∙ c)) ∙ ap (λ b. nz (cond b +0 (right p))) (sym c ∙ other)

pub det-alike : (q q' : Mat) → ((i j : ℕ) → i < 4 → j < 4 → nz (q i j) ≡ nz (q' i j)) → nz (det 4 q) ≡ nz (det 4 q')
unfolding det up_from
det-alike q q' h =
    eliminated-alike 4 (lines 4 q) (lines 4 q') +1 +1 ((line 0 (lit< tt), (line 1 (lit< tt), (line 2 (lit< tt), (line 3 (lit< tt), tt))))) refl
  where
    line : (i : ℕ) → i < 4 → Alike (list_of 4 (q i)) (list_of 4 (q' i))
    line i l = (h i 0 l (lit< tt), (h i 1 l (lit< tt), (h i 2 l (lit< tt), (h i 3 l (lit< tt), tt))))

-- ---- all signed permutations

same_bool : (a b : Bool) → T (beq a b) → a ≡ b
same_bool false false h = refl
same_bool false true h = absurd h
same_bool true false h = absurd h
same_bool true true h = refl

abbrev pick : {A : Type 0} → A → A → A → A → ℕ → A
pick a b c d zero = a
pick a b c d (suc zero) = b
pick a b c d (suc (suc zero)) = c
pick a b c d (suc (suc (suc i))) = d

abbrev matrix : Row Four → Row Four → Row Four → Row Four → Mat
matrix r s t u i j = unit_row num (pick r s t u i) j

abbrev right : Row Four → Row Four → Row Four → Row Four → Bool
right r s t u = implies (distinct r s t u) (beq (lt (det 4 (matrix r s t u)) +0) (odd r s t u))

every : T (four_rows right)
unfolding det up_from eliminated last_largest better_of lowered_all less abs_of xor lt le eq is_nan sub add mul div neg
every = tt

abbrev matrix₁ : Row Bool → Row Bool → Mat
matrix₁ r s zero j = unit_row num₁ r j
matrix₁ r s (suc i) j = unit_row num₁ s j

abbrev right₁ : Row Bool → Row Bool → Bool
right₁ r s = implies (differ num₁ r s) (beq (lt (det 2 (matrix₁ r s)) +0) (odd₁ r s))

every₁ : T (two_rows₁ right₁)
unfolding det xor lt sub add mul neg
every₁ = tt

-- of each outcome one: above zero, below zero by a minus sign, below zero by an exchange, above zero by both; and zero, by rows that are not distinct
outcomes : (lt (det 4 (matrix (row false c0) (row false c1) (row false c2) (row false c3))) +0 ≡ false)
    × (lt (det 4 (matrix (row false c0) (row false c1) (row true c2) (row false c3))) +0 ≡ true)
    × (lt (det 4 (matrix (row false c1) (row false c0) (row false c2) (row false c3))) +0 ≡ true)
    × (lt (det 4 (matrix (row false c1) (row true c0) (row false c2) (row false c3))) +0 ≡ false)
    × (eq (det 4 (matrix (row false c1) (row true c1) (row false c2) (row false c3))) +0 ≡ true)
    × (lt (det 2 (matrix₁ (row false false) (row false true))) +0 ≡ false)
    × (lt (det 2 (matrix₁ (row false true) (row false false))) +0 ≡ true)
unfolding det up_from eliminated last_largest better_of lowered_all less abs_of lt le eq is_nan sub add mul div neg
outcomes = (refl, refl, refl, refl, refl, refl, refl)

-- ---- the statements: rows up to the sign of a zero

pub float-odd₁ : (q : Mat) (rows : Bool → Row Bool) → ((c : Bool) (j : ℕ) → j < 2 → nz (q (num₁ c) j) ≡ nz (unit_row num₁ (rows c) j))
    → T (differ num₁ (rows false) (rows true)) → lt (det 2 q) +0 ≡ odd₁ (rows false) (rows true)
unfolding det
float-odd₁ q rows h d =
    lt-cong (det 2 q) +0 (det 2 m) +0
    (sub-cong (mul binary64 (q 0 0) (q 1 1)) (mul binary64 (q 0 1) (q 1 0)) (mul binary64 (m 0 0) (m 1 1)) (mul binary64 (m 0 1) (m 1 0))
    (mul-cong (q 0 0) (q 1 1) (m 0 0) (m 1 1) (h false 0 (lit< tt)) (h true 1 (lit< tt)))
    (mul-cong (q 0 1) (q 1 0) (m 0 1) (m 1 0) (h false 1 (lit< tt)) (h true 0 (lit< tt))))
    refl
    ∙ same_bool (lt (det 2 m) +0) (odd₁ r s)
    (by-implies (differ num₁ r s) (beq (lt (det 2 m) +0) (odd₁ r s)) (two_rows₁→ right₁ every₁ r s) d)
  where
    r : Row Bool
    r = rows false

    s : Row Bool
    s = rows true

    m : Mat
    m = matrix₁ r s

pub float-odd : (q : Mat) (rows : Four → Row Four) → ((c : Four) (j : ℕ) → j < 4 → nz (q (num c) j) ≡ nz (unit_row num (rows c) j))
    → T (distinct (rows c0) (rows c1) (rows c2) (rows c3)) → lt (det 4 q) +0 ≡ odd (rows c0) (rows c1) (rows c2) (rows c3)
float-odd q rows h d =
    lt-cong (det 4 q) +0 (det 4 m) +0 (det-alike q m entries) refl
    ∙ same_bool (lt (det 4 m) +0) (odd r s t u)
    (by-implies (distinct r s t u) (beq (lt (det 4 m) +0) (odd r s t u)) (four_rows→ right every r s t u) d)
  where
    r : Row Four
    r = rows c0

    s : Row Four
    s = rows c1

    t : Row Four
    t = rows c2

    u : Row Four
    u = rows c3

    m : Mat
    m = matrix r s t u

    entries : (i j : ℕ) → i < 4 → j < 4 → nz (q i j) ≡ nz (m i j)
    entries zero j l k = h c0 j k
    entries (suc zero) j l k = h c1 j k
    entries (suc (suc zero)) j l k = h c2 j k
    entries (suc (suc (suc zero))) j l k = h c3 j k
    entries (suc (suc (suc (suc i)))) j l k = absurd (omega arith)
