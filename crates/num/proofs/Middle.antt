-- Where the root of m * 4 ^ g lies among the numbers n * 2 ^ k with an n of 53 digits: if r is the whole number nearest the root of m,
-- it lies on the side of r * 2 ^ g of the middle between that and any other. By squares, on whole numbers. Assumes nothing.
use mathlib.Core.Path.{◌≡◌, sym, ap, ◌∙◌, subst}
use mathlib.Core.Logic.{◌⊎◌, inl, inr}
use Prim.Native.Nat.{ℕ, zero, suc, ◌+◌, ◌-◌, ◌*◌, ◌/◌, ◌%◌, ◌^◌, ◌≤◌, ◌<◌}
use native.Mathlib.Nat.{eq-or-lt_of_le, le_trans, le_of_eq, lt_of_lt_of_le, lt_of_le_of_lt, lt_of_not-le, not-le_of_lt, sub-add_cancel, mul_assoc, add-mul, mul-le-mul_right, mul-lt-mul_of_pos_right, lt_of_mul-lt-mul_right, mul-pos, pow-succ'}
use native.Mathlib.Omega.{arith}
use native.Mathlib.Decide.{dec_le}
use lib.Pow.{pow-add, pow_pos, pow_mono}
use Rattle.num.proofs.Squares.{sq-le, sq-lt, root-lt, sq-mul, odd-sq}

-- ---- the neighbours of r * 2 ^ g

spread : (k g : ℕ) → k ≤ g → 2 ^ g ≡ 2 ^ (g - k) * 2 ^ k
spread k g h = ap (λ (z : ℕ). 2 ^ z) (sym (sub-add_cancel h)) ∙ pow-add 2 (g - k) k

-- the next number is (r + 1) * 2 ^ g or above it
next : (r n g k : ℕ) → 2 ^ 52 ≤ r → n < 2 ^ 53 → r * 2 ^ g < n * 2 ^ k → suc r * 2 ^ g ≤ n * 2 ^ k
next r n g k R N h = go (dec_le g k)
  where
    clash : (nk k₂ k₃ g₂ rg : ℕ) → nk < 2 ^ 53 * k₂ → k₃ ≤ g₂ → k₃ ≡ 2 * k₂ → 2 ^ 52 * g₂ ≤ rg → rg < nk → ⊥
    clash nk k₂ k₃ g₂ rg a b d m h = omega arith

    go : Dec (g ≤ k) → suc r * 2 ^ g ≤ n * 2 ^ k
    go (yes l) =
        let e : n * 2 ^ k ≡ n * 2 ^ (k - g) * 2 ^ g = ap (λ (z : ℕ). n * z) (spread g k l) ∙ sym (mul_assoc n (2 ^ (k - g)) (2 ^ g)) in
        let s : r < n * 2 ^ (k - g) = lt_of_mul-lt-mul_right (2 ^ g) (subst (λ (z : ℕ). r * 2 ^ g < z) e h) in
        le_trans (mul-le-mul_right (2 ^ g) s) (le_of_eq (sym e))
    go (no f) =
        let l : suc k ≤ g = lt_of_not-le f in
        absurd
        (clash (n * 2 ^ k) (2 ^ k) (2 ^ suc k) (2 ^ g) (r * 2 ^ g)
        (mul-lt-mul_of_pos_right N (pow_pos k))
        (pow_mono l)
        (pow-succ' 2 k)
        (mul-le-mul_right (2 ^ g) R)
        h)

-- the one before (r + 1) * 2 ^ g is r * 2 ^ g or below it
previous : (r n g k : ℕ) → 2 ^ 52 ≤ r → n < 2 ^ 53 → n * 2 ^ k < suc r * 2 ^ g → n * 2 ^ k ≤ r * 2 ^ g
previous r n g k R N h = go (dec_le (n * 2 ^ k) (r * 2 ^ g))
  where
    go : Dec (n * 2 ^ k ≤ r * 2 ^ g) → n * 2 ^ k ≤ r * 2 ^ g
    go (yes l) = l
    go (no f) = absurd (not-le_of_lt h (next r n g k R N (lt_of_not-le f)))

-- ---- the middle

-- r is the whole number nearest the root of m, and m has 105 digits or more
pub record Middle (m r : ℕ) : Type 0 where
  pub low : (2 * r - 1) * (2 * r - 1) < 4 * m
  pub high : 4 * m < (2 * r + 1) * (2 * r + 1)
  pub enough : 2 ^ 52 ≤ r
  pub big : 2 ^ 104 ≤ m

grow : (a b c : ℕ) → b ≤ c → a + b ≤ a + c
grow a b c h = omega arith

pub middle-above : (m r n g k : ℕ) → Middle m r → n < 2 ^ 53 → r * 2 ^ g < n * 2 ^ k
    → 4 * (m * (2 ^ g * 2 ^ g)) < (r * 2 ^ g + n * 2 ^ k) * (r * 2 ^ g + n * 2 ^ k)
middle-above m r n g k M N h =
    lt_of_lt_of_le
    (lt_of_le_of_lt (le_of_eq (sym (mul_assoc 4 m (p * p)))) (mul-lt-mul_of_pos_right M.high (mul-pos (pow_pos g) (pow_pos g))))
    (le_trans (le_of_eq (sym (sq-mul (2 * r + 1) p))) (sq-le ((2 * r + 1) * p) (r * p + n * 2 ^ k) far))
  where
    p : ℕ
    p = 2 ^ g

    sum : (r : ℕ) → 2 * r + 1 ≡ r + suc r
    sum r = omega arith

    both : (2 * r + 1) * p ≡ r * p + suc r * p
    both = ap (λ (z : ℕ). z * p) (sum r) ∙ add-mul r (suc r) p

    far : (2 * r + 1) * p ≤ r * p + n * 2 ^ k
    far = le_trans (le_of_eq both) (grow (r * p) (suc r * p) (n * 2 ^ k) (next r n g k M.enough N h))

-- the number before r * 2 ^ g is (r - 1) * 2 ^ g, unless r is 2 ^ 52: then numbers below lie closer, and m's size does
pub middle-below : (m r n g k : ℕ) → Middle m r → n < 2 ^ 53 → n * 2 ^ k < r * 2 ^ g
    → (r * 2 ^ g + n * 2 ^ k) * (r * 2 ^ g + n * 2 ^ k) < 4 * (m * (2 ^ g * 2 ^ g))
middle-below m zero n g k M N h = absurd (none M.enough)
  where
    none : 2 ^ 52 ≤ 0 → ⊥
    none h = omega arith
middle-below m (suc r) n g k M N h = go (dec_le (2 ^ 52) r)
  where
    p : ℕ
    p = 2 ^ g

    sum : (r : ℕ) → 2 * suc r - 1 ≡ suc r + r
    sum r = omega arith

    both : (2 * suc r - 1) * p ≡ suc r * p + r * p
    both = ap (λ (z : ℕ). z * p) (sum r) ∙ add-mul (suc r) r p

    less : (a b : ℕ) → b < a → a + b < 2 * a
    less a b h = omega arith

    least : (r : ℕ) → (2 ^ 52 ≤ r → ⊥) → suc r ≤ 2 ^ 52
    least r h = omega arith

    four : (a m : ℕ) → a ≤ m → 4 * a ≤ 4 * m
    four a m h = omega arith

    go : Dec (2 ^ 52 ≤ r) → (suc r * p + n * 2 ^ k) * (suc r * p + n * 2 ^ k) < 4 * (m * (p * p))
    go (yes l) =
        let near : suc r * p + n * 2 ^ k ≤ (2 * suc r - 1) * p =
        le_trans (grow (suc r * p) (n * 2 ^ k) (r * p) (previous r n g k l N h)) (le_of_eq (sym both)) in
        lt_of_le_of_lt
        (le_trans (sq-le (suc r * p + n * 2 ^ k) ((2 * suc r - 1) * p) near) (le_of_eq (sq-mul (2 * suc r - 1) p)))
        (lt_of_lt_of_le (mul-lt-mul_of_pos_right M.low (mul-pos (pow_pos g) (pow_pos g))) (le_of_eq (mul_assoc 4 m (p * p))))
    go (no f) =
        let b : suc r * suc r ≤ m = le_trans (sq-le (suc r) (2 ^ 52) (least r f)) M.big in
        lt_of_lt_of_le
        (sq-lt (suc r * p + n * 2 ^ k) (2 * (suc r * p)) (less (suc r * p) (n * 2 ^ k) h))
        (le_trans
        (le_of_eq (sq-mul 2 (suc r * p) ∙ ap (λ (z : ℕ). 4 * z) (sq-mul (suc r) p)))
        (four (suc r * suc r * (p * p)) (m * (p * p)) (mul-le-mul_right (p * p) b)))

-- ---- from the whole part q of a root of one digit more: 4 * m is even, so where q is odd, q * q is below it and there is no tie

pub middle : (m q r : ℕ) → q * q ≤ 4 * m → 4 * m < (q + 1) * (q + 1) → r ≡ (q + 1) / 2 → 2 ^ 104 ≤ m → Middle m r
middle m q r lo hi e big = record { low = below (eq-or-lt_of_le (at_most q)); high = above; enough = enough' q r e size; big = big }
  where
    at_most : (q : ℕ) → q % 2 ≤ 1
    at_most q = omega arith

    four : (m : ℕ) → 2 ^ 104 ≤ m → 2 ^ 53 * 2 ^ 53 ≤ 4 * m
    four m h = omega arith

    size : 2 ^ 53 < q + 1
    size = root-lt (2 ^ 53) (q + 1) (lt_of_le_of_lt (four m big) hi)

    enough' : (q r : ℕ) → r ≡ (q + 1) / 2 → 2 ^ 53 < q + 1 → 2 ^ 52 ≤ r
    enough' q r e h = omega arith

    odd_is : (q r : ℕ) → r ≡ (q + 1) / 2 → q % 2 ≡ 1 → q ≡ 2 * r - 1
    odd_is q r e o = omega arith

    halved : (q : ℕ) → q % 2 ≡ 1 → q ≡ 2 * (q / 2) + 1
    halved q o = omega arith

    up_to : (q r : ℕ) → r ≡ (q + 1) / 2 → q + 1 ≤ 2 * r + 1
    up_to q r e = omega arith

    even-down : (q r : ℕ) → r ≡ (q + 1) / 2 → q % 2 < 1 → 2 ^ 53 < q + 1 → 2 * r - 1 < q
    even-down q r e o h = omega arith

    strict : (a s m : ℕ) → a ≡ 4 * s + 1 → a ≤ 4 * m → a < 4 * m
    strict a s m e h = omega arith

    above : 4 * m < (2 * r + 1) * (2 * r + 1)
    above = lt_of_lt_of_le hi (sq-le (q + 1) (2 * r + 1) (up_to q r e))

    below : (q % 2 ≡ 1) ⊎ (q % 2 < 1) → (2 * r - 1) * (2 * r - 1) < 4 * m
    below (inl o) =
        subst (λ (z : ℕ). z * z < 4 * m) (odd_is q r e o)
        (strict (q * q) (q / 2 * (q / 2) + q / 2) m (ap (λ (z : ℕ). z * z) (halved q o) ∙ odd-sq (q / 2)) lo)
    below (inr o) = lt_of_lt_of_le (sq-lt (2 * r - 1) q (even-down q r e o size)) lo
