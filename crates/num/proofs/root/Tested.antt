-- A guess r at the root of a * 2 ^ 52, tested by its square: which of r, r - 1 and r + 1 is nearest. On whole numbers, as `square_of`, `adjusted` and
-- `by_digits` have it. With d + r * r ≡ a * 2 ^ 52 + z each answer is linear in the squares, and `omega` finds it. Assumes nothing.
use mathlib.Core.Path.{◌≡◌, refl, sym, ap, ◌∙◌, subst}
use Prim.Native.Nat.{ℕ, ◌+◌, ◌-◌, ◌*◌, ◌/◌, ◌%◌, ◌^◌, ◌≤◌, ◌<◌}
use native.Mathlib.Nat.{lt_of_lt_of_le, lt_of_le_of_lt, mul_right_comm, mul-le-mul}
use native.Mathlib.Omega.{arith}
use mathlib.Core.Bool.{not}
use lib.Dec.{T}
use lib.Ieee.{binary64, nan_bits}
use lib.Ieee.Bits.{nan_bits_above}
use borrow.Author.Tests.{le-ltb}
use Rattle.num.specs.Bits.{inf_bits}
use Rattle.num.specs.Parts.{SquareOf, Rounded, WholeRoot}
use Rattle.num.proofs.Squares.{root-lt, sq-mul, sq-sum, sq-next, odd-sq}
use Rattle.num.proofs.Middle.{Middle, middle}

-- ---- `square_of`: r is h * 2 ^ 26 + l

pub record Bounds (h l : ℕ) : Type 0 where
  pub hh : h * h ≤ 2 ^ 54
  pub hl : h * l ≤ 2 ^ 53
  pub ll : l * l ≤ 2 ^ 52

pub bounds : (r : ℕ) → r ≤ 2 ^ 53 → Bounds (r / 2 ^ 26) (r % 2 ^ 26)
bounds r R = record { hh = mul-le-mul (high r R) (high r R); hl = mul-le-mul (high r R) (low r); ll = mul-le-mul (low r) (low r) }
  where
    high : (r : ℕ) → r ≤ 2 ^ 53 → r / 2 ^ 26 ≤ 2 ^ 27
    high r R = omega arith

    low : (r : ℕ) → r % 2 ^ 26 ≤ 2 ^ 26
    low r = omega arith

halves : (r h l : ℕ) → r ≡ h * 2 ^ 26 + l → r * r ≡ h * h * 2 ^ 52 + h * l * 2 ^ 27 + l * l
halves r h l e =
    ap (λ (z : ℕ). z * z) e
    ∙ sq-sum (h * 2 ^ 26) l
    ∙ sum (h * 2 ^ 26 * (h * 2 ^ 26)) (h * 2 ^ 26 * l) (h * h) (h * l) (l * l) (sq-mul h (2 ^ 26)) (mul_right_comm h (2 ^ 26) l)
  where
    sum : (x y a b c : ℕ) → x ≡ a * 2 ^ 52 → y ≡ b * 2 ^ 26 → x + 2 * y + c ≡ a * 2 ^ 52 + b * 2 ^ 27 + c
    sum x y a b c e f = omega arith

pub square : (r h l : ℕ) → r ≡ h * 2 ^ 26 + l → Bounds h l → SquareOf r (h * h + h * l / 2 ^ 25) (h * l % 2 ^ 25 * 2 ^ 27 + l * l)
square r h l e b = record {
  is = sum (r * r) (h * h) (h * l) (l * l) (halves r h l e);
  short = low (h * l) (l * l) b.ll;
  few = high (h * h) (h * l) b.hh b.hl;
}
  where
    sum : (s a b c : ℕ) → s ≡ a * 2 ^ 52 + b * 2 ^ 27 + c → s ≡ (a + b / 2 ^ 25) * 2 ^ 52 + (b % 2 ^ 25 * 2 ^ 27 + c)
    sum s a b c e = omega arith

    low : (b c : ℕ) → c ≤ 2 ^ 52 → b % 2 ^ 25 * 2 ^ 27 + c < 2 ^ 53
    low b c h = omega arith

    high : (a b : ℕ) → a ≤ 2 ^ 54 → b ≤ 2 ^ 53 → a + b / 2 ^ 25 ≤ 2 ^ 55
    high a b h k = omega arith

-- ---- `adjusted`

square-before : (r : ℕ) → 0 < r → r * r ≡ (r - 1) * (r - 1) + 2 * (r - 1) + 1
square-before r h = ap (λ (z : ℕ). z * z) (back r h) ∙ sq-next (r - 1)
  where
    back : (r : ℕ) → 0 < r → r ≡ r - 1 + 1
    back r h = omega arith

rounded : (a x : ℕ) → 0 < x → x * x < a * 2 ^ 52 + x → a * 2 ^ 52 ≤ x * x + x → Rounded a x
rounded a x p l h = record {
  low =
      subst (λ (z : ℕ). z < 4 * (a * 2 ^ 52)) (sym (ap (λ (z : ℕ). z * z) (before x p) ∙ odd-sq (x - 1)))
      (under ((x - 1) * (x - 1)) (x * x) (a * 2 ^ 52) x p (square-before x p) l);
  high = subst (λ (z : ℕ). 4 * (a * 2 ^ 52) < z) (sym (odd-sq x)) (over (x * x) x (a * 2 ^ 52) h);
}
  where
    before : (x : ℕ) → 0 < x → 2 * x - 1 ≡ 2 * (x - 1) + 1
    before x p = omega arith

    under : (s q m x : ℕ) → 0 < x → q ≡ s + 2 * (x - 1) + 1 → q < m + x → 4 * (s + (x - 1)) + 1 < 4 * m
    under s q m x p e h = omega arith

    over : (s x m : ℕ) → m ≤ s + x → 4 * m < 4 * (s + x) + 1
    over s x m h = omega arith

-- what d and z of the code are
pub apart : (a r k low : ℕ) → SquareOf r k low → k ≤ a + 16 → (a + 16 - k) * 2 ^ 52 + r * r ≡ a * 2 ^ 52 + (low + 2 ^ 56)
apart a r k low s f = go a k low (r * r) s.is f
  where
    go : (a k low s : ℕ) → s ≡ k * 2 ^ 52 + low → k ≤ a + 16 → (a + 16 - k) * 2 ^ 52 + s ≡ a * 2 ^ 52 + (low + 2 ^ 56)
    go a k low s e f = omega arith

pub itself : (a r d z : ℕ) → d + r * r ≡ a * 2 ^ 52 + z → 0 < r → d ≤ z + r → z < d + r → Rounded a r
itself a r d z e p h k = rounded a r p (lo (r * r) (a * 2 ^ 52) r d z e k) (hi (r * r) (a * 2 ^ 52) r d z e h)
  where
    lo : (s m r d z : ℕ) → d + s ≡ m + z → z < d + r → s < m + r
    lo s m r d z e h = omega arith

    hi : (s m r d z : ℕ) → d + s ≡ m + z → d ≤ z + r → m ≤ s + r
    hi s m r d z e h = omega arith

pub less_one : (a r d z : ℕ) → d + r * r ≡ a * 2 ^ 52 + z → 1 < r → d + r ≤ z → z + 2 < d + 3 * r → Rounded a (r - 1)
less_one a r d z e p h k =
    rounded a (r - 1) (pos r p)
    (lo ((r - 1) * (r - 1)) (r * r) (a * 2 ^ 52) r d z e (square-before r (pos' r p)) p k)
    (hi ((r - 1) * (r - 1)) (r * r) (a * 2 ^ 52) r d z e (square-before r (pos' r p)) p h)
  where
    pos : (r : ℕ) → 1 < r → 0 < r - 1
    pos r h = omega arith

    pos' : (r : ℕ) → 1 < r → 0 < r
    pos' r h = omega arith

    lo : (s q m r d z : ℕ) → d + q ≡ m + z → q ≡ s + 2 * (r - 1) + 1 → 1 < r → z + 2 < d + 3 * r → s < m + (r - 1)
    lo s q m r d z e f p h = omega arith

    hi : (s q m r d z : ℕ) → d + q ≡ m + z → q ≡ s + 2 * (r - 1) + 1 → 1 < r → d + r ≤ z → m ≤ s + (r - 1)
    hi s q m r d z e f p h = omega arith

pub one_more : (a r d z : ℕ) → d + r * r ≡ a * 2 ^ 52 + z → z + r < d → d ≤ z + 3 * r + 2 → Rounded a (r + 1)
one_more a r d z e h k =
    rounded a (r + 1) (pos r)
    (lo ((r + 1) * (r + 1)) (r * r) (a * 2 ^ 52) r d z e (sq-next r) h)
    (hi ((r + 1) * (r + 1)) (r * r) (a * 2 ^ 52) r d z e (sq-next r) k)
  where
    pos : (r : ℕ) → 0 < r + 1
    pos r = omega arith

    lo : (s q m r d z : ℕ) → d + q ≡ m + z → s ≡ q + 2 * r + 1 → z + r < d → s < m + (r + 1)
    lo s q m r d z e f h = omega arith

    hi : (s q m r d z : ℕ) → d + q ≡ m + z → s ≡ q + 2 * r + 1 → d ≤ z + 3 * r + 2 → m ≤ s + (r + 1)
    hi s q m r d z e f h = omega arith

-- ---- `by_digits`

big : (a : ℕ) → 2 ^ 52 ≤ a → 2 ^ 104 ≤ a * 2 ^ 52
big a h = omega arith

pub by_digits : (a q : ℕ) → 2 ^ 52 ≤ a → WholeRoot (a * 2 ^ 54) q → Rounded a ((q + 1) / 2)
by_digits a q A Q =
    let m = middle (a * 2 ^ 52) q ((q + 1) / 2) (low (q * q) a Q.low) (high ((q + 1) * (q + 1)) a Q.high) refl (big a A) in
    record { low = m.low; high = m.high }
  where
    low : (s a : ℕ) → s ≤ a * 2 ^ 54 → s ≤ 4 * (a * 2 ^ 52)
    low s a h = omega arith

    high : (s a : ℕ) → a * 2 ^ 54 < s → 4 * (a * 2 ^ 52) < s
    high s a h = omega arith

-- ---- what `root_bits` takes from `Rounded`

pub in-middle : (a r : ℕ) → 2 ^ 52 ≤ a → Rounded a r → Middle (a * 2 ^ 52) r
in-middle a r A R = record {
  low = R.low;
  high = R.high;
  enough = half r (root-lt (2 ^ 53) (2 * r + 1) (lt_of_le_of_lt (four a A) R.high));
  big = big a A;
}
  where
    four : (a : ℕ) → 2 ^ 52 ≤ a → 2 ^ 53 * 2 ^ 53 ≤ 4 * (a * 2 ^ 52)
    four a h = omega arith

    half : (r : ℕ) → 2 ^ 53 < 2 * r + 1 → 2 ^ 52 ≤ r
    half r h = omega arith

pub short : (a r : ℕ) → a + 2 ≤ 2 ^ 54 → Rounded a r → r < 2 ^ 53
short a r A R = half r (root-lt (2 * r - 1) (2 ^ 54 - 1) (lt_of_lt_of_le R.low (under a A)))
  where
    under : (a : ℕ) → a + 2 ≤ 2 ^ 54 → 4 * (a * 2 ^ 52) ≤ (2 ^ 54 - 1) * (2 ^ 54 - 1)
    under a h = omega arith

    half : (r : ℕ) → 2 * r - 1 < 2 ^ 54 - 1 → r < 2 ^ 53
    half r h = omega arith

-- ---- `guess`: up to the infinity's, a pattern is no NaN's

pub a-number : (b : ℕ) → b ≤ inf_bits → T (not (nan_bits binary64 b))
a-number b h = rw (nan_bits_above, le-ltb inf_bits (b % 2 ^ 63) (low b h)) tt
  where
    low : (b : ℕ) → b ≤ inf_bits → b % 2 ^ 63 ≤ inf_bits
    low b h = omega arith
