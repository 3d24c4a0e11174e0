-- A value has one float: two floats that fit and have the same value are equal, since their bits are. So rounding gives back what fits, and a float
-- that fits, times 1.0 or 1.0 times it, is itself. Assumes nothing.
use mathlib.Core.Path.{◌≡◌, refl, sym, ap, ◌∙◌, subst}
use mathlib.Core.Logic.{⊎_elim}
use mathlib.Core.Bool.{Bool, true, false, ◌&&◌, cond}
use Prim.Native.Nat.{ℕ, zero, suc, ◌+◌, ◌-◌, ◌*◌, ◌/◌, ◌%◌, ◌^◌, ◌≤◌, ◌<◌}
use native.Mathlib.Nat.{mul-one, one-mul, mul_assoc, mul_right_comm, zero-mul, lt_of_lt_of_le, lt_irrefl}
use lib.Dec.{T, leb, ltb, eqb, leb→le, ltb→lt, lit<}
use lib.IntN.{ℤ, pos, negsuc}
use lib.Pow.{pow_pos, pow-add, pow-lt, shl_lt}
use lib.Ieee.{Float, nan, inf, fin, binary64, prec, up, down, round, mul, neg, size, top, hid, fits, to_bits, of_bits}
use lib.Ieee.Bits.{of_bits-to_bits}
use lib.Ieee.Exact.{HasValue, round_exact}
use lib.Ieee.Fits.{round-fits, down_pos, and_l, and_r, neg-fits, add-fits, cond-fits}
use lib.Ieee.Nearest.{div_same}
use Rattle.std.proofs.lemmas.Bool.{cases_lt}
use Rattle.laws.specs.Zeros.{+1, sg}
use Rattle.laws.specs.Dyadic.{cap, finest}
use Rattle.laws.specs.Matrix.{Mat}
use Rattle.laws.specs.Maps.{Local, inside, dot, rows, cols}
use Rattle.laws.proofs.Dyadic.{round-value}
use Rattle.laws.proofs.Negatives.{unlike-false, false-unlike, mul-neg}

-- ---- a value has one float

-- the bits of a finite float, from its size in the smallest float's units
abbrev bits : Bool → ℕ → ℕ
bits s n =
    let k = size n - prec binary64 in
    cond s (top binary64) 0 + k * hid binary64 + n / 2 ^ k

bits_is : (x : Float) (s : Bool) (a c : ℕ) → 0 < c → HasValue x s a c → to_bits binary64 x ≡ bits s (a * 2 ^ finest / c)
unfolding to_bits
bits_is nan s a c C v = absurd v
bits_is (inf t) s a c C v = absurd v
bits_is (fin t m e) s a c C v =
    λ i. bits (v.0 i)
    (div_same (m * up e * 2 ^ finest) (down e) (a * 2 ^ finest) c (down_pos e) C
    (mul_right_comm (m * up e) (2 ^ finest) c ∙ ap (λ (y : ℕ). y * 2 ^ finest) v.1 ∙ mul_right_comm a (down e) (2 ^ finest))
    i)

-- the same sign and the same fraction a / c
pub value-one : (x y : Float) (s : Bool) (a c : ℕ) → 0 < c → T (fits binary64 x) → T (fits binary64 y) → HasValue x s a c → HasValue y s a c → x ≡ y
value-one x y s a c C p q v w =
    sym (of_bits-to_bits binary64 x p) ∙ ap (of_bits binary64) (bits_is x s a c C v ∙ sym (bits_is y s a c C w)) ∙ of_bits-to_bits binary64 y q

-- ---- rounding gives back what fits

-- a significand times a power of two, and one over a power of two
whole-up : (s : Bool) (m a : ℕ) → m < cap → m * 2 ^ a < 2 ^ 1024 → HasValue (round binary64 s (m * 2 ^ a) 1) s (m * 2 ^ a) 1
whole-up s m a h k =
    round_exact binary64 s (m * 2 ^ a) 1 m (a + finest) (lit< tt) h (subst (λ (y : ℕ). y < 2 ^ (finest + 1024)) (sym e) (shl_lt 1024 finest k))
    (sym e ∙ sym (mul-one (m * 2 ^ (a + finest))))
  where
    e : m * 2 ^ (a + finest) ≡ m * 2 ^ a * 2 ^ finest
    e = ap (λ (y : ℕ). m * y) (pow-add 2 a finest) ∙ sym (mul_assoc m (2 ^ a) (2 ^ finest))

part_up : (s : Bool) (m a : ℕ) → m < cap → a ≤ finest → HasValue (round binary64 s (m * 1) (2 ^ a)) s (m * 1) (2 ^ a)
part_up s m a h k = round-value s (m * 1) (2 ^ a) m a (pow_pos a) h k (ap (λ (y : ℕ). y * 2 ^ a) (mul-one m))

-- the exponent is in the range that `fits` tests by powers
pub pow-back : (a b : ℕ) → 2 ^ a ≤ 2 ^ b → a ≤ b
pow-back a b h = ⊎_elim (λ g. absurd (lt_irrefl (2 ^ b) (lt_of_lt_of_le (pow-lt g) h))) (λ g. g) (cases_lt b a)

-- of the tests of `fits`: the significand is small, 2 ^ e is no less than the smallest float, and the float is less than the infinity
pub of_fits : (s : Bool) (m : ℕ) (e : ℤ) → T (fits binary64 (fin s (suc m) e))
    → (suc m < cap) × ((down e ≤ 2 ^ finest) × (suc m * up e < 2 ^ 1024 * down e))
unfolding fits
of_fits s m e p =
    let A = eqb (suc m % 2) 1 in
    let B = ltb (suc m) cap in
    let C = leb (down e) (2 ^ finest) in
    let D = ltb (suc m * up e) (2 ^ 1024 * down e) in
    let q = and_l (A && B && C) D p in
    (ltb→lt (suc m) cap (and_r A B (and_l (A && B) C q)), (leb→le (down e) (2 ^ finest) (and_r (A && B) C q), ltb→lt _ _ (and_r (A && B && C) D p)))

-- the rounding of a float that fits has its value
own : (s : Bool) (m : ℕ) (e : ℤ) → T (fits binary64 (fin s m e)) → HasValue (round binary64 s (m * up e) (down e)) s (m * up e) (down e)
unfolding fits
own s zero e p =
    round_exact binary64 s (zero * up e) (down e) 0 0 (down_pos e) (lit< tt) (lit< tt)
    (ap (λ (y : ℕ). y * 2 ^ finest) (zero-mul (up e)) ∙ zero-mul (2 ^ finest) ∙ sym (zero-mul (down e)))
own s (suc m) (pos a) p = let f = of_fits s m (pos a) p in whole-up s (suc m) a f.0 f.1.1
own s (suc m) (negsuc a) p = let f = of_fits s m (negsuc a) p in part_up s (suc m) (suc a) f.0 (pow-back (suc a) finest f.1.0)

pub round-self : (s : Bool) (m : ℕ) (e : ℤ) → T (fits binary64 (fin s m e)) → round binary64 s (m * up e) (down e) ≡ fin s m e
round-self s m e p =
    value-one (round binary64 s (m * up e) (down e)) (fin s m e) s (m * up e) (down e) (down_pos e) (round-fits binary64 s (m * up e) (down e)) p (own s m e p) (refl, refl)

-- ---- times 1.0, or -1.0

pub times-one : (x : Float) → T (fits binary64 x) → mul binary64 x +1 ≡ x
unfolding mul
times-one nan p = refl
times-one (inf s) p = ap inf (unlike-false s)
times-one (fin s m e) p = (λ i. round binary64 (unlike-false s i) (mul-one (m * up e) i) (mul-one (down e) i)) ∙ round-self s m e p

-- and 1.0 times it
pub one-times : (x : Float) → T (fits binary64 x) → mul binary64 +1 x ≡ x
unfolding mul
one-times nan p = refl
one-times (inf s) p = ap inf (false-unlike s)
one-times (fin s m e) p = (λ i. round binary64 (false-unlike s i) (one-mul (m * up e) i) (one-mul (down e) i)) ∙ round-self s m e p

pub times-sign : (b : Bool) (x : Float) → T (fits binary64 x) → mul binary64 x (sg b +1) ≡ sg b x
times-sign false x p = times-one x p
times-sign true x p = mul-neg x +1 ∙ ap neg (times-one x p)

-- ---- what fits always: sums, and so `dot`. The library has the sum, the difference, the product, the quotient and the negative

pub sg-fits : (b : Bool) (x : Float) → T (fits binary64 x) → T (fits binary64 (sg b x))
sg-fits false x p = p
sg-fits true x p = neg-fits binary64 x p

pub dot-fits : (q v : ℕ → Float) (k : ℕ) → T (fits binary64 (dot q v k))
unfolding dot fits
dot-fits q v zero = tt
dot-fits q v (suc k) = add-fits binary64 (dot q v k) (mul binary64 (q k) (v k))

-- and so what stands under a map of rows and columns does, where it did before
pub maps-fit : (o : Local) (f : Mat) (r c : ℕ) → T (fits binary64 (f r c)) → T (fits binary64 (cols o (rows o f) r c))
maps-fit o f r c h =
    cond-fits binary64 (inside o c) (dot (o.map (c - o.start)) (λ j. rows o f r (o.start + j)) o.width) (rows o f r c)
    (dot-fits (o.map (c - o.start)) (λ j. rows o f r (o.start + j)) o.width)
    (cond-fits binary64 (inside o r) (dot (o.map (r - o.start)) (λ j. f (o.start + j) c) o.width) (f r c)
    (dot-fits (o.map (r - o.start)) (λ j. f (o.start + j) c) o.width) h)
