-- The exact value of an f64, from its bits: below 2 in magnitude its exponent's field is small, and its millionths are those of a fraction whose
-- divisor is a power of two. Assumes nothing.
use mathlib.Core.Path.{◌≡◌, sym, ap, ◌∙◌, subst}
use mathlib.Core.Logic.{◌⊎◌, inl, inr, ⊎_elim}
use mathlib.Core.Bool.{Bool, true, false, cond, not}
use Prim.Native.Nat.{ℕ, suc, ◌+◌, ◌-◌, ◌*◌, ◌/◌, ◌%◌, ◌^◌, ◌≤◌, ◌<◌}
use native.Mathlib.Nat.{le_trans, le-add_right, not-le_of_lt, mul-one, mul-le-mul_left, mul-le-mul_right, mul-lt-mul_of_pos_right, div-lt_iff_lt-mul}
use native.Mathlib.Omega.{arith}
use lib.Dec.{T, leb, eqb, ltb→lt}
use lib.Pow.{pow_pos, pow-add, pow_mono}
use lib.IntN.{ℤ}
use lib.Ieee.{Float, nan, inf, fin, binary64, up, down, neg, lt, odd, is_nan, fits, of_bits, of_fields, to_bits}
use lib.Ieee.Digits.{Equals, odd_val}
use lib.Ieee.Fits.{down_pos, and_l, and_r}
use lib.Ieee.Bits.{of_bits-to_bits}
use lib.Ieee.Scale.{finite}
use Rattle.std.proofs.lemmas.Bool.{cases_lt}
use Rattle.gate.specs.Complex.{f2}
use Rattle.text.specs.Millionths.{rounded, million, millionths, in_range}
use Rattle.text.proofs.Rounding.{rounded-most, rounded-same}

-- ---- the range

pub range-finite : (x : Float) → in_range x ≡ true → T (finite x)
unfolding in_range lt of_bits neg
range-finite nan h = absurd (subst T (sym h) tt)
range-finite (inf true) h = absurd (subst T (sym h) tt)
range-finite (inf false) h = absurd (subst T (sym h) tt)
range-finite (fin s m e) h = tt

pub range-number : (x : Float) → in_range x ≡ true → T (not (is_nan x))
unfolding is_nan
range-number nan h = range-finite nan h
range-number (inf s) h = tt
range-number (fin s m e) h = tt

-- a magnitude below 2
range-below : (s : Bool) (m : ℕ) (e : ℤ) → in_range (fin s m e) ≡ true → m * up e < 2 * down e
unfolding in_range lt of_bits neg
range-below true m e h =
    let t = ltb→lt (m * up e * 1) (1 * 2 * down e) (and_l (lt (neg f2) (fin true m e)) (lt (fin true m e) f2) (subst T (sym h) tt)) in
    omega arith
range-below false m e h =
    let t = ltb→lt (m * up e * 1) (1 * 2 * down e) (and_r (lt (neg f2) (fin false m e)) (lt (fin false m e) f2) (subst T (sym h) tt)) in
    omega arith

-- ---- the value, by the fields of the bits

-- a field of 0 has no leading digit
low_value : (s : Bool) (t : ℕ) → Equals (of_fields binary64 s 0 t) t (2 ^ 1074)
unfolding of_fields
low_value s t = subst (λ (n : ℕ). Equals (odd 53 s t 0 1074) n (2 ^ 1074)) (mul-one t) (odd_val 53 s t 0 1074)

high_value : (s : Bool) (k t : ℕ)
    → T (finite (of_fields binary64 s (suc k) t)) → Equals (of_fields binary64 s (suc k) t) ((2 ^ 52 + t) * 2 ^ k) (2 ^ 1074)
unfolding of_fields
high_value s k t = by (eqb (suc k) 2047) (eqb t 0)
  where
    by : (a b : Bool) → T (finite (cond a (cond b (inf s) nan) (odd 53 s (2 ^ 52 + t) k 1074)))
        → Equals (cond a (cond b (inf s) nan) (odd 53 s (2 ^ 52 + t) k 1074)) ((2 ^ 52 + t) * 2 ^ k) (2 ^ 1074)
    by true true h = absurd h
    by true false h = absurd h
    by false b h = odd_val 53 s (2 ^ 52 + t) k 1074

-- the exponent's field and the digits
abbrev field : Float → ℕ
field x = to_bits binary64 x % 2 ^ 63 / 2 ^ 52

abbrev digits : Float → ℕ
digits x = to_bits binary64 x % 2 ^ 52

fields : (x : Float) → T (fits binary64 x) → of_fields binary64 (leb (2 ^ 63) (to_bits binary64 x)) (field x) (digits x) ≡ x
unfolding of_bits
fields x held = of_bits-to_bits binary64 x held

value_low : (x : Float) → T (fits binary64 x) → field x ≡ 0 → Equals x (digits x) (2 ^ 1074)
value_low x held h =
    let s = leb (2 ^ 63) (to_bits binary64 x) in
    subst (λ v. Equals v (digits x) (2 ^ 1074)) (sym (ap (λ k. of_fields binary64 s k (digits x)) h) ∙ fields x held) (low_value s (digits x))

value-high : (x : Float) (k : ℕ) → T (fits binary64 x) → T (finite x) → field x ≡ suc k → Equals x ((2 ^ 52 + digits x) * 2 ^ k) (2 ^ 1074)
value-high x k held f h =
    let s = leb (2 ^ 63) (to_bits binary64 x) in
    let e : of_fields binary64 s (suc k) (digits x) ≡ x = sym (ap (λ j. of_fields binary64 s j (digits x)) h) ∙ fields x held in
    subst (λ v. Equals v ((2 ^ 52 + digits x) * 2 ^ k) (2 ^ 1074)) e (high_value s k (digits x) (subst (λ v. T (finite v)) (sym e) f))

-- ---- below 2 the field is at most 1023

-- a fraction a / d below 2, in other terms n / p
less-than-two : (a d n p : ℕ) → 0 < p → a < 2 * d → a * p ≡ n * d → n < 2 * p
less-than-two a d n p P h e = ⊎_elim (λ g. g) (λ g. absurd (omega (arith, mul-lt-mul_of_pos_right h P, mul-le-mul_right d g, e))) (cases_lt n (2 * p))

range-value : (x : Float) (n p : ℕ) → in_range x ≡ true → 0 < p → Equals x n p → n < 2 * p
range-value nan n p r P e = absurd e
range-value (inf s) n p r P e = absurd e
range-value (fin s m e) n p r P q = less-than-two (m * up e) (down e) n p P (range-below s m e r) q

pub field-most : (x : Float) → T (fits binary64 x) → in_range x ≡ true → field x ≤ 1023
field-most x held r = by (cases_lt 1023 (field x))
  where
    by : (1023 < field x) ⊎ (field x ≤ 1023) → field x ≤ 1023
    by (inr h) = h
    by (inl h) =
        let k : ℕ = field x - 1 in
        let e : field x ≡ suc k = omega arith in
        let v = range-value x ((2 ^ 52 + digits x) * 2 ^ k) (2 ^ 1074) r (pow_pos 1074) (value-high x k held (range-finite x r) e) in
        absurd (too_large (digits x) (2 ^ k) (pow_mono {i = 1023} {j = k} (omega arith)) v)
      where
        too_large : (d p : ℕ) → 2 ^ 1023 ≤ p → (2 ^ 52 + d) * p < 2 * 2 ^ 1074 → ⊥
        too_large d p g v = not-le_of_lt v (le_trans (mul-le-mul_left (2 ^ 52) g) (mul-le-mul_right p (le-add_right (2 ^ 52) d)))

-- ---- the millionths

millionths-value : (x : Float) (n p : ℕ) → 0 < p → Equals x n p → millionths x ≡ rounded (n * million) p
unfolding millionths
millionths-value nan n p P e = absurd e
millionths-value (inf s) n p P e = absurd e
millionths-value (fin s m e) n p P q = rounded-same (m * up e * million) (down e) (n * million) p (down_pos e) P (omega (arith, q))

pub millionths-low : (x : Float) → T (fits binary64 x) → field x ≡ 0 → millionths x ≡ rounded (digits x * million) (2 ^ 1074)
millionths-low x held h = millionths-value x (digits x) (2 ^ 1074) (pow_pos 1074) (value_low x held h)

pub millionths-high : (x : Float) → T (fits binary64 x) → in_range x ≡ true → 0 < field x
    → millionths x ≡ rounded ((2 ^ 52 + digits x) * million) (2 ^ (1075 - field x))
millionths-high x held r h =
    let k : ℕ = field x - 1 in
    let e : field x ≡ suc k = omega arith in
    let n : ℕ = 2 ^ 52 + digits x in
    let l : k ≤ 1074 = omega (arith, field-most x held r) in
    let j : 1074 - k ≡ 1075 - field x = omega arith in
    millionths-value x (n * 2 ^ k) (2 ^ 1074) (pow_pos 1074) (value-high x k held (range-finite x r) e)
    ∙ rounded-same (n * 2 ^ k * million) (2 ^ 1074) (n * million) (2 ^ (1074 - k)) (pow_pos 1074) (pow_pos (1074 - k)) (cross n k l)
    ∙ ap (λ i. rounded (n * million) (2 ^ i)) j
  where
    cross : (n k : ℕ) → k ≤ 1074 → n * 2 ^ k * million * 2 ^ (1074 - k) ≡ n * million * 2 ^ 1074
    cross n k l =
        let a : k + (1074 - k) ≡ 1074 = omega arith in
        let b : 2 ^ k * 2 ^ (1074 - k) ≡ 2 ^ 1074 = sym (pow-add 2 k (1074 - k)) ∙ ap (λ i. 2 ^ i) a in
        let c : n * 2 ^ k * million * 2 ^ (1074 - k) ≡ n * million * (2 ^ k * 2 ^ (1074 - k)) = omega arith in
        c ∙ ap (λ z. n * million * z) b

pub millionths-most : (x : Float) → in_range x ≡ true → millionths x ≤ 2 * million
unfolding millionths
millionths-most nan r = omega arith
millionths-most (inf s) r = omega arith
millionths-most (fin s m e) r = most (m * up e) (down e) (down_pos e) (range-below s m e r)
  where
    most : (a d : ℕ) → 0 < d → a < 2 * d → rounded (a * million) d ≤ 2 * million
    most a d D h =
        let cut = (div-lt_iff_lt-mul {k = d} {x = a * million} {y = 2 * million} D).1 (omega (arith, h)) in
        omega (arith, rounded-most (a * million) d, cut)
