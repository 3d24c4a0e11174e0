-- What `normalise` and one turn of the loop of `whole_root` do, on whole numbers. Assumes nothing.
use mathlib.Core.Path.{◌≡◌, refl, sym, ap, ◌∙◌, subst}
use Prim.Native.Nat.{ℕ, ◌+◌, ◌-◌, ◌*◌, ◌/◌, ◌%◌, ◌^◌, ◌≤◌, ◌<◌}
use native.Mathlib.Nat.{le_trans, lt_of_lt_of_le, lt_of_not-le, not-le_of_lt, mul-one, mul_assoc, mul_comm, mul_left_comm, mul-le-mul_right, mul-lt-mul_of_pos_right, mod-eq_of_lt, pow-succ'}
use native.Mathlib.Numerals.{add-one}
use native.Mathlib.Omega.{arith}
use lib.Pow.{pow_mono, pow_pos, pow-add}
use Rattle.num.specs.Parts.{Moved, WholeRoot}
use Rattle.num.proofs.Squares.{sq-mul, sq-next, odd-sq}

-- ---- `normalise`: the leading digit of t stands at the place k, and is moved up to 52

pub top-place : (t k : ℕ) → t < 2 ^ 53 → 2 ^ k ≤ t → k ≤ 52
top-place t k h low = below k (lt_of_not-le (λ (g : 53 ≤ k). not-le_of_lt h (le_trans (pow_mono g) low)))
  where
    below : (k : ℕ) → k < 53 → k ≤ 52
    below k h = omega arith

pub moved : (t k s : ℕ) → 2 ^ k ≤ t → t < 2 * 2 ^ k → k + s ≡ 52 → Moved t (t * 2 ^ s % 2 ^ 64) s
moved t k s low high e = subst (λ m. Moved t m s) (sym (mod-eq_of_lt (fits (t * 2 ^ s) under))) (record {
  is = refl;
  high = subst (λ z. z ≤ t * 2 ^ s) whole (mul-le-mul_right (2 ^ s) low);
  short = under;
  few = omega arith;
})
  where
    whole : 2 ^ k * 2 ^ s ≡ 2 ^ 52
    whole = sym (pow-add 2 k s) ∙ ap (λ (z : ℕ). 2 ^ z) e

    under : t * 2 ^ s < 2 ^ 53
    under = subst (λ z. t * 2 ^ s < z) (mul_assoc 2 (2 ^ k) (2 ^ s) ∙ ap (λ (z : ℕ). 2 * z) whole) (mul-lt-mul_of_pos_right high (pow_pos s))

    fits : (v : ℕ) → v < 2 ^ 53 → v < 2 ^ 64
    fits v h = omega arith

-- ---- `whole_root`

-- After i turns q is the whole part of the root of the i leading pairs of digits of a * 2 ^ 54, rem is the remainder, and top the digits that are left.
pub record Turn (a top rem q i : ℕ) : Type 0 where
  pub is : (q * q + rem) * 2 ^ 54 + top ≡ a * 4 ^ i
  pub rest : rem ≤ 2 * q
  pub left : top < 2 ^ 54
  pub short : q < 2 ^ i
  pub at : i ≤ 54

pub start : (a : ℕ) → a < 2 ^ 54 → Turn a a 0 0 0
start a h = record { is = omega (arith, mul-one a); rest = omega arith; left = h; short = omega arith; at = omega arith }

pub q-fits : (a top rem q i : ℕ) → Turn a top rem q i → q < 2 ^ 54
q-fits a top rem q i t = lt_of_lt_of_le t.short (pow_mono t.at)

four-more : (a i : ℕ) → a * 4 ^ (i + 1) ≡ 4 * (a * 4 ^ i)
four-more a i = ap (λ (z : ℕ). a * z) (ap (λ (z : ℕ). 4 ^ z) (add-one i) ∙ pow-succ' 4 i) ∙ mul_left_comm a 4 (4 ^ i)

two-more : (i : ℕ) → 2 ^ (i + 1) ≡ 2 * 2 ^ i
two-more i = ap (λ (z : ℕ). 2 ^ z) (add-one i) ∙ pow-succ' 2 i

pub zero-digit : (a top rem q i : ℕ) → Turn a top rem q i → i < 54 → rem * 4 + top / 2 ^ 52 < q * 4 + 1
    → Turn a (top % 2 ^ 52 * 4) (rem * 4 + top / 2 ^ 52) (q * 2) (i + 1)
zero-digit a top rem q i t l h = record {
  is = sum (q * q) (q * 2 * (q * 2)) (a * 4 ^ i) rem top t.is (sq-mul q 2) ∙ sym (four-more a i);
  rest = omega arith;
  left = omega arith;
  short = subst (λ (z : ℕ). q * 2 < z) (sym (two-more i)) (twice q (2 ^ i) t.short);
  at = omega arith;
}
  where
    sum : (s s' v rem top : ℕ) → (s + rem) * 2 ^ 54 + top ≡ v → s' ≡ s * 4 → (s' + (rem * 4 + top / 2 ^ 52)) * 2 ^ 54 + top % 2 ^ 52 * 4 ≡ 4 * v
    sum s s' v rem top e f = omega arith

    twice : (q p : ℕ) → q < p → q * 2 < 2 * p
    twice q p h = omega arith

pub one-digit : (a top rem q i : ℕ) → Turn a top rem q i → i < 54 → q * 4 + 1 ≤ rem * 4 + top / 2 ^ 52
    → Turn a (top % 2 ^ 52 * 4) (rem * 4 + top / 2 ^ 52 - (q * 4 + 1)) (q * 2 + 1) (i + 1)
one-digit a top rem q i t l h = record {
  is = sum (q * q) ((q * 2 + 1) * (q * 2 + 1)) (a * 4 ^ i) rem top q t.is (sq q) h ∙ sym (four-more a i);
  rest = small rem top q t.rest t.left;
  left = omega arith;
  short = subst (λ (z : ℕ). q * 2 + 1 < z) (sym (two-more i)) (twice q (2 ^ i) t.short);
  at = omega arith;
}
  where
    sq : (q : ℕ) → (q * 2 + 1) * (q * 2 + 1) ≡ 4 * (q * q + q) + 1
    sq q = ap (λ (z : ℕ). (z + 1) * (z + 1)) (mul_comm q 2) ∙ odd-sq q

    sum : (s s' v rem top q : ℕ) → (s + rem) * 2 ^ 54 + top ≡ v → s' ≡ 4 * (s + q) + 1 → q * 4 + 1 ≤ rem * 4 + top / 2 ^ 52
        → (s' + (rem * 4 + top / 2 ^ 52 - (q * 4 + 1))) * 2 ^ 54 + top % 2 ^ 52 * 4 ≡ 4 * v
    sum s s' v rem top q e f h = omega arith

    small : (rem top q : ℕ) → rem ≤ 2 * q → top < 2 ^ 54 → rem * 4 + top / 2 ^ 52 - (q * 4 + 1) ≤ 2 * (q * 2 + 1)
    small rem top q h l = omega arith

    twice : (q p : ℕ) → q < p → q * 2 + 1 < 2 * p
    twice q p h = omega arith

pub done : (a top rem q : ℕ) → Turn a top rem q 54 → WholeRoot (a * 2 ^ 54) q
done a top rem q t = record {
  low = omega (arith, last);
  high = subst (λ (z : ℕ). a * 2 ^ 54 < z) (sym (sq-next q)) (omega (arith, last, t.rest));
  short = t.short;
}
  where
    exact : (s a top : ℕ) → s * 2 ^ 54 + top ≡ a * 4 ^ 54 → top < 2 ^ 54 → s ≡ a * 2 ^ 54
    exact s a top e h = omega arith

    last : q * q + rem ≡ a * 2 ^ 54
    last = exact (q * q + rem) a top t.is t.left
