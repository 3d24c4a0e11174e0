-- Small dyadic numbers compute exactly: sums, differences, products and exact quotients of floats z / 2 ^ j are those of the numbers.
-- All rests on `round_exact`: a fraction k / 2 ^ j with a small k rounds to itself. Assumes nothing.
use mathlib.Core.Path.{◌≡◌, refl, sym, ap, ◌∙◌, subst}
use mathlib.Core.Logic.{◌⊎◌, inl, inr}
use mathlib.Core.Bool.{Bool, true, false, not, cond, ◌&&◌}
use Prim.Native.Nat.{ℕ, zero, suc, ◌+◌, ◌-◌, ◌*◌, ◌/◌, ◌%◌, ◌^◌, ◌≤◌, ◌<◌}
use native.Mathlib.Nat.{mul-sub, mul_assoc, mul_comm, mul_right_comm, mul-mul-mul_comm, mul-pos, add-mul, eq_of_mul-eq-mul_right, lt_of_lt_of_le, lt_of_le_of_lt, mul-lt-mul_of_pos_right, lt_of_mul-lt-mul_right, le_of_mul-le-mul_right, mul-le-mul_right, zero-mul, zero-lt-suc, add-zero, one-mul, le_of_lt, lt_irrefl, div-le_self, eq-zero-or-pos}
use native.Mathlib.Omega.{arith}
use lib.Dec.{T, eqb, ltb, ltb→lt, nltb→le, lit<, lit≤}
use lib.IntN.{ℤ, pos, neg_ℤ, nat_abs, ◌+ℤ◌, ◌-ℤ◌, ◌*ℤ◌, neg_ℤ-+ℤ, +ℤ_comm, zero-*ℤ}
use lib.Signed.{quot_z}
use lib.Pow.{pow-add, pow_pos, pow_mono, shl_lt}
use lib.Ieee.{Float, nan, inf, fin, binary64, up, down, round, sum, add, sub, mul, div, neg, unlike}
use lib.Ieee.Fits.{up_pos, down_pos}
use lib.Ieee.Exact.{HasValue, round_exact}
use borrow.Author.Tests.{ne_eqb}
use Rattle.laws.specs.Zeros.{+0, nz}
use Rattle.laws.specs.Dyadic.{with_sign, Dy, cap, finest}
use Rattle.laws.proofs.Zeros.{den}
use Rattle.laws.proofs.Negatives.{unlike-false}
use Rattle.laws.proofs.Integers.{sign_of, abs-sign, abs-of, sign_zero, sign-not, sign-mul, abs_neg, sub-ge, sub-lt, quot-size, quot-sign, quot_is, quot-mul}

-- ---- a fraction that is k / 2 ^ j rounds to that number

rest : (j : ℕ) → j ≤ finest → j + (finest - j) ≡ finest
rest j h = omega arith

room : (k i : ℕ) → i ≤ finest → k < cap → k * 2 ^ i < 2 ^ (finest + 1024)
room k i h small =
    let e : 53 + i ≤ finest + 1024 = omega arith in
    lt_of_lt_of_le (shl_lt 53 i small) (pow_mono e)

-- it has its value
pub round-value : (s : Bool) (num den k j : ℕ) → 0 < den → k < cap → j ≤ finest → num * 2 ^ j ≡ k * den → HasValue (round binary64 s num den) s num den
round-value s num den k j D small J h =
    let e : finest - j ≤ finest = omega arith in
    round_exact binary64 s num den k (finest - j) D small (room k (finest - j) e small)
    (ap (λ (x : ℕ). num * 2 ^ x) (sym (rest j J))
    ∙ ap (λ (x : ℕ). num * x) (pow-add 2 j (finest - j))
    ∙ sym (mul_assoc num (2 ^ j) (2 ^ (finest - j)))
    ∙ ap (λ (x : ℕ). x * 2 ^ (finest - j)) h
    ∙ mul_right_comm k den (2 ^ (finest - j)))

of-value : (x : Float) (s : Bool) (num den k j : ℕ) → 0 < den → num * 2 ^ j ≡ k * den → HasValue x s num den → Dy j (with_sign s k) x
of-value nan s num den k j D h v = v
of-value (inf t) s num den k j D h v = v
of-value (fin t m e) s num den k j D h v = (
  k,
  eq_of_mul-eq-mul_right den D (m * up e * 2 ^ j) (k * down e)
      (mul_right_comm (m * up e) (2 ^ j) den
      ∙ ap (λ (x : ℕ). x * 2 ^ j) v.1
      ∙ mul_right_comm num (down e) (2 ^ j)
      ∙ ap (λ (x : ℕ). x * down e) h
      ∙ mul_right_comm k den (down e)),
  ap (λ (b : Bool). with_sign b k) v.0,
)

-- and so it is that number
pub round-dy : (s : Bool) (num den k j : ℕ) → 0 < den → k < cap → j ≤ finest → num * 2 ^ j ≡ k * den → Dy j (with_sign s k) (round binary64 s num den)
round-dy s num den k j D small J h = of-value (round binary64 s num den) s num den k j D h (round-value s num den k j D small J h)

-- ---- two fractions over one denominator c, in units p: a / c is k / p, b / c is l / p

module _ (a b c k l p : ℕ) (A : a * p ≡ k * c) (B : b * p ≡ l * c) where
  pub plus-at : (a + b) * p ≡ (k + l) * c
  plus-at = add-mul a b p ∙ ap (λ (x : ℕ). x + b * p) A ∙ ap (λ (x : ℕ). k * c + x) B ∙ sym (add-mul k l c)

  minus-at : (a - b) * p ≡ (k - l) * c
  minus-at = less a b p ∙ ap (λ (x : ℕ). x - b * p) A ∙ ap (λ (x : ℕ). k * c - x) B ∙ sym (less k l c)
    where
      less : (a b p : ℕ) → (a - b) * p ≡ a * p - b * p
      less a b p = mul_comm (a - b) p ∙ mul-sub p a b ∙ (λ i. mul_comm p a i - mul_comm p b i)

  pub lt_at : 0 < p → a < b → k < l
  lt_at P h = lt_of_mul-lt-mul_right c (subst (λ (x : ℕ). x < l * c) A (subst (λ (x : ℕ). a * p < x) B (mul-lt-mul_of_pos_right h P)))

  pub le-at : 0 < c → a ≤ b → k ≤ l
  le-at C h = le_of_mul-le-mul_right (subst (λ (x : ℕ). x ≤ l * c) A (subst (λ (x : ℕ). a * p ≤ x) B (mul-le-mul_right p h))) C

  pub eq-at : 0 < c → a ≡ b → k ≡ l
  eq-at C h = eq_of_mul-eq-mul_right c C k l (sym A ∙ ap (λ (x : ℕ). x * p) h ∙ B)

-- ---- a sum

module _ (j a b c k l : ℕ) (C : 0 < c) (J : j ≤ finest) (A : a * 2 ^ j ≡ k * c) (B : b * 2 ^ j ≡ l * c) (small : k + l < cap) where
  -- b / c less a / c, and a / c less b / c
  more-dy : (s : Bool) → Dy j (with_sign s (l - k)) (round binary64 s (b - a) c)
  more-dy s =
      let h : l - k < cap = omega arith in
      round-dy s (b - a) c (l - k) j C h J (minus-at b a c l k (2 ^ j) B A)

  less-dy : (s : Bool) → Dy j (with_sign s (k - l)) (round binary64 s (a - b) c)
  less-dy s =
      let h : k - l < cap = omega arith in
      round-dy s (a - b) c (k - l) j C h J (minus-at a b c k l (2 ^ j) A B)

  sum-dy : (s t : Bool) → Dy j (with_sign s k +ℤ with_sign t l) (sum binary64 s a t b c)
  unfolding sum
  sum-dy false false = round-dy false (a + b) c (k + l) j C small J (plus-at a b c k l (2 ^ j) A B)
  sum-dy true true =
      subst (λ (z : ℤ). Dy j z (round binary64 true (a + b) c)) (neg_ℤ-+ℤ (pos k) (pos l))
      (round-dy true (a + b) c (k + l) j C small J (plus-at a b c k l (2 ^ j) A B))
  sum-dy false true = go (ltb a b) (ltb→lt a b) (nltb→le a b)
    where
      go : (q : Bool) → (T q → a < b) → (T (not q) → b ≤ a) → Dy j (pos k +ℤ neg_ℤ (pos l)) (cond q (round binary64 true (b - a) c) (round binary64 false (a - b) c))
      go true x y = rw (sub-lt k l (lt_at a b c k l (2 ^ j) A B (pow_pos j) (x tt))) (more-dy true)
      go false x y = rw (sub-ge k l (le-at b a c l k (2 ^ j) B A C (y tt))) (less-dy false)
  sum-dy true false = go (ltb a b) (ltb b a) (ltb→lt a b) (nltb→le a b) (ltb→lt b a) (nltb→le b a)
    where
      go : (q r : Bool) → (T q → a < b) → (T (not q) → b ≤ a) → (T r → b < a) → (T (not r) → a ≤ b)
          → Dy j (neg_ℤ (pos k) +ℤ pos l) (cond q (round binary64 false (b - a) c) (round binary64 (true && r) (a - b) c))
      go true r x y u v = rw (+ℤ_comm (neg_ℤ (pos k)) (pos l), sub-ge l k (le_of_lt (lt_at a b c k l (2 ^ j) A B (pow_pos j) (x tt)))) (more-dy false)
      go false true x y u v = rw (+ℤ_comm (neg_ℤ (pos k)) (pos l), sub-lt l k (lt_at b a c l k (2 ^ j) B A (pow_pos j) (u tt))) (less-dy true)
      go false false x y u v =
          let lk = le-at b a c l k (2 ^ j) B A C (y tt) in
          let kl = le-at a b c k l (2 ^ j) A B C (v tt) in
          let e : l - k ≡ k - l = omega arith in
          rw (+ℤ_comm (neg_ℤ (pos k)) (pos l), sub-ge l k kl, e) (less-dy false)

-- ---- two finite floats over one denominator

pub left_at : (m p d k c : ℕ) → m * p ≡ k * c → m * d * p ≡ k * (c * d)
left_at m p d k c h = mul_right_comm m d p ∙ ap (λ (x : ℕ). x * d) h ∙ mul_assoc k c d

pub right-at : (m p d k c : ℕ) → m * p ≡ k * c → m * d * p ≡ k * (d * c)
right-at m p d k c h = left_at m p d k c h ∙ ap (λ (x : ℕ). k * x) (mul_comm c d)

-- ---- the operations

pub neg-dy : (j : ℕ) (z : ℤ) (x : Float) → Dy j z x → Dy j (neg_ℤ z) (neg x)
unfolding neg
neg-dy j z nan p = p
neg-dy j z (inf s) p = p
neg-dy j z (fin s m e) p = (p.0, p.1, sign-not s p.0 ∙ ap neg_ℤ p.2)

pub add-dy : (j : ℕ) (z w : ℤ) (x y : Float) → j ≤ finest → nat_abs z + nat_abs w < cap → Dy j z x → Dy j w y → Dy j (z +ℤ w) (add binary64 x y)
unfolding add
add-dy j z w nan y J h p q = absurd p
add-dy j z w (inf s) y J h p q = absurd p
add-dy j z w (fin s m e) nan J h p q = absurd q
add-dy j z w (fin s m e) (inf t) J h p q = absurd q
add-dy j z w (fin s m e) (fin t n d) J h p q =
    rw (← p.2, ← q.2)
    (sum-dy j (m * up e * down d) (n * up d * down e) (down e * down d) p.0 q.0 (den e d) J
    (left_at (m * up e) (2 ^ j) (down d) p.0 (down e) p.1)
    (right-at (n * up d) (2 ^ j) (down e) q.0 (down d) q.1)
    (rw (abs-of s p.0 z p.2, abs-of t q.0 w q.2) h) s t)

pub sub-dy : (j : ℕ) (z w : ℤ) (x y : Float) → j ≤ finest → nat_abs z + nat_abs w < cap → Dy j z x → Dy j w y → Dy j (z -ℤ w) (sub binary64 x y)
unfolding sub
sub-dy j z w x y J h p q = add-dy j z (neg_ℤ w) x (neg y) J (rw (abs_neg w) h) p (neg-dy j w y q)

pub mul-dy : (i j : ℕ) (z w : ℤ) (x y : Float) → i + j ≤ finest → nat_abs z * nat_abs w < cap → Dy i z x → Dy j w y → Dy (i + j) (z *ℤ w) (mul binary64 x y)
unfolding mul
mul-dy i j z w nan y J h p q = absurd p
mul-dy i j z w (inf s) y J h p q = absurd p
mul-dy i j z w (fin s m e) nan J h p q = absurd q
mul-dy i j z w (fin s m e) (inf t) J h p q = absurd q
mul-dy i j z w (fin s m e) (fin t n d) J h p q =
    subst (λ (v : ℤ). Dy (i + j) v (round binary64 (unlike s t) (m * up e * (n * up d)) (down e * down d)))
    (sign-mul s t p.0 q.0 ∙ (λ a. p.2 a *ℤ q.2 a))
    (round-dy (unlike s t) (m * up e * (n * up d)) (down e * down d) (p.0 * q.0) (i + j) (den e d)
    (rw (abs-of s p.0 z p.2, abs-of t q.0 w q.2) h)
    J
    (ap (λ (v : ℕ). m * up e * (n * up d) * v) (pow-add 2 i j)
    ∙ mul-mul-mul_comm (m * up e) (n * up d) (2 ^ i) (2 ^ j)
    ∙ (λ a. p.1 a * q.1 a)
    ∙ mul-mul-mul_comm p.0 (down e) q.0 (down d)))

-- ---- the same value in finer or coarser units

pub raise-dy : (i j : ℕ) (z : ℤ) (x : Float) → Dy j z x → Dy (j + i) (z *ℤ pos (2 ^ i)) x
raise-dy i j z nan p = p
raise-dy i j z (inf s) p = p
raise-dy i j z (fin s m e) p = (
  p.0 * 2 ^ i,
  ap (λ (v : ℕ). m * up e * v) (pow-add 2 j i)
      ∙ sym (mul_assoc (m * up e) (2 ^ j) (2 ^ i))
      ∙ ap (λ (v : ℕ). v * 2 ^ i) p.1
      ∙ mul_right_comm p.0 (down e) (2 ^ i),
  ap (λ (b : Bool). with_sign b (p.0 * 2 ^ i)) (sym (unlike-false s)) ∙ sign-mul s false p.0 (2 ^ i) ∙ ap (λ (v : ℤ). v *ℤ pos (2 ^ i)) p.2,
)

pub lower-dy : (i j : ℕ) (z : ℤ) (x : Float) → Dy (j + i) (z *ℤ pos (2 ^ i)) x → Dy j z x
lower-dy i j z nan p = p
lower-dy i j z (inf s) p = p
lower-dy i j z (fin s m e) p = (
  nat_abs z,
  eq_of_mul-eq-mul_right (2 ^ i) (pow_pos i) (m * up e * 2 ^ j) (nat_abs z * down e)
      (mul_assoc (m * up e) (2 ^ j) (2 ^ i)
      ∙ ap (λ (v : ℕ). m * up e * v) (sym (pow-add 2 j i))
      ∙ p.1
      ∙ ap (λ (v : ℕ). v * down e) (quot-size s false p.0 (2 ^ i) z (pos (2 ^ i)) p.2 refl)
      ∙ mul_right_comm (nat_abs z) (2 ^ i) (down e)),
  ap (λ (b : Bool). with_sign b (nat_abs z)) (sym (unlike-false s)) ∙ quot-sign s false p.0 (2 ^ i) z (pos (2 ^ i)) (pow_pos i) p.2 refl,
)

-- ---- quotients

nonzero : (l u p n c : ℕ) → 0 < n → 0 < c → l * u * p ≡ n * c → 0 < l * u
nonzero l u p n c N C h = by (eq-zero-or-pos (l * u))
  where
    by : (l * u ≡ 0) ⊎ (0 < l * u) → 0 < l * u
    by (inl e) = absurd (lt_irrefl 0 (subst (λ (x : ℕ). 0 < x) (sym h ∙ ap (λ (x : ℕ). x * p) e ∙ zero-mul p) (mul-pos N C)))
    by (inr g) = g

not-zero : (l u : ℕ) → 0 < l * u → eqb l 0 ≡ false
not-zero l u h = ne_eqb l 0 (λ e. lt_irrefl 0 (subst (λ (x : ℕ). 0 < x) (ap (λ (x : ℕ). x * u) e ∙ zero-mul u) h))

-- an exact quotient: of v * w by w
pub div-dy : (i j : ℕ) (v w : ℤ) (x y : Float) → i ≤ finest → nat_abs v < cap → 0 < nat_abs w → Dy (i + j) (v *ℤ w) x → Dy j w y → Dy i v (div binary64 x y)
unfolding div
div-dy i j v w nan y J h n p q = absurd p
div-dy i j v w (inf s) y J h n p q = absurd p
div-dy i j v w (fin s m e) nan J h n p q = absurd q
div-dy i j v w (fin s m e) (inf t) J h n p q = absurd q
div-dy i j v w (fin s m e) (fin t l d) J h n p q =
    let N : 0 < q.0 = subst (λ (x : ℕ). 0 < x) (sym (abs-of t q.0 w q.2)) n in
    let L : 0 < l * up d = nonzero l (up d) (2 ^ j) q.0 (down d) N (down_pos d) q.1 in
    rw (not-zero l (up d) L)
    (subst (λ (z : ℤ). Dy i z (round binary64 (unlike s t) (m * up e * down d) (l * up d * down e))) (quot-sign s t p.0 q.0 v w N p.2 q.2)
    (round-dy (unlike s t) (m * up e * down d) (l * up d * down e) (nat_abs v) i (mul-pos L (down_pos e)) h J
    (eq_of_mul-eq-mul_right (2 ^ j) (pow_pos j) (m * up e * down d * 2 ^ i) (nat_abs v * (l * up d * down e))
    (mul_assoc (m * up e * down d) (2 ^ i) (2 ^ j)
    ∙ ap (λ (x : ℕ). m * up e * down d * x) (sym (pow-add 2 i j))
    ∙ left_at (m * up e) (2 ^ (i + j)) (down d) p.0 (down e) p.1
    ∙ ap (λ (x : ℕ). x * (down e * down d)) (quot-size s t p.0 q.0 v w p.2 q.2)
    ∙ mul_assoc (nat_abs v) q.0 (down e * down d)
    ∙ ap (λ (x : ℕ). nat_abs v * x) (sym (right-at (l * up d) (2 ^ j) (down e) q.0 (down d) q.1))
    ∙ sym (mul_assoc (nat_abs v) (l * up d * down e) (2 ^ j))))))

-- the same for a number z that w divides
pub quot-dy : (i j : ℕ) (z w : ℤ) (x y : Float) → i ≤ finest → nat_abs z < cap → 0 < nat_abs w → nat_abs z % nat_abs w ≡ 0
    → Dy (i + j) z x → Dy j w y → Dy i (quot_z z w) (div binary64 x y)
quot-dy i j z w x y J h n r p q =
    div-dy i j (quot_z z w) w x y J small n (subst (λ (v : ℤ). Dy (i + j) v x) (sym (quot-mul z w r)) p) q
  where
    small : nat_abs (quot_z z w) < cap
    small =
        subst (λ (k : ℕ). k < cap) (sym (ap nat_abs (quot_is z w) ∙ abs-sign (unlike (sign_of z) (sign_of w)) (nat_abs z / nat_abs w)))
        (lt_of_le_of_lt (div-le_self (nat_abs z) (nat_abs w)) h)

-- division by a power of two: 2.0 is `fin false 1 (pos 1)`, 4.0 is `fin false 1 (pos 2)`
pub pow-dy : (i : ℕ) → Dy 0 (pos (2 ^ i)) (fin false 1 (pos i))
pow-dy i = (2 ^ i, ap (λ (x : ℕ). x * 1) (one-mul (2 ^ i)), refl)

pub div-pow-dy : (i j : ℕ) (z : ℤ) (x : Float) → j + i ≤ finest → nat_abs z < cap → Dy j z x → Dy (j + i) z (div binary64 x (fin false 1 (pos i)))
div-pow-dy i j z x J h p =
    div-dy (j + i) 0 z (pos (2 ^ i)) x (fin false 1 (pos i)) J h (pow_pos i)
    (subst (λ (n : ℕ). Dy n (z *ℤ pos (2 ^ i)) x) (sym (add-zero (j + i))) (raise-dy i j z x p))
    (pow-dy i)

-- ---- zeros: of either sign, and in any units

zero-size : (j : ℕ) (e : ℤ) → zero * up e * 2 ^ j ≡ 0 * down e
zero-size j e = ap (λ (x : ℕ). x * 2 ^ j) (zero-mul (up e)) ∙ zero-mul (2 ^ j) ∙ sym (zero-mul (down e))

zero_is : (j : ℕ) (s : Bool) (e : ℤ) → Dy j (pos 0) (fin s zero e)
zero_is j s e = (0, zero-size j e, sign_zero s)

zero_number : (j : ℕ) (z : ℤ) (s : Bool) (e : ℤ) → Dy j z (fin s zero e) → z ≡ pos 0
zero_number j z s e p = sym p.2 ∙ ap (with_sign s) none ∙ sign_zero s
  where
    none : p.0 ≡ 0
    none = eq_of_mul-eq-mul_right (down e) (down_pos e) p.0 0 (sym p.1 ∙ zero-size j e)

to-nz : (j : ℕ) (z : ℤ) (x : Float) → Dy j z x → Dy j z (nz x)
to-nz j z nan p = p
to-nz j z (inf s) p = p
to-nz j z (fin s zero e) p = subst (λ (v : ℤ). Dy j v +0) (sym (zero_number j z s e p)) (zero_is j false (pos 0))
to-nz j z (fin s (suc m) e) p = p

of-nz : (j : ℕ) (z : ℤ) (x : Float) → Dy j z (nz x) → Dy j z x
of-nz j z nan p = p
of-nz j z (inf s) p = p
of-nz j z (fin s zero e) p = subst (λ (v : ℤ). Dy j v (fin s zero e)) (sym (zero_number j z false (pos 0) p)) (zero_is j s e)
of-nz j z (fin s (suc m) e) p = p

-- the number does not turn on the sign of a zero
pub nz-dy : (j : ℕ) (z : ℤ) (x y : Float) → nz x ≡ nz y → Dy j z x → Dy j z y
nz-dy j z x y e p = of-nz j z y (subst (Dy j z) e (to-nz j z x p))

-- the floats of the number 0 are the zeros
pub zero-nz : (j : ℕ) (x : Float) → Dy j (pos 0) x → nz x ≡ +0
zero-nz j nan p = absurd p
zero-nz j (inf s) p = absurd p
zero-nz j (fin s zero e) p = refl
zero-nz j (fin s (suc m) e) p =
    absurd
    (lt_irrefl 0
    (subst (λ (n : ℕ). 0 < n) (p.1 ∙ ap (λ (n : ℕ). n * down e) (abs-of s p.0 (pos 0) p.2) ∙ zero-mul (down e))
    (mul-pos (mul-pos (zero-lt-suc m) (up_pos e)) (pow_pos j))))

pub zero-dy : (i j : ℕ) (x : Float) → Dy i (pos 0) x → Dy j (pos 0) x
zero-dy i j x p = nz-dy j (pos 0) +0 x (sym (zero-nz i x p)) (zero_is j false (pos 0))

pub zero-div-dy : (i j k : ℕ) (w : ℤ) (x y : Float) → 0 < nat_abs w → Dy i (pos 0) x → Dy j w y → Dy k (pos 0) (div binary64 x y)
zero-div-dy i j k w x y n p q =
    zero-dy 0 k (div binary64 x y)
    (div-dy 0 j (pos 0) w x y (lit≤ tt) (lit< tt) n
    (subst (λ (z : ℤ). Dy (0 + j) z x) (sym (zero-*ℤ w)) (zero-dy i (0 + j) x p))
    q)
