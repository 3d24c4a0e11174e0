-- The operations see their arguments only up to the sign of a zero: sums, differences, products, negation and comparisons of all floats, the infinities
-- and nan too, and quotients where the divisor is no zero. A fraction 0 / c rounds to a zero, and a zero adds nothing. Assumes nothing.
use mathlib.Core.Path.{◌≡◌, refl, sym, ap, ◌∙◌, subst}
use mathlib.Core.Logic.{◌≢◌}
use mathlib.Core.Bool.{Bool, true, false, not, ◌&&◌, ◌||◌, beq, cond}
use Prim.Native.Nat.{ℕ, zero, suc, ◌*◌, ◌^◌, ◌<◌}
use native.Mathlib.Nat.{zero-mul, mul-zero, zero-add, add-zero, mul-pos, mul_assoc, mul_comm, zero-lt-suc, lt_irrefl, sub-zero}
use lib.IntN.{ℤ, pos}
use lib.Dec.{ltb, eqb, leb-suc-zero, eqb-zero-suc, eqb-suc-zero, lit<}
use lib.Ieee.{Float, nan, inf, fin, binary64, low, up, down, round, sum, add, sub, mul, div, neg, unlike, lt, eq, le, below, level, of_bits}
use lib.Ieee.Fits.{up_pos, down_pos}
use lib.Ieee.Exact.{HasValue, round_exact}
use lib.Ieee.Scale.{round_same}
use borrow.Author.Tests.{lt-ltb}
use Rattle.laws.specs.Zeros.{+0, +1, nz, sg}

-- ---- the literals 0.0 and 1.0, as code has them

pub zero_bits : of_bits binary64 0 ≡ +0
unfolding of_bits
zero_bits = refl

pub one-bits : of_bits binary64 0x3ff0_0000_0000_0000 ≡ +1
unfolding of_bits
one-bits = refl

-- a sign is told by what is below 0.0
pub lt-sign : (s : Bool) → lt (sg s +1) +0 ≡ s
unfolding lt neg
lt-sign false = refl
lt-sign true = refl

-- ---- only zeros lose their sign

minus-one-not : nz (fin true 1 (pos 0)) ≡ fin true 1 (pos 0)
minus-one-not = refl

infinities-not : nz (inf true) ≡ inf true
infinities-not = refl

pub nz-nz : (x : Float) → nz (nz x) ≡ nz x
nz-nz nan = refl
nz-nz (inf s) = refl
nz-nz (fin s zero e) = refl
nz-nz (fin s (suc m) e) = refl

-- ---- a fraction 0 / c rounds to a zero

nz-zero : (x : Float) (s : Bool) (c : ℕ) → 0 < c → HasValue x s 0 c → nz x ≡ +0
nz-zero nan s c C v = absurd v
nz-zero (inf t) s c C v = absurd v
nz-zero (fin t zero e) s c C v = refl
nz-zero (fin t (suc m) e) s c C v =
    absurd (lt_irrefl 0 (subst (λ (x : ℕ). 0 < x) (v.1 ∙ zero-mul (down e)) (mul-pos (mul-pos (zero-lt-suc m) (up_pos e)) C)))

pub round-zero : (s : Bool) (c : ℕ) → 0 < c → nz (round binary64 s 0 c) ≡ +0
round-zero s c C =
    nz-zero (round binary64 s 0 c) s c C (round_exact binary64 s 0 c 0 0 C (lit< tt) (lit< tt) (zero-mul (2 ^ low binary64) ∙ sym (zero-mul c)))

-- what a zero's significand makes of a product is 0
pub flat : (u d : ℕ) → zero * u * d ≡ 0
flat u d = ap (λ (x : ℕ). x * d) (zero-mul u) ∙ zero-mul d

pub den : (e d : ℤ) → 0 < down e * down d
den e d = mul-pos (down_pos e) (down_pos d)

some : (b : ℕ) → ltb 0 (suc b) ≡ true
some b = lt-ltb 0 (suc b) (zero-lt-suc b)

-- ---- a sum with a zero on one side

abbrev rnd : Bool → ℕ → ℕ → Float
rnd s n c = round binary64 s n c

left : (s t : Bool) (b c : ℕ) → 0 < c → nz (sum binary64 s 0 t b c) ≡ nz (rnd t b c)
unfolding sum
left s t zero c C = go s t ∙ sym (round-zero t c C)
  where
    go : (s t : Bool) → nz (cond (beq s t) (rnd s 0 c) (cond false (rnd t 0 c) (rnd (s && false) 0 c))) ≡ +0
    go false false = round-zero false c C
    go false true = round-zero false c C
    go true false = round-zero false c C
    go true true = round-zero true c C
left false false (suc b) c C = ap (λ (x : ℕ). nz (rnd false x c)) (zero-add (suc b))
left true true (suc b) c C = ap (λ (x : ℕ). nz (rnd true x c)) (zero-add (suc b))
left false true (suc b) c C = rw (some b, sub-zero (suc b))
left true false (suc b) c C = rw (some b, sub-zero (suc b))

right : (s t : Bool) (a c : ℕ) → 0 < c → nz (sum binary64 s a t 0 c) ≡ nz (rnd s a c)
unfolding sum
right s t zero c C = left s t 0 c C ∙ round-zero t c C ∙ sym (round-zero s c C)
right false false (suc a) c C = ap (λ (x : ℕ). nz (rnd false x c)) (add-zero (suc a))
right true true (suc a) c C = ap (λ (x : ℕ). nz (rnd true x c)) (add-zero (suc a))
right false true (suc a) c C = rw (leb-suc-zero (suc a), sub-zero (suc a))
right true false (suc a) c C = rw (leb-suc-zero (suc a), some a, sub-zero (suc a))

zero_left : (s : Bool) (e : ℤ) (t : Bool) (n : ℕ) (d : ℤ) → nz (add binary64 (fin s zero e) (fin t n d)) ≡ nz (rnd t (n * up d) (down d))
unfolding add
zero_left s e t n d =
    ap (λ (x : ℕ). nz (sum binary64 s x t (n * up d * down e) (down e * down d))) (flat (up e) (down d))
    ∙ left s t (n * up d * down e) (down e * down d) (den e d)
    ∙ ap nz (round_same binary64 t (n * up d * down e) (down e * down d) (n * up d) (down d) (den e d) (down_pos d) (mul_assoc (n * up d) (down e) (down d)))

zero_right : (s : Bool) (m : ℕ) (e : ℤ) (t : Bool) (d : ℤ) → nz (add binary64 (fin s m e) (fin t zero d)) ≡ nz (rnd s (m * up e) (down e))
unfolding add
zero_right s m e t d =
    ap (λ (x : ℕ). nz (sum binary64 s (m * up e * down d) t x (down e * down d))) (flat (up d) (down e))
    ∙ right s t (m * up e * down d) (down e * down d) (den e d)
    ∙ ap nz
    (round_same binary64 s (m * up e * down d) (down e * down d) (m * up e) (down e) (den e d) (down_pos e)
    (mul_assoc (m * up e) (down d) (down e) ∙ ap (λ (x : ℕ). m * up e * x) (mul_comm (down d) (down e))))

pub add-nz : (x y : Float) → nz (add binary64 x y) ≡ nz (add binary64 (nz x) (nz y))
unfolding add
add-nz nan y = refl
add-nz (inf s) nan = refl
add-nz (inf s) (inf t) = refl
add-nz (inf s) (fin t zero d) = refl
add-nz (inf s) (fin t (suc n) d) = refl
add-nz (fin s zero e) nan = refl
add-nz (fin s (suc m) e) nan = refl
add-nz (fin s zero e) (inf t) = refl
add-nz (fin s (suc m) e) (inf t) = refl
add-nz (fin s zero e) (fin t zero d) = zero_left s e t zero d ∙ nought t d ∙ sym (nought false (pos 0)) ∙ sym (zero_left false (pos 0) false zero (pos 0))
  where
    nought : (t : Bool) (d : ℤ) → nz (rnd t (zero * up d) (down d)) ≡ +0
    nought t d = ap (λ (x : ℕ). nz (rnd t x (down d))) (zero-mul (up d)) ∙ round-zero t (down d) (down_pos d)
add-nz (fin s zero e) (fin t (suc n) d) = zero_left s e t (suc n) d ∙ sym (zero_left false (pos 0) t (suc n) d)
add-nz (fin s (suc m) e) (fin t zero d) = zero_right s (suc m) e t d ∙ sym (zero_right s (suc m) e false (pos 0))
add-nz (fin s (suc m) e) (fin t (suc n) d) = refl

-- ---- negation, difference

pub neg-nz : (x : Float) → nz (neg x) ≡ nz (neg (nz x))
unfolding neg
neg-nz nan = refl
neg-nz (inf s) = refl
neg-nz (fin s zero e) = refl
neg-nz (fin s (suc m) e) = refl

pub sub-nz : (x y : Float) → nz (sub binary64 x y) ≡ nz (sub binary64 (nz x) (nz y))
unfolding sub
sub-nz x y = add-nz x (neg y) ∙ (λ i. nz (add binary64 (sym (nz-nz x) i) (neg-nz y i))) ∙ sym (add-nz (nz x) (neg (nz y)))

-- ---- a product with a zero

zero-times : (r : Bool) (u v c : ℕ) → 0 < c → nz (rnd r (zero * u * v) c) ≡ +0
zero-times r u v c C = ap (λ (x : ℕ). nz (rnd r x c)) (flat u v) ∙ round-zero r c C

times_zero : (r : Bool) (v u c : ℕ) → 0 < c → nz (rnd r (v * (zero * u)) c) ≡ +0
times_zero r v u c C = ap (λ (x : ℕ). nz (rnd r x c)) (ap (λ (x : ℕ). v * x) (zero-mul u) ∙ mul-zero v) ∙ round-zero r c C

pub mul-nz : (x y : Float) → nz (mul binary64 x y) ≡ nz (mul binary64 (nz x) (nz y))
unfolding mul
mul-nz nan y = refl
mul-nz (inf s) nan = refl
mul-nz (inf s) (inf t) = refl
mul-nz (inf s) (fin t zero d) = refl
mul-nz (inf s) (fin t (suc n) d) = refl
mul-nz (fin s zero e) nan = refl
mul-nz (fin s (suc m) e) nan = refl
mul-nz (fin s zero e) (inf t) = refl
mul-nz (fin s (suc m) e) (inf t) = refl
mul-nz (fin s zero e) (fin t zero d) =
    zero-times (unlike s t) (up e) (zero * up d) (down e * down d) (den e d) ∙ sym (zero-times false 1 (0 * 1) 1 (lit< tt))
mul-nz (fin s zero e) (fin t (suc n) d) =
    zero-times (unlike s t) (up e) (suc n * up d) (down e * down d) (den e d)
    ∙ sym (zero-times (unlike false t) 1 (suc n * up d) (1 * down d) (den (pos 0) d))
mul-nz (fin s (suc m) e) (fin t zero d) =
    times_zero (unlike s t) (suc m * up e) (up d) (down e * down d) (den e d)
    ∙ sym (times_zero (unlike s false) (suc m * up e) 1 (down e * 1) (den e (pos 0)))
mul-nz (fin s (suc m) e) (fin t (suc n) d) = refl

-- ---- a quotient, where the divisor is no zero

pub more : (n : ℕ) (d e : ℤ) → 0 < suc n * up d * down e
more n d e = mul-pos (mul-pos (zero-lt-suc n) (up_pos d)) (down_pos e)

zero-over : (b : Bool) (e : ℤ) (n : ℕ) (d : ℤ)
    → nz (cond (eqb (suc n) 0) (cond (eqb zero 0) nan (inf b)) (rnd b (zero * up e * down d) (suc n * up d * down e))) ≡ +0
zero-over b e n d = rw (eqb-suc-zero n) (zero-times b (up e) (down d) (suc n * up d * down e) (more n d e))

pub div-nz : (x y : Float) → nz y ≢ +0 → nz (div binary64 x y) ≡ nz (div binary64 (nz x) (nz y))
unfolding div
div-nz nan y h = refl
div-nz (inf s) nan h = refl
div-nz (inf s) (inf t) h = refl
div-nz (inf s) (fin t zero d) h = absurd (h refl)
div-nz (inf s) (fin t (suc n) d) h = refl
div-nz (fin s zero e) nan h = refl
div-nz (fin s (suc m) e) nan h = refl
div-nz (fin s zero e) (inf t) h = refl
div-nz (fin s (suc m) e) (inf t) h = refl
div-nz (fin s zero e) (fin t zero d) h = absurd (h refl)
div-nz (fin s zero e) (fin t (suc n) d) h = zero-over (unlike s t) e n d ∙ sym (zero-over (unlike false t) (pos 0) n d)
div-nz (fin s (suc m) e) (fin t zero d) h = absurd (h refl)
div-nz (fin s (suc m) e) (fin t (suc n) d) h = refl

-- ---- comparisons

-- two finite floats compared by K, from their signs and sizes
abbrev finite : (Bool → ℕ → Bool → ℕ → Bool) → Float → Float → Bool
finite K nan y = false
finite K (inf s) y = false
finite K (fin s m e) nan = false
finite K (fin s m e) (inf t) = false
finite K (fin s m e) (fin t n d) = K s (m * up e * down d) t (n * up d * down e)

-- where K does not turn on the sign of a zero, nor does this
seen : (K : Bool → ℕ → Bool → ℕ → Bool) (k0 : Bool) (kl kr : Bool → Bool)
    → ((s t : Bool) → K s 0 t 0 ≡ k0) → ((s t : Bool) (b : ℕ) → 0 < b → K s 0 t b ≡ kl t) → ((s t : Bool) (a : ℕ) → 0 < a → K s a t 0 ≡ kr s)
    → (s : Bool) (m : ℕ) (e : ℤ) (t : Bool) (n : ℕ) (d : ℤ) → finite K (fin s m e) (fin t n d) ≡ finite K (nz (fin s m e)) (nz (fin t n d))
seen K k0 kl kr h0 hl hr s zero e t zero d = both s t e d ∙ sym (both false false (pos 0) (pos 0))
  where
    both : (s t : Bool) (e d : ℤ) → K s (zero * up e * down d) t (zero * up d * down e) ≡ k0
    both s t e d = rw (flat (up e) (down d), flat (up d) (down e)) (h0 s t)
seen K k0 kl kr h0 hl hr s zero e t (suc n) d = first s e ∙ sym (first false (pos 0))
  where
    first : (s : Bool) (e : ℤ) → K s (zero * up e * down d) t (suc n * up d * down e) ≡ kl t
    first s e = rw (flat (up e) (down d)) (hl s t (suc n * up d * down e) (more n d e))
seen K k0 kl kr h0 hl hr s (suc m) e t zero d = second t d ∙ sym (second false (pos 0))
  where
    second : (t : Bool) (d : ℤ) → K s (suc m * up e * down d) t (zero * up d * down e) ≡ kr s
    second t d = rw (flat (up d) (down e)) (hr s t (suc m * up e * down d) (more m e d))
seen K k0 kl kr h0 hl hr s (suc m) e t (suc n) d = refl

level-00 : (s t : Bool) → level s 0 t 0 ≡ true
level-00 false false = refl
level-00 false true = refl
level-00 true false = refl
level-00 true true = refl

level-0n : (s t : Bool) (b : ℕ) → 0 < b → level s 0 t b ≡ false
level-0n s t zero h = absurd (lt_irrefl 0 h)
level-0n s t (suc b) h = rw (eqb-zero-suc b)

level-n0 : (s t : Bool) (a : ℕ) → 0 < a → level s a t 0 ≡ false
level-n0 s t zero h = absurd (lt_irrefl 0 h)
level-n0 s t (suc a) h = rw (eqb-suc-zero a)

below-00 : (s t : Bool) → below s 0 t 0 ≡ false
below-00 false false = refl
below-00 false true = refl
below-00 true false = refl
below-00 true true = refl

below-0n : (s t : Bool) (b : ℕ) → 0 < b → below s 0 t b ≡ not t
below-0n false false b h = lt-ltb 0 b h
below-0n false true b h = refl
below-0n true false b h = ap (ltb 0) (zero-add b) ∙ lt-ltb 0 b h
below-0n true true b h = leb-suc-zero b

below-n0 : (s t : Bool) (a : ℕ) → 0 < a → below s a t 0 ≡ s
below-n0 false false a h = leb-suc-zero a
below-n0 false true a h = refl
below-n0 true false a h = ap (ltb 0) (add-zero a) ∙ lt-ltb 0 a h
below-n0 true true a h = lt-ltb 0 a h

level-seen : (s : Bool) (m : ℕ) (e : ℤ) (t : Bool) (n : ℕ) (d : ℤ) → finite level (fin s m e) (fin t n d) ≡ finite level (nz (fin s m e)) (nz (fin t n d))
level-seen = seen level true (λ b. false) (λ b. false) level-00 level-0n level-n0

below-seen : (s : Bool) (m : ℕ) (e : ℤ) (t : Bool) (n : ℕ) (d : ℤ) → finite below (fin s m e) (fin t n d) ≡ finite below (nz (fin s m e)) (nz (fin t n d))
below-seen = seen below false not (λ b. b) below-00 below-0n below-n0

pub eq-nz : (x y : Float) → eq x y ≡ eq (nz x) (nz y)
unfolding eq
eq-nz nan y = refl
eq-nz (inf s) nan = refl
eq-nz (inf s) (inf t) = refl
eq-nz (inf s) (fin t zero d) = refl
eq-nz (inf s) (fin t (suc n) d) = refl
eq-nz (fin s zero e) nan = refl
eq-nz (fin s (suc m) e) nan = refl
eq-nz (fin s zero e) (inf t) = refl
eq-nz (fin s (suc m) e) (inf t) = refl
eq-nz (fin s zero e) (fin t zero d) = level-seen s zero e t zero d
eq-nz (fin s zero e) (fin t (suc n) d) = level-seen s zero e t (suc n) d
eq-nz (fin s (suc m) e) (fin t zero d) = level-seen s (suc m) e t zero d
eq-nz (fin s (suc m) e) (fin t (suc n) d) = refl

pub lt-nz : (x y : Float) → lt x y ≡ lt (nz x) (nz y)
unfolding lt
lt-nz nan y = refl
lt-nz (inf s) nan = refl
lt-nz (inf s) (inf t) = refl
lt-nz (inf s) (fin t zero d) = refl
lt-nz (inf s) (fin t (suc n) d) = refl
lt-nz (fin s zero e) nan = refl
lt-nz (fin s (suc m) e) nan = refl
lt-nz (fin s zero e) (inf t) = refl
lt-nz (fin s (suc m) e) (inf t) = refl
lt-nz (fin s zero e) (fin t zero d) = below-seen s zero e t zero d
lt-nz (fin s zero e) (fin t (suc n) d) = below-seen s zero e t (suc n) d
lt-nz (fin s (suc m) e) (fin t zero d) = below-seen s (suc m) e t zero d
lt-nz (fin s (suc m) e) (fin t (suc n) d) = refl

pub le-nz : (x y : Float) → le x y ≡ le (nz x) (nz y)
unfolding le
le-nz x y = λ i. lt-nz x y i || eq-nz x y i

-- ---- the same as congruences

module _ (x y z w : Float) (h : nz x ≡ nz z) (k : nz y ≡ nz w) where
  pub add_cong : nz (add binary64 x y) ≡ nz (add binary64 z w)
  add_cong = add-nz x y ∙ (λ i. nz (add binary64 (h i) (k i))) ∙ sym (add-nz z w)

  pub sub-cong : nz (sub binary64 x y) ≡ nz (sub binary64 z w)
  sub-cong = sub-nz x y ∙ (λ i. nz (sub binary64 (h i) (k i))) ∙ sym (sub-nz z w)

  pub mul-cong : nz (mul binary64 x y) ≡ nz (mul binary64 z w)
  mul-cong = mul-nz x y ∙ (λ i. nz (mul binary64 (h i) (k i))) ∙ sym (mul-nz z w)

  pub div-cong : nz y ≢ +0 → nz (div binary64 x y) ≡ nz (div binary64 z w)
  div-cong ne = div-nz x y ne ∙ (λ i. nz (div binary64 (h i) (k i))) ∙ sym (div-nz z w (λ e. ne (k ∙ e)))

  pub lt-cong : lt x y ≡ lt z w
  lt-cong = lt-nz x y ∙ (λ i. lt (h i) (k i)) ∙ sym (lt-nz z w)

  pub eq-cong : eq x y ≡ eq z w
  eq-cong = eq-nz x y ∙ (λ i. eq (h i) (k i)) ∙ sym (eq-nz z w)

  pub le-cong : le x y ≡ le z w
  le-cong = le-nz x y ∙ (λ i. le (h i) (k i)) ∙ sym (le-nz z w)

pub neg-cong : (x y : Float) → nz x ≡ nz y → nz (neg x) ≡ nz (neg y)
neg-cong x y h = neg-nz x ∙ ap (λ (z : Float). nz (neg z)) h ∙ sym (neg-nz y)

pub cond-cong : (b : Bool) (x y z w : Float) → nz x ≡ nz z → nz y ≡ nz w → nz (cond b x y) ≡ nz (cond b z w)
cond-cong true x y z w h k = h
cond-cong false x y z w h k = k
