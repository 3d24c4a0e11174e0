-- A mode of a basis state measured: the outcome is its bit, whatever the draw, and the update of the later modes adds zeros, so that the matrix stays
-- the covariance of the same bits. The numbers that this meets are 0, 1, 2 and 1/2 with their signs, and are exact. Assumes nothing.
use mathlib.Core.Path.{◌≡◌, refl, sym, ap, ◌∙◌, subst}
use mathlib.Core.Logic.{◌⊎◌, inl, inr, ◌≢◌}
use mathlib.Core.Bool.{Bool, true, false, not, cond, ◌&&◌, ◌||◌, and-false, false≢true}
use Prim.Native.Nat.{ℕ, ◌+◌, ◌*◌, ◌/◌, ◌%◌, ◌<◌}
use native.Mathlib.Nat.{mul-zero, add-zero}
use native.Mathlib.Omega.{arith}
use lib.Dec.{T, eqb, ltb, lit<, lit≤}
use lib.IntN.{ℤ, pos, negsuc, neg_ℤ, nat_abs, ◌+ℤ◌, ◌*ℤ◌, +ℤ_idr, *ℤ-zero}
use lib.Signed.{lt_z}
use lib.Ieee.{Float, nan, inf, fin, binary64, add, sub, mul, div, neg, lt, eq, le, below, level, fits, of_bits}
use lib.Ieee.Fits.{add-fits, mul-fits}
use borrow.Author.Tests.{ltb-true, le-ltb, eqb-true, eq-eqb, ne_eqb}
use Rattle.laws.proofs.Integers.{one-small}
use Rattle.laws.specs.Zeros.{+0, +1}
use Rattle.laws.specs.Dyadic.{Dy, with_sign, cap}
use Rattle.laws.specs.Matrix.{Mat}
use Rattle.std.proofs.lemmas.Bool.{cases_eq, and_parts}
use Rattle.laws.proofs.Zeros.{le-cong}
use Rattle.laws.proofs.Dyadic.{neg-dy, add-dy, sub-dy, mul-dy, pow-dy, div-pow-dy, zero-nz, zero-dy}
use Rattle.laws.proofs.DyadicFloat.{is-float}
use Rattle.laws.proofs.DyadicOrder.{lt-dy}
use Rattle.num.specs.Order.{clamp_of}
use Rattle.monomial.specs.Basis.{basis, IsBasis}
use Rattle.monomial.proofs.Moves.{basis-small}
use Rattle.monomial.proofs.States.{basis-apart}
use Rattle.pfaffian.specs.Shot.{half, tiny, mab_of, drawn_of, drawn, spin_of, den_of, den, projected, updated, after_mode}
use Rattle.queries.specs.Samples.{draw_ok_of}

-- ---- the numbers

-- 2.0
abbrev two : Float
two = fin false 1 (pos 1)

one-fits : T (fits binary64 +1)
unfolding fits
one-fits = tt

two_fits : T (fits binary64 two)
unfolding fits
two_fits = tt

half-dy : Dy 1 (pos 1) half
half-dy = (1, refl, refl)

one-dy : Dy 0 (pos 1) +1
one-dy = (1, refl, refl)

spin-dy : (s : Bool) → Dy 0 (with_sign s 1) (spin_of s)
spin-dy false = one-dy
spin-dy true = neg-dy 0 (pos 1) +1 one-dy

-- 1 or -1 lies within the bounds of `mab`
clamp-unit : (s : Bool) (x : Float) → Dy 0 (with_sign s 1) x → clamp_of x (neg +1) +1 ≡ x
unfolding clamp_of
clamp-unit s x X =
    rw (lt-dy 0 (with_sign s 1) (negsuc 0) x (neg +1) X (spin-dy true) ∙ least s, lt-dy 0 (pos 1) (with_sign s 1) +1 x one-dy X ∙ most s)
  where
    least : (s : Bool) → lt_z (with_sign s 1) (negsuc 0) ≡ false
    least false = refl
    least true = refl

    most : (s : Bool) → lt_z (pos 1) (with_sign s 1) ≡ false
    most false = refl
    most true = refl

-- ---- the draw

-- of any two floats: what is above is not at most
below-above : (s t : Bool) (a b : ℕ) → below s a t b ≡ true → below t b s a || level t b s a ≡ false
below-above false false a b e =
    let h = ltb-true a b e in
    rw (le-ltb b a (omega arith), ne_eqb b a (λ q. omega arith))
below-above false true a b e = absurd (false≢true e)
below-above true false a b e = by (cases_eq b 0)
  where
    by : (b ≡ 0) ⊎ (b ≢ 0) → eqb b a && eqb b 0 ≡ false
    by (inl z) = rw (ne_eqb b a (λ q. omega (arith, ltb-true 0 (a + b) e)))
    by (inr z) = rw (ne_eqb b 0 z) (and-false (eqb b a))
below-above true true a b e =
    let h = ltb-true b a e in
    rw (le-ltb a b (omega arith), ne_eqb b a (λ q. omega arith))

above : (x y : Float) → lt x y ≡ true → le y x ≡ false
unfolding lt eq le
above nan y e = absurd (false≢true e)
above (inf s) nan e = absurd (false≢true e)
above (inf false) (inf t) e = absurd (false≢true e)
above (inf true) (inf false) e = refl
above (inf true) (inf true) e = absurd (false≢true e)
above (inf false) (fin t n d) e = absurd (false≢true e)
above (inf true) (fin t n d) e = refl
above (fin s m e) nan h = absurd (false≢true h)
above (fin s m e) (inf false) h = refl
above (fin s m e) (inf true) h = absurd (false≢true h)
above (fin s m e) (fin t n d) h = below-above s t _ _ h

-- p0 is 1 or 0
abbrev p0 : Float → Float
p0 mab = mul binary64 half (add binary64 +1 mab)

p0-dy : (s : Bool) (x : Float) → Dy 0 (with_sign s 1) x → Dy 1 (pos 1 *ℤ (pos 1 +ℤ with_sign s 1)) (p0 x)
p0-dy s x X =
    mul-dy 1 0 (pos 1) (pos 1 +ℤ with_sign s 1) half (add binary64 +1 x) (lit≤ tt) (product s) half-dy
    (add-dy 0 (pos 1) (with_sign s 1) +1 x (lit≤ tt) (total s) one-dy X)
  where
    total : (s : Bool) → nat_abs (pos 1) + nat_abs (with_sign s 1) < cap
    total false = lit< tt
    total true = lit< tt

    product : (s : Bool) → nat_abs (pos 1) * nat_abs (pos 1 +ℤ with_sign s 1) < cap
    product false = lit< tt
    product true = lit< tt

-- a draw is below 1, and from 0 on: a draw of either zero is
drawn-bit : (s : Bool) (x d : Float) → Dy 0 (with_sign s 1) x → draw_ok_of d ≡ true → drawn_of x d ≡ s
drawn-bit false x d X ok =
    ap (λ (p : Float). le p d)
    (is-float 1 (pos 2) (p0 x) +1 (lit< tt) (mul-fits binary64 half (add binary64 +1 x)) one-fits (p0-dy false x X) (2, refl, refl))
    ∙ above d +1 (and_parts (le +0 d) (lt d +1) ok).1
drawn-bit true x d X ok = le-cong (p0 x) d +0 d (zero-nz 1 (p0 x) (p0-dy true x X)) refl ∙ (and_parts (le +0 d) (lt d +1) ok).0

-- ---- the denominator

den-two : (s : Bool) (x : Float) → Dy 0 (with_sign s 1) x → den_of x s ≡ two
den-two s x X =
    is-float 0 (pos 2) (den_of x s) two (lit< tt) (add-fits binary64 +1 (mul binary64 (spin_of s) x)) two_fits
    (subst (λ (z : ℤ). Dy 0 (pos 1 +ℤ z) (den_of x s)) (square s)
    (add-dy 0 (pos 1) (with_sign s 1 *ℤ with_sign s 1) +1 (mul binary64 (spin_of s) x) (lit≤ tt) (total s) one-dy
    (mul-dy 0 0 (with_sign s 1) (with_sign s 1) (spin_of s) x (lit≤ tt) (product s) (spin-dy s) X)))
    (pow-dy 1)
  where
    square : (s : Bool) → with_sign s 1 *ℤ with_sign s 1 ≡ pos 1
    square false = refl
    square true = refl

    total : (s : Bool) → nat_abs (pos 1) + nat_abs (with_sign s 1 *ℤ with_sign s 1) < cap
    total false = lit< tt
    total true = lit< tt

    product : (s : Bool) → nat_abs (with_sign s 1) * nat_abs (with_sign s 1) < cap
    product false = lit< tt
    product true = lit< tt

not-tiny : le two tiny ≡ false
unfolding of_bits le lt eq
not-tiny = refl

-- f is 1/2 or -1/2
factor-dy : (s : Bool) → Dy 1 (with_sign s 1) (div binary64 (spin_of s) two)
factor-dy s = div-pow-dy 1 0 (with_sign s 1) (spin_of s) (lit≤ tt) (one-small s) (spin-dy s)

-- ---- the covariance of bits

basis-pair : (b : ℕ → Bool) (k : ℕ) → basis b (2 * k) (2 * k + 1) ≡ with_sign (b k) 1
basis-pair b k =
    let even : 2 * k % 2 ≡ 0 = omega arith in
    let mode : 2 * k / 2 ≡ k = omega arith in
    rw (eq-eqb (2 * k % 2) 0 even, eq-eqb (2 * k + 1) (2 * k + 1) refl, mode)

-- r and c are the first and the second operator of a mode
abbrev pair : ℕ → ℕ → Bool
pair r c = eqb (r % 2) 0 && eqb c (r + 1)

-- across the diagonal it is negative
across : (b : ℕ → Bool) (r c : ℕ) → neg_ℤ (basis b c r) ≡ basis b r c
across b r c = by (b (r / 2)) (b (c / 2)) (pair r c) (pair c r) refl refl
  where
    next-to : (r c : ℕ) → pair r c ≡ true → c ≡ r + 1
    next-to r c e = eqb-true c (r + 1) (and_parts (eqb (r % 2) 0) (eqb c (r + 1)) e).1

    by : (x y p q : Bool) → pair r c ≡ p → pair c r ≡ q
        → neg_ℤ (cond q (with_sign y 1) (cond p (with_sign (not x) 1) (pos 0))) ≡ cond p (with_sign x 1) (cond q (with_sign (not y) 1) (pos 0))
    by x y true true e f = absurd (omega (arith, next-to r c e, next-to c r f))
    by false y true false e f = refl
    by true y true false e f = refl
    by x false false true e f = refl
    by x true false true e f = refl
    by x y false false e f = refl

-- ---- mode k of a basis state measured

module _ (dim k : ℕ) (b : ℕ → Bool) (m : Mat) (room : 2 * k + 1 < dim) (M : IsBasis dim b m) where
  pair-dy : Dy 0 (with_sign (b k) 1) (m (2 * k) (2 * k + 1))
  pair-dy = subst (λ (z : ℤ). Dy 0 z (m (2 * k) (2 * k + 1))) (basis-pair b k) (M (2 * k) (2 * k + 1) (omega arith) room)

  mab-is : mab_of m k ≡ m (2 * k) (2 * k + 1)
  mab-is = clamp-unit (b k) (m (2 * k) (2 * k + 1)) pair-dy

  -- the outcome
  pub drawn-is : (d : Float) → draw_ok_of d ≡ true → drawn m k d ≡ b k
  drawn-is d ok = ap (λ (x : Float). drawn_of x d) mab-is ∙ drawn-bit (b k) (m (2 * k) (2 * k + 1)) d pair-dy ok

  den-is : den m k (b k) ≡ two
  den-is = ap (λ (x : Float). den_of x (b k)) mab-is ∙ den-two (b k) (m (2 * k) (2 * k + 1)) pair-dy

  factor : Float
  factor = div binary64 (spin_of (b k)) two

  next-is : after_mode m k (b k) ≡ updated m factor k
  unfolding factor
  next-is =
      ap (λ (x : Float). cond (le x tiny) m (updated m (div binary64 (spin_of (b k)) x) k)) den-is
      ∙ ap (λ (t : Bool). cond t m (updated m (div binary64 (spin_of (b k)) two) k)) not-tiny

  -- the entries of a later row in the two columns of mode k
  first : (r : ℕ) → 2 * k + 1 < r → r < dim → Dy 0 (pos 0) (m r (2 * k))
  first r l h = subst (λ (z : ℤ). Dy 0 z (m r (2 * k))) (basis-apart b r (2 * k) (λ e. omega arith)) (M r (2 * k) h (omega arith))

  second : (r : ℕ) → 2 * k + 1 < r → r < dim → Dy 0 (pos 0) (m r (2 * k + 1))
  second r l h = subst (λ (z : ℤ). Dy 0 z (m r (2 * k + 1))) (basis-apart b r (2 * k + 1) (λ e. omega arith)) (M r (2 * k + 1) h room)

  -- what is added
  added : ℕ → ℕ → Float
  added r c =
      mul binary64 factor (sub binary64 (mul binary64 (m r (2 * k + 1)) (m c (2 * k))) (mul binary64 (m r (2 * k)) (m c (2 * k + 1))))

  none-added : (r c : ℕ) → 2 * k + 1 < r → r < dim → 2 * k + 1 < c → c < dim → Dy 0 (pos 0) (added r c)
  unfolding factor added
  none-added r c lr hr lc hc =
      zero-dy 1 0 (added r c)
      (subst (λ (z : ℤ). Dy 1 z (added r c)) (*ℤ-zero (with_sign (b k) 1))
      (mul-dy 1 0 (with_sign (b k) 1) (pos 0) factor (sub binary64 x y) (lit≤ tt)
      (subst (λ (n : ℕ). n < cap) (sym (mul-zero (nat_abs (with_sign (b k) 1)))) (lit< tt)) (factor-dy (b k))
      (sub-dy 0 (pos 0) (pos 0) x y (lit≤ tt) (lit< tt)
      (product (m r (2 * k + 1)) (m c (2 * k)) (second r lr hr) (first c lc hc))
      (product (m r (2 * k)) (m c (2 * k + 1)) (first r lr hr) (second c lc hc)))))
    where
      x : Float
      x = mul binary64 (m r (2 * k + 1)) (m c (2 * k))

      y : Float
      y = mul binary64 (m r (2 * k)) (m c (2 * k + 1))

      product : (x y : Float) → Dy 0 (pos 0) x → Dy 0 (pos 0) y → Dy 0 (pos 0) (mul binary64 x y)
      product x y X Y = mul-dy 0 0 (pos 0) (pos 0) x y (lit≤ tt) (lit< tt) X Y

  projected-is : (r c : ℕ) → 2 * k + 1 < r → r < dim → 2 * k + 1 < c → c < dim → Dy 0 (basis b r c) (projected m factor k r c)
  unfolding added
  projected-is r c lr hr lc hc =
      subst (λ (z : ℤ). Dy 0 z (projected m factor k r c)) (+ℤ_idr (basis b r c))
      (add-dy 0 (basis b r c) (pos 0) (m r c) (added r c) (lit≤ tt)
      (subst (λ (n : ℕ). n < cap) (sym (add-zero (nat_abs (basis b r c)))) (basis-small b r c)) (M r c hr hc) (none-added r c lr hr lc hc))

  updated-is : IsBasis dim b (updated m factor k)
  updated-is r c hr hc = by (ltb (2 * k + 1) r) (ltb (2 * k + 1) c) (ltb r c) (ltb c r) (ltb-true (2 * k + 1) r) (ltb-true (2 * k + 1) c)
    where
      -- by the tests: right of the diagonal, across it, on it, outside
      by : (later later' right left : Bool) → (later ≡ true → 2 * k + 1 < r) → (later' ≡ true → 2 * k + 1 < c)
          → Dy 0 (basis b r c)
          (cond (later && later') (cond right (projected m factor k r c) (cond left (neg (projected m factor k c r)) (m r c))) (m r c))
      by true true true left lr lc = projected-is r c (lr refl) hr (lc refl) hc
      by true true false true lr lc =
          subst (λ (z : ℤ). Dy 0 z (neg (projected m factor k c r))) (across b r c)
          (neg-dy 0 (basis b c r) (projected m factor k c r) (projected-is c r (lc refl) hc (lr refl) hr))
      by true true false false lr lc = M r c hr hc
      by true false right left lr lc = M r c hr hc
      by false later' right left lr lc = M r c hr hc

  -- the matrix
  pub next-keeps : IsBasis dim b (after_mode m k (b k))
  next-keeps = subst (IsBasis dim b) (sym next-is) updated-is
