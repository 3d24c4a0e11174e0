-- What the tests of `sqrt` say of x: above zero and finite, the infinity, a zero, or one with no root. Assumes nothing.
use mathlib.Core.Path.{◌≡◌, refl, sym, ap, ◌∙◌, subst}
use Prim.Native.Nat.{ℕ, zero, suc, ◌+◌, ◌*◌, ◌/◌, ◌%◌, ◌^◌, ◌≤◌, ◌<◌}
use native.Mathlib.Nat.{zero-lt-suc, zero-mul, mul-one, mul-pos, lt_irrefl, pos_of_ne-zero}
use native.Mathlib.Omega.{arith}
use mathlib.Core.Bool.{Bool, true, false, not, cond, beq, ◌&&◌, ◌||◌, true≢false, false≢true}
use lib.IntN.{ℤ}
use lib.Dec.{T, leb, ltb, eqb, nleb→lt}
use lib.Ieee.{Float, nan, inf, fin, binary64, fits, up, down, lt, eq, div, odd, is_nan, of_bits, of_fields, to_bits, level}
use lib.Ieee.Fits.{up_pos}
use lib.Ieee.Bits.{of_bits-to_bits}
use borrow.Author.Tests.{lt-ltb, ne_eqb}
use Rattle.num.specs.Root.{plain, Nearest, RootOf}
use Rattle.num.specs.Bits.{inf_bits}

-- ---- comparison with 0.0

zero-side : (d : ℕ) → 0 * 1 * d ≡ 0
zero-side d = zero-mul d

none : (u : ℕ) → 0 * u * 1 ≡ 0
none u = mul-one (0 * u) ∙ zero-mul u

some : (m u : ℕ) → 0 < u → 0 < suc m * u * 1
some m u h = subst (λ (z : ℕ). 0 < z) (sym (mul-one (suc m * u))) (mul-pos (zero-lt-suc m) h)

suc-lt : (m : ℕ) (e : ℤ) → lt (of_bits binary64 0) (fin false (suc m) e) ≡ true
unfolding lt of_bits
suc-lt m e = lt-ltb (0 * 1 * down e) (suc m * up e * 1) (subst (λ (z : ℕ). z < suc m * up e * 1) (sym (zero-side (down e))) (some m (up e) (up_pos e)))

zero-nlt : (e : ℤ) → lt (of_bits binary64 0) (fin false zero e) ≡ false
unfolding lt of_bits
zero-nlt e = ap (λ (z : ℕ). ltb z (0 * up e * 1)) (zero-side (down e)) ∙ ap (λ (z : ℕ). ltb 0 z) (none (up e))

zero-eq : (s : Bool) (e : ℤ) → eq (fin s zero e) (of_bits binary64 0) ≡ true
unfolding eq of_bits
zero-eq s e =
    ap (λ (z : ℕ). level s z false (0 * 1 * down e)) (none (up e))
    ∙ ap (λ (z : ℕ). level s 0 false z) (zero-side (down e))
    ∙ or s
  where
    or : (s : Bool) → level s 0 false 0 ≡ true
    or true = refl
    or false = refl

suc-ne : (s : Bool) (m : ℕ) (e : ℤ) → eq (fin s (suc m) e) (of_bits binary64 0) ≡ false
unfolding eq of_bits
suc-ne s m e =
    ap (λ (b : Bool). b && (beq s false || eqb (suc m * up e * 1) 0))
    (ne_eqb (suc m * up e * 1) (0 * 1 * down e) (λ h. let z : suc m * up e * 1 ≡ 0 = h ∙ zero-side (down e) in omega (arith, some m (up e) (up_pos e))))

-- ---- above zero

pub number : (x : Float) → lt (of_bits binary64 0) x ≡ true → T (not (is_nan x))
unfolding is_nan lt of_bits
number nan h = absurd (false≢true h)
number (inf s) h = tt
number (fin s m e) h = tt

-- the infinity, or finite
data Above : Float → Type 0 where
  infinite : Above (inf false)
  finite : (m : ℕ) (e : ℤ) → Above (fin false (suc m) e)

above : (x : Float) → lt (of_bits binary64 0) x ≡ true → Above x
unfolding lt of_bits
above nan h = absurd (false≢true h)
above (inf true) h = absurd (false≢true h)
above (inf false) h = infinite
above (fin true m e) h = absurd (false≢true h)
above (fin false zero e) h = absurd (false≢true (sym (zero-nlt e) ∙ h))
above (fin false (suc m) e) h = finite m e

pub some_bits : (x : Float) → T (fits binary64 x) → lt (of_bits binary64 0) x ≡ true → 0 < to_bits binary64 x
some_bits x f h =
    pos_of_ne-zero (λ z. no (subst (λ (v : Float). lt (of_bits binary64 0) v ≡ true) (sym (of_bits-to_bits binary64 x f) ∙ ap (of_bits binary64) z) h))
  where
    no : lt (of_bits binary64 0) (of_bits binary64 0) ≡ true → ⊥
    no h = unfold lt of_bits in false≢true h

-- ---- from the infinity's pattern up nothing is finite and without a sign

odd-minus : (d q k l : ℕ) → T (plain (odd d true q k l)) → ⊥
unfolding odd
odd-minus d zero k l h = h
odd-minus d (suc q) k l h = h

minus : (x t : ℕ) → T (plain (of_fields binary64 true x t)) → ⊥
unfolding of_fields
minus zero t h = odd-minus 53 t 0 1074 h
minus (suc x) t h = go (eqb (suc x) 2047) (eqb t 0) h
  where
    go : (a b : Bool) → T (plain (cond a (cond b (inf true) nan) (odd 53 true (2 ^ 52 + t) x 1074))) → ⊥
    go true true h = h
    go true false h = h
    go false b h = odd-minus 53 (2 ^ 52 + t) x 1074 h

at_top : (x t : ℕ) → x ≡ 2047 → T (plain (of_fields binary64 false x t)) → ⊥
unfolding of_fields
at_top x t e h = go (eqb t 0) (subst (λ (z : ℕ). T (plain (of_fields binary64 false z t))) e h)
  where
    go : (b : Bool) → T (plain (cond b (inf false) nan)) → ⊥
    go true h = h
    go false h = h

top-bits : (b : ℕ) → inf_bits ≤ b → T (plain (of_bits binary64 b)) → ⊥
unfolding of_bits
top-bits b l h = go (leb (2 ^ 63) b) (nleb→lt (2 ^ 63) b) h
  where
    field : (b : ℕ) → inf_bits ≤ b → b < 2 ^ 63 → b % 2 ^ 63 / 2 ^ 52 ≡ 2047
    field b l h = omega arith

    go : (s : Bool) → (T (not s) → b < 2 ^ 63) → T (plain (of_fields binary64 s (b % 2 ^ 63 / 2 ^ 52) (b % 2 ^ 52))) → ⊥
    go true k h = minus (b % 2 ^ 63 / 2 ^ 52) (b % 2 ^ 52) h
    go false k h = at_top (b % 2 ^ 63 / 2 ^ 52) (b % 2 ^ 52) (field b l (k tt)) h

-- ---- the four ways

-- below the infinity's pattern: the root is that of what the pattern stands for
pub finite-root : (x r : Float) → T (fits binary64 x) → lt (of_bits binary64 0) x ≡ true → to_bits binary64 x < inf_bits
    → Nearest (of_bits binary64 (to_bits binary64 x)) r → RootOf x r
unfolding RootOf to_bits
finite-root x r f h l N = go (above x h) f l N
  where
    go : {x : Float} → Above x → T (fits binary64 x) → to_bits binary64 x < inf_bits → Nearest (of_bits binary64 (to_bits binary64 x)) r → RootOf x r
    go infinite f l N = absurd (lt_irrefl inf_bits l)
    go (finite m e) f l N = subst (λ (v : Float). Nearest v r) (of_bits-to_bits binary64 (fin false (suc m) e) f) N

pub infinity : (x : Float) → T (fits binary64 x) → lt (of_bits binary64 0) x ≡ true → inf_bits ≤ to_bits binary64 x → RootOf x x
unfolding RootOf
infinity x f h l = go (above x h) f l
  where
    go : {x : Float} → Above x → T (fits binary64 x) → inf_bits ≤ to_bits binary64 x → RootOf x x
    go infinite f l = refl
    go (finite m e) f l =
        absurd
        (top-bits (to_bits binary64 (fin false (suc m) e)) l
        (subst (λ (v : Float). T (plain v)) (sym (of_bits-to_bits binary64 (fin false (suc m) e) f)) tt))

pub at_zero : (x : Float) → eq x (of_bits binary64 0) ≡ true → RootOf x x
unfolding RootOf eq of_bits
at_zero nan h = absurd (false≢true h)
at_zero (inf s) h = absurd (false≢true h)
at_zero (fin true zero e) h = refl
at_zero (fin false zero e) h = refl
at_zero (fin true (suc m) e) h = absurd (false≢true (sym (suc-ne true m e) ∙ h))
at_zero (fin false (suc m) e) h = absurd (false≢true (sym (suc-ne false m e) ∙ h))

-- 0.0 / 0.0 is the NaN
pub no-root : (x : Float) → lt (of_bits binary64 0) x ≡ false → eq x (of_bits binary64 0) ≡ false
    → RootOf x (div binary64 (of_bits binary64 0) (of_bits binary64 0))
unfolding RootOf lt div of_bits
no-root nan h k = refl
no-root (inf true) h k = refl
no-root (inf false) h k = absurd (true≢false h)
no-root (fin true zero e) h k = absurd (true≢false (sym (zero-eq true e) ∙ k))
no-root (fin false zero e) h k = absurd (true≢false (sym (zero-eq false e) ∙ k))
no-root (fin true (suc m) e) h k = refl
no-root (fin false (suc m) e) h k = absurd (true≢false (sym (suc-lt m e) ∙ h))
