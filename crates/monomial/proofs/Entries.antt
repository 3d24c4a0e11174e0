-- Entries of monomial matrices: a stand-in for complex numbers in which products compute with phases that are variables. Each operation is that of
-- known numbers, case by case. Assumes nothing.
use mathlib.Core.Path.{◌≡◌, refl, subst}
use mathlib.Core.Bool.{true}
use Prim.Native.Nat.{◌<◌}
use lib.Dec.{T, lit<}
use lib.IntN.{ℤ, pos, negsuc, nat_abs}
use Rattle.laws.specs.Dyadic.{eq_z}
use Rattle.laws.specs.Phase.{Phase, i0, i1, i2, i3, ◌⊕◌, minus, real_z, imag_z}
use Rattle.gate.specs.Complex.{◌+ℂ◌, ◌*ℂ◌, conj_of, is_zero_of, norm_sqr_of, c0}
use Rattle.gate.specs.declared.complex.Complex.{Complex}
use Rattle.monomial.specs.Monomial.{Entry, none, any, unit, IsEntry}
use Rattle.monomial.proofs.Known.{Known, un, kn, bound, IsKnown}
use Rattle.monomial.proofs.Complexes.{Cx, cx, IsComplex, k0, cadd, cmul, cconj, cnorm, cx_sound, cnorm-law, zero-parts, equal-zero}
use Rattle.monomial.proofs.Products.{Ops, Sound}

-- ---- operations

abbrev pub times : Entry → Entry → Entry
times none none = none
times none (unit k) = none
times none any = any
times (unit k) none = none
times (unit k) (unit l) = unit (k ⊕ l)
times (unit k) any = any
times any y = any

abbrev pub plus : Entry → Entry → Entry
plus none e = e
plus (unit k) none = unit k
plus (unit k) (unit l) = any
plus (unit k) any = any
plus any e = any

abbrev pub conjugate : Entry → Entry
conjugate none = none
conjugate (unit k) = unit (minus k)
conjugate any = any

abbrev pub entry_ops : Ops Entry
entry_ops = record { zero = none; add = plus; mul = times; conj = conjugate }

-- the square of the absolute value
abbrev pub square : Entry → Known
square none = k0
square (unit k) = kn (pos 1)
square any = un

-- ---- as known numbers

abbrev pub value : Entry → Cx
value none = cx k0 k0
value (unit k) = cx (kn (real_z k)) (kn (imag_z k))
value any = cx un un

-- a property of all phases
pub by-phase : (P : Phase → Type 0) → P i0 → P i1 → P i2 → P i3 → (k : Phase) → P k
by-phase P a b c d i0 = a
by-phase P a b c d i1 = b
by-phase P a b c d i2 = c
by-phase P a b c d i3 = d

real-small : (k : Phase) → nat_abs (real_z k) < bound
real-small = by-phase (λ k. nat_abs (real_z k) < bound) (lit< tt) (lit< tt) (lit< tt) (lit< tt)

imag-small : (k : Phase) → nat_abs (imag_z k) < bound
imag-small = by-phase (λ k. nat_abs (imag_z k) < bound) (lit< tt) (lit< tt) (lit< tt) (lit< tt)

pub to-complex : (c : Complex) (e : Entry) → IsEntry c e → IsComplex c (value e)
to-complex c none r = ((lit< tt, r.0), (lit< tt, r.1))
to-complex c (unit k) r = ((real-small k, r.0), (imag-small k, r.1))
to-complex c any r = (tt, tt)

from-complex : (c : Complex) (e : Entry) → IsComplex c (value e) → IsEntry c e
from-complex c none r = (r.0.1, r.1.1)
from-complex c (unit k) r = (r.0.1, r.1.1)
from-complex c any r = tt

-- ---- the laws over known numbers

phases : (k l : Phase) → cmul (value (unit k)) (value (unit l)) ≡ value (unit (k ⊕ l))
phases i0 = by-phase (λ l. cmul (value (unit i0)) (value (unit l)) ≡ value (unit (i0 ⊕ l))) refl refl refl refl
phases i1 = by-phase (λ l. cmul (value (unit i1)) (value (unit l)) ≡ value (unit (i1 ⊕ l))) refl refl refl refl
phases i2 = by-phase (λ l. cmul (value (unit i2)) (value (unit l)) ≡ value (unit (i2 ⊕ l))) refl refl refl refl
phases i3 = by-phase (λ l. cmul (value (unit i3)) (value (unit l)) ≡ value (unit (i3 ⊕ l))) refl refl refl refl

none_left : (k : Phase) → cmul (value none) (value (unit k)) ≡ value none
none_left = by-phase (λ k. cmul (value none) (value (unit k)) ≡ value none) refl refl refl refl

none_right : (k : Phase) → cmul (value (unit k)) (value none) ≡ value none
none_right = by-phase (λ k. cmul (value (unit k)) (value none) ≡ value none) refl refl refl refl

plus-left : (k : Phase) → cadd (value none) (value (unit k)) ≡ value (unit k)
plus-left = by-phase (λ k. cadd (value none) (value (unit k)) ≡ value (unit k)) refl refl refl refl

plus-right : (k : Phase) → cadd (value (unit k)) (value none) ≡ value (unit k)
plus-right = by-phase (λ k. cadd (value (unit k)) (value none) ≡ value (unit k)) refl refl refl refl

conjugates : (k : Phase) → cconj (value (unit k)) ≡ value (unit (minus k))
conjugates = by-phase (λ k. cconj (value (unit k)) ≡ value (unit (minus k))) refl refl refl refl

norms : (k : Phase) → cnorm (value (unit k)) ≡ kn (pos 1)
norms = by-phase (λ k. cnorm (value (unit k)) ≡ kn (pos 1)) refl refl refl refl

-- ---- and of floats

-- an operation of known numbers that gives e
through : (c : Complex) (a : Cx) (e : Entry) → a ≡ value e → IsComplex c a → IsEntry c e
through c a e h r = from-complex c e (subst (IsComplex c) h r)

times-law : (c d : Complex) (x y : Entry) → IsEntry c x → IsEntry d y → IsEntry (c *ℂ d) (times x y)
times-law c d x y p q = by x y (cx_sound.mul c d (value x) (value y) (to-complex c x p) (to-complex d y q))
  where
    by : (x y : Entry) → IsComplex (c *ℂ d) (cmul (value x) (value y)) → IsEntry (c *ℂ d) (times x y)
    by none none r = through (c *ℂ d) (cmul (value none) (value none)) none refl r
    by none (unit k) r = through (c *ℂ d) (cmul (value none) (value (unit k))) none (none_left k) r
    by none any r = tt
    by (unit k) none r = through (c *ℂ d) (cmul (value (unit k)) (value none)) none (none_right k) r
    by (unit k) (unit l) r = through (c *ℂ d) (cmul (value (unit k)) (value (unit l))) (unit (k ⊕ l)) (phases k l) r
    by (unit k) any r = tt
    by any y r = tt

plus-law : (c d : Complex) (x y : Entry) → IsEntry c x → IsEntry d y → IsEntry (c +ℂ d) (plus x y)
plus-law c d x y p q = by x y (cx_sound.add c d (value x) (value y) (to-complex c x p) (to-complex d y q))
  where
    by : (x y : Entry) → IsComplex (c +ℂ d) (cadd (value x) (value y)) → IsEntry (c +ℂ d) (plus x y)
    by none none r = through (c +ℂ d) (cadd (value none) (value none)) none refl r
    by none (unit k) r = through (c +ℂ d) (cadd (value none) (value (unit k))) (unit k) (plus-left k) r
    by none any r = tt
    by (unit k) none r = through (c +ℂ d) (cadd (value (unit k)) (value none)) (unit k) (plus-right k) r
    by (unit k) (unit l) r = tt
    by (unit k) any r = tt
    by any y r = tt

conjugate-law : (c : Complex) (x : Entry) → IsEntry c x → IsEntry (conj_of c) (conjugate x)
conjugate-law c none p = through (conj_of c) (cconj (value none)) none refl (cx_sound.conj c (value none) (to-complex c none p))
conjugate-law c (unit k) p =
    through (conj_of c) (cconj (value (unit k))) (unit (minus k)) (conjugates k) (cx_sound.conj c (value (unit k)) (to-complex c (unit k) p))
conjugate-law c any p = tt

-- a phase is not 0
not-zero : (k : Phase) → real_z k ≡ pos 0 → imag_z k ≡ pos 0 → ⊥
not-zero = by-phase (λ k. real_z k ≡ pos 0 → imag_z k ≡ pos 0 → ⊥) (λ e f. clash e) (λ e f. clash f) (λ e f. clash' e) (λ e f. clash' f)
  where
    clash : pos 1 ≡ pos 0 → ⊥
    clash e = subst (λ (z : ℤ). T (eq_z z (pos 1))) e tt

    clash' : negsuc 0 ≡ pos 0 → ⊥
    clash' e = subst (λ (z : ℤ). T (eq_z z (negsuc 0))) e tt

plus_none : (c : Complex) (t : Entry) → IsEntry c t → IsEntry c (plus t none)
plus_none c none r = r
plus_none c (unit k) r = r
plus_none c any r = tt

plus-any : (c : Complex) (t : Entry) → IsEntry c (plus t any)
plus-any c none = tt
plus-any c (unit k) = tt
plus-any c any = tt

skip-law : (s x y : Complex) (t a b : Entry) → is_zero_of x ≡ true → IsEntry s t → IsEntry x a → IsEntry y b → IsEntry s (plus t (times a b))
skip-law s x y t none none e r p q = plus_none s t r
skip-law s x y t none (unit k) e r p q = plus_none s t r
skip-law s x y t none any e r p q = plus-any s t
skip-law s x y t (unit k) b e r p q =
    let z = zero-parts x e in
    absurd (not-zero k (equal-zero (real_z k) x.re p.0 z.0) (equal-zero (imag_z k) x.im p.1 z.1))
skip-law s x y t any b e r p q = plus-any s t

pub entry_sound : Sound entry_ops IsEntry
entry_sound = record { zero = to_none; add = plus-law; mul = times-law; conj = conjugate-law; skip = skip-law }
  where
    to_none : IsEntry c0 none
    to_none = (cx_sound.zero.0.1, cx_sound.zero.1.1)

pub square-law : (c : Complex) (x : Entry) → IsEntry c x → IsKnown (norm_sqr_of c) (square x)
square-law c none p = cnorm-law c (value none) (to-complex c none p)
square-law c (unit k) p = subst (IsKnown (norm_sqr_of c)) (norms k) (cnorm-law c (value (unit k)) (to-complex c (unit k) p))
square-law c any p = tt
