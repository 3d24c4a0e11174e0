-- Complex numbers whose parts are known numbers: a stand-in for the complex numbers of the code. Assumes nothing.
use mathlib.Core.Path.{◌≡◌, refl, sym, ◌∙◌, subst}
use mathlib.Core.Bool.{Bool, true, ◌&&◌}
use Prim.Native.Nat.{zero}
use lib.Dec.{T, ltb, lt→ltb, lit<}
use lib.IntN.{ℤ, pos, nat_abs, +ℤ_idr}
use lib.Ieee.{Float, binary64, mul, eq}
use lib.Ieee.Bits.{is_true}
use lib.Ieee.Fits.{and_l, and_r}
use Rattle.laws.specs.Dyadic.{Dy}
use Rattle.laws.proofs.Zeros.{zero_bits}
use Rattle.laws.proofs.DyadicOrder.{eq-dy}
use Rattle.gate.specs.Complex.{◌+ℂ◌, ◌-ℂ◌, ◌*ℂ◌, conj_of, scale_of, norm_sqr_of, is_zero_of, f0}
use Rattle.gate.specs.declared.complex.Complex.{Complex}
use Rattle.monomial.proofs.Known.{Known, un, kn, bound, keep, add_k, sub_k, mul_k, neg_k, IsKnown, add-known, sub-known, mul-known, neg-known, eq_z→}
use Rattle.monomial.proofs.Products.{Ops, Sound}

pub data Cx : Type 0 where
  cx : Known → Known → Cx

abbrev pub IsComplex : Complex → Cx → Type 0
IsComplex c (cx a b) = IsKnown c.re a × IsKnown c.im b

-- ---- operations

abbrev pub k0 : Known
k0 = kn (pos 0)

abbrev pub re_k : Cx → Known
re_k (cx a b) = a

abbrev pub cadd : Cx → Cx → Cx
cadd (cx a b) (cx c d) = cx (add_k a c) (add_k b d)

abbrev pub csub : Cx → Cx → Cx
csub (cx a b) (cx c d) = cx (sub_k a c) (sub_k b d)

abbrev pub cmul : Cx → Cx → Cx
cmul (cx a b) (cx c d) = cx (sub_k (mul_k a c) (mul_k b d)) (add_k (mul_k a d) (mul_k b c))

abbrev pub cconj : Cx → Cx
cconj (cx a b) = cx a (neg_k b)

abbrev pub cscale : Cx → Known → Cx
cscale (cx a b) q = cx (mul_k a q) (mul_k b q)

abbrev pub cnorm : Cx → Known
cnorm (cx a b) = add_k (mul_k a a) (mul_k b b)

abbrev pub cx_ops : Ops Cx
cx_ops = record { zero = cx k0 k0; add = cadd; mul = cmul; conj = cconj }

-- ---- the laws

-- +0 and its bits
pub zero_is : Dy 0 (pos 0) f0
zero_is = subst (Dy 0 (pos 0)) (sym zero_bits) (0, refl, refl)

pub zero-known : IsKnown f0 k0
zero-known = (lit< tt, zero_is)

cadd-law : (x y : Complex) (a b : Cx) → IsComplex x a → IsComplex y b → IsComplex (x +ℂ y) (cadd a b)
cadd-law x y (cx a b) (cx c d) r s = (add-known x.re y.re a c r.0 s.0, add-known x.im y.im b d r.1 s.1)

pub csub-law : (x y : Complex) (a b : Cx) → IsComplex x a → IsComplex y b → IsComplex (x -ℂ y) (csub a b)
csub-law x y (cx a b) (cx c d) r s = (sub-known x.re y.re a c r.0 s.0, sub-known x.im y.im b d r.1 s.1)

cmul-law : (x y : Complex) (a b : Cx) → IsComplex x a → IsComplex y b → IsComplex (x *ℂ y) (cmul a b)
cmul-law x y (cx a b) (cx c d) r s = (
  sub-known (mul binary64 x.re y.re) (mul binary64 x.im y.im) (mul_k a c) (mul_k b d)
      (mul-known x.re y.re a c r.0 s.0)
      (mul-known x.im y.im b d r.1 s.1),
  add-known (mul binary64 x.re y.im) (mul binary64 x.im y.re) (mul_k a d) (mul_k b c)
      (mul-known x.re y.im a d r.0 s.1)
      (mul-known x.im y.re b c r.1 s.0),
)

cconj-law : (x : Complex) (a : Cx) → IsComplex x a → IsComplex (conj_of x) (cconj a)
cconj-law x (cx a b) r = (r.0, neg-known x.im b r.1)

pub cscale-law : (x : Complex) (y : Float) (a : Cx) (q : Known) → IsComplex x a → IsKnown y q → IsComplex (scale_of x y) (cscale a q)
cscale-law x y (cx a b) q r s = (mul-known x.re y a q r.0 s, mul-known x.im y b q r.1 s)

pub cnorm-law : (x : Complex) (a : Cx) → IsComplex x a → IsKnown (norm_sqr_of x) (cnorm a)
cnorm-law x (cx a b) r =
    add-known (mul binary64 x.re x.re) (mul binary64 x.im x.im) (mul_k a a) (mul_k b b)
    (mul-known x.re x.re a a r.0 r.0)
    (mul-known x.im x.im b b r.1 r.1)

pub re-law : (x : Complex) (a : Cx) → IsComplex x a → IsKnown x.re (re_k a)
re-law x (cx a b) r = r.0

-- ---- the skip: what is known of a zero, and of its products, is that it is 0

data Nothing : Known → Type 0 where
  unknown : Nothing un
  nought : Nothing (kn (pos zero))

pub equal-zero : (z : ℤ) (x : Float) → Dy 0 z x → eq x f0 ≡ true → z ≡ pos 0
equal-zero z x d e = eq_z→ z (pos 0) (subst T (sym e ∙ eq-dy 0 z (pos 0) x f0 d zero_is) tt)

zero-nothing : (x : Float) (a : Known) → IsKnown x a → eq x f0 ≡ true → Nothing a
zero-nothing x un r e = unknown
zero-nothing x (kn z) r e = subst (λ (v : ℤ). Nothing (kn v)) (sym (equal-zero z x r.1 e)) nought

mul-nothing : {a : Known} → Nothing a → (b : Known) → Nothing (mul_k a b)
mul-nothing unknown b = unknown
mul-nothing nought un = unknown
mul-nothing nought (kn w) = nought

add_nothing : {a b : Known} → Nothing a → Nothing b → Nothing (add_k a b)
add_nothing unknown b = unknown
add_nothing nought unknown = unknown
add_nothing nought nought = nought

sub-nothing : {a b : Known} → Nothing a → Nothing b → Nothing (sub_k a b)
sub-nothing unknown b = unknown
sub-nothing nought unknown = unknown
sub-nothing nought nought = nought

cmul-nothing : {a b : Known} → Nothing a → Nothing b → (c d : Known) → Nothing (sub_k (mul_k a c) (mul_k b d)) × Nothing (add_k (mul_k a d) (mul_k b c))
cmul-nothing a b c d = (sub-nothing (mul-nothing a c) (mul-nothing b d), add_nothing (mul-nothing a d) (mul-nothing b c))

plus-nothing : (x : Float) (a : Known) {b : Known} → IsKnown x a → Nothing b → IsKnown x (add_k a b)
plus-nothing x un r n = tt
plus-nothing x (kn z) r unknown = tt
plus-nothing x (kn z) r nought =
    subst (λ (v : ℤ). IsKnown x (keep (ltb (nat_abs v) bound) v)) (sym (+ℤ_idr z))
    (subst (λ (b : Bool). IsKnown x (keep b z)) (sym (is_true (ltb (nat_abs z) bound) (lt→ltb (nat_abs z) bound r.0))) r)

pub zero-parts : (x : Complex) → is_zero_of x ≡ true → (eq x.re f0 ≡ true) × (eq x.im f0 ≡ true)
unfolding is_zero_of
zero-parts x e =
    let t : T (eq x.re f0 && eq x.im f0) = subst T (sym e) tt in
    (is_true (eq x.re f0) (and_l (eq x.re f0) (eq x.im f0) t), is_true (eq x.im f0) (and_r (eq x.re f0) (eq x.im f0) t))

cskip-law : (s x y : Complex) (t a b : Cx) → is_zero_of x ≡ true → IsComplex s t → IsComplex x a → IsComplex y b → IsComplex s (cadd t (cmul a b))
cskip-law s x y (cx t u) (cx a b) (cx c d) e r p q =
    let z = zero-parts x e in
    let n = cmul-nothing (zero-nothing x.re a p.0 z.0) (zero-nothing x.im b p.1 z.1) c d in
    (plus-nothing s.re t r.0 n.0, plus-nothing s.im u r.1 n.1)

pub cx_sound : Sound cx_ops IsComplex
cx_sound = record { zero = (zero-known, zero-known); add = cadd-law; mul = cmul-law; conj = cconj-law; skip = cskip-law }
