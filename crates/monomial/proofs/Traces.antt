-- A row of the Majorana map and the square of its distance, over known numbers: with the operations of `majorana` in the same order, and the laws
-- that the floats of the code are so known. Names that end in 2 are of one mode, those that end in 4 of two. Assumes nothing.
use mathlib.Core.Path.{refl}
use lib.Dec.{lit<}
use lib.IntN.{pos}
use lib.Ieee.{Float, binary64, add, of_bits}
use Rattle.gate.specs.Complex.{◌+ℂ◌, ◌-ℂ◌, ◌*ℂ◌, norm_sqr_of, scale_of, f0, c0, f2}
use Rattle.gate.specs.declared.complex.Complex.{Complex}
use Rattle.gate.specs.declared.matrix.Row2.{Row2}
use Rattle.gate.specs.declared.matrix.Mat2.{Mat2}
use Rattle.gate.specs.declared.matrix.Row4.{Row4}
use Rattle.gate.specs.declared.matrix.Mat4.{Mat4}
use Rattle.majorana.specs.Majorana.{f4, trace_row2_of, trace2_of, coefficient2_of, less_row2_of, less2_of, plus_row2_of, square2_of, column0, column1, column2, column3, trace_row4_of, trace4_of, coefficient4_of, less_row4_of, less4_of, plus_row4_of, square4_of}
use Rattle.monomial.specs.Groups.{Two, two, Four, four, Row2Of, Mat2Of, Row4Of, Mat4Of}
use Rattle.monomial.proofs.Known.{Known, kn, add_k, div_k, IsKnown, add-known, div_known}
use Rattle.monomial.proofs.Complexes.{Cx, cx, IsComplex, k0, re_k, cadd, csub, cmul, cscale, cnorm, cx_sound, csub-law, cscale-law, cnorm-law, re-law, zero-known}

pub two-known : IsKnown f2 (kn (pos 2))
unfolding of_bits
two-known = (lit< tt, (2, refl, refl))

pub four-known : IsKnown f4 (kn (pos 4))
unfolding of_bits
four-known = (lit< tt, (4, refl, refl))

-- t + a * x
abbrev mac : Cx → Cx → Cx → Cx
mac t a x = cadd t (cmul a x)

mac-law : (t a x : Complex) (p q r : Cx) → IsComplex t p → IsComplex a q → IsComplex x r → IsComplex (t +ℂ a *ℂ x) (mac p q r)
mac-law t a x p q r h k l = cx_sound.add t (a *ℂ x) p (cmul q r) h (cx_sound.mul a x q r k l)

-- w - x c
abbrev less : Cx → Cx → Known → Cx
less w c x = csub w (cscale c x)

less-law : (w c : Complex) (x : Float) (p q : Cx) (r : Known) → IsComplex w p → IsComplex c q → IsKnown x r
    → IsComplex (w -ℂ scale_of c x) (less p q r)
less-law w c x p q r h k l = csub-law w (scale_of c x) p (cscale q r) h (cscale-law c x q r k l)

-- s + |x| ^ 2
abbrev plus : Known → Cx → Known
plus s x = add_k s (cnorm x)

plus-law : (s : Float) (x : Complex) (p : Known) (q : Cx) → IsKnown s p → IsComplex x q → IsKnown (add binary64 s (norm_sqr_of x)) (plus p q)
plus-law s x p q h k = add-known s (norm_sqr_of x) p (cnorm q) h (cnorm-law x q k)

-- ---- one mode

abbrev pub trace_row2 : Cx → Two Cx → Cx → Cx → Cx
trace_row2 t (two a b) x y = mac (mac t a x) b y

abbrev pub trace2 : Two (Two Cx) → Two (Two Cx) → Cx
trace2 (two p q) (two (two a b) (two c d)) = trace_row2 (trace_row2 (cx k0 k0) p a c) q b d

abbrev pub coefficient2 : Two (Two Cx) → Two (Two Cx) → Known
coefficient2 c w = div_k (re_k (trace2 c w)) (kn (pos 2))

abbrev pub less_row2 : Two Cx → Two Cx → Known → Two Cx
less_row2 (two a b) (two c d) x = two (less a c x) (less b d x)

abbrev pub less2 : Two (Two Cx) → Two (Two Cx) → Known → Two (Two Cx)
less2 (two a b) (two c d) x = two (less_row2 a c x) (less_row2 b d x)

abbrev pub plus_row2 : Known → Two Cx → Known
plus_row2 s (two a b) = plus (plus s a) b

abbrev pub square2 : Two (Two Cx) → Known
square2 (two a b) = plus_row2 (plus_row2 k0 a) b

trace_row2-law : (t : Complex) (r : Row2) (x y : Complex) (p : Cx) (q : Two Cx) (a b : Cx)
    → IsComplex t p → Row2Of IsComplex r q → IsComplex x a → IsComplex y b → IsComplex (trace_row2_of t r x y) (trace_row2 p q a b)
unfolding trace_row2_of
trace_row2-law t r x y p (two c d) a b h k l m = mac-law (t +ℂ r.c0 *ℂ x) r.c1 y (mac p c a) d b (mac-law t r.c0 x p c a h k.0 l) k.1 m

pub coefficient2-law : (c w : Mat2) (p q : Two (Two Cx)) → Mat2Of IsComplex c p → Mat2Of IsComplex w q
    → IsKnown (coefficient2_of c w) (coefficient2 p q)
unfolding coefficient2_of trace2_of
coefficient2-law c w (two p q) (two (two a b) (two d e)) h k =
    div_known (trace2_of c w).re f2 (re_k t2) (kn (pos 2)) (re-law (trace2_of c w) t2 second) two-known
  where
    t1 : Cx
    t1 = trace_row2 (cx k0 k0) p a d

    t2 : Cx
    t2 = trace_row2 t1 q b e

    first : IsComplex (trace_row2_of c0 c.r0 w.r0.c0 w.r1.c0) t1
    first = trace_row2-law c0 c.r0 w.r0.c0 w.r1.c0 (cx k0 k0) p a d cx_sound.zero h.0 k.0.0 k.1.0

    second : IsComplex (trace2_of c w) t2
    second = trace_row2-law (trace_row2_of c0 c.r0 w.r0.c0 w.r1.c0) c.r1 w.r0.c1 w.r1.c1 t1 q b e first h.1 k.0.1 k.1.1

less_row2-law : (w c : Row2) (x : Float) (p q : Two Cx) (r : Known) → Row2Of IsComplex w p → Row2Of IsComplex c q → IsKnown x r
    → Row2Of IsComplex (less_row2_of w c x) (less_row2 p q r)
unfolding less_row2_of
less_row2-law w c x (two a b) (two d e) r h k l = (less-law w.c0 c.c0 x a d r h.0 k.0 l, less-law w.c1 c.c1 x b e r h.1 k.1 l)

pub less2-law : (w c : Mat2) (x : Float) (p q : Two (Two Cx)) (r : Known) → Mat2Of IsComplex w p → Mat2Of IsComplex c q → IsKnown x r
    → Mat2Of IsComplex (less2_of w c x) (less2 p q r)
unfolding less2_of
less2-law w c x (two a b) (two d e) r h k l =
    (less_row2-law w.r0 c.r0 x a d r h.0 k.0 l, less_row2-law w.r1 c.r1 x b e r h.1 k.1 l)

plus_row2-law : (s : Float) (r : Row2) (p : Known) (q : Two Cx) → IsKnown s p → Row2Of IsComplex r q → IsKnown (plus_row2_of s r) (plus_row2 p q)
unfolding plus_row2_of
plus_row2-law s r p (two a b) h k = plus-law _ r.c1 (plus p a) b (plus-law s r.c0 p a h k.0) k.1

pub square2-law : (m : Mat2) (p : Two (Two Cx)) → Mat2Of IsComplex m p → IsKnown (square2_of m) (square2 p)
unfolding square2_of
square2-law m (two a b) h = plus_row2-law _ m.r1 (plus_row2 k0 a) b (plus_row2-law f0 m.r0 k0 a zero-known h.0) h.1

-- ---- two modes

abbrev pub transpose : {A : Type 0} → Four (Four A) → Four (Four A)
transpose (four (four a b c d) (four e f g h) (four i j k l) (four m n o p)) = four (four a e i m) (four b f j n) (four c g k o) (four d h l p)

abbrev pub trace_row4 : Cx → Four Cx → Four Cx → Cx
trace_row4 t (four a b c d) (four w x y z) = mac (mac (mac (mac t a w) b x) c y) d z

abbrev pub trace_rows4 : Four (Four Cx) → Four (Four Cx) → Cx
trace_rows4 (four p q r s) (four a b c d) = trace_row4 (trace_row4 (trace_row4 (trace_row4 (cx k0 k0) p a) q b) r c) s d

abbrev pub coefficient4 : Four (Four Cx) → Four (Four Cx) → Known
coefficient4 c w = div_k (re_k (trace_rows4 c (transpose w))) (kn (pos 4))

abbrev pub less_row4 : Four Cx → Four Cx → Known → Four Cx
less_row4 (four a b c d) (four e f g h) x = four (less a e x) (less b f x) (less c g x) (less d h x)

abbrev pub less4 : Four (Four Cx) → Four (Four Cx) → Known → Four (Four Cx)
less4 (four a b c d) (four e f g h) x = four (less_row4 a e x) (less_row4 b f x) (less_row4 c g x) (less_row4 d h x)

abbrev pub plus_row4 : Known → Four Cx → Known
plus_row4 s (four a b c d) = plus (plus (plus (plus s a) b) c) d

abbrev pub square4 : Four (Four Cx) → Known
square4 (four a b c d) = plus_row4 (plus_row4 (plus_row4 (plus_row4 k0 a) b) c) d

columns : (w : Mat4) (q : Four (Four Cx)) → Mat4Of IsComplex w q
    → Mat4Of IsComplex (record { r0 = column0 w; r1 = column1 w; r2 = column2 w; r3 = column3 w }) (transpose q)
columns w (four (four a b c d) (four e f g h) (four i j k l) (four m n o p)) r = (
  (r.0.0, r.1.0, r.2.0, r.3.0),
  (r.0.1, r.1.1, r.2.1, r.3.1),
  (r.0.2, r.1.2, r.2.2, r.3.2),
  (r.0.3, r.1.3, r.2.3, r.3.3),
)

trace_row4-law : (t : Complex) (r s : Row4) (p : Cx) (a b : Four Cx) → IsComplex t p → Row4Of IsComplex r a → Row4Of IsComplex s b
    → IsComplex (trace_row4_of t r s) (trace_row4 p a b)
unfolding trace_row4_of
trace_row4-law t r s p (four a b c d) (four w x y z) h k l =
    mac-law _ r.c3 s.c3 (mac (mac (mac p a w) b x) c y) d z
    (mac-law _ r.c2 s.c2 (mac (mac p a w) b x) c y
    (mac-law _ r.c1 s.c1 (mac p a w) b x (mac-law t r.c0 s.c0 p a w h k.0 l.0) k.1 l.1) k.2 l.2) k.3 l.3

traces : (c w : Mat4) (p q : Four (Four Cx)) → Mat4Of IsComplex c p
    → Mat4Of IsComplex (record { r0 = column0 w; r1 = column1 w; r2 = column2 w; r3 = column3 w }) q → IsComplex (trace4_of c w) (trace_rows4 p q)
unfolding trace4_of
traces c w (four p q r s) (four a b d e) h k =
    trace_row4-law _ c.r3 (column3 w) (trace_row4 (trace_row4 (trace_row4 (cx k0 k0) p a) q b) r d) s e
    (trace_row4-law _ c.r2 (column2 w) (trace_row4 (trace_row4 (cx k0 k0) p a) q b) r d
    (trace_row4-law _ c.r1 (column1 w) (trace_row4 (cx k0 k0) p a) q b
    (trace_row4-law c0 c.r0 (column0 w) (cx k0 k0) p a cx_sound.zero h.0 k.0) h.1 k.1) h.2 k.2) h.3 k.3

pub coefficient4-law : (c w : Mat4) (p q : Four (Four Cx)) → Mat4Of IsComplex c p → Mat4Of IsComplex w q
    → IsKnown (coefficient4_of c w) (coefficient4 p q)
unfolding coefficient4_of
coefficient4-law c w p q h k =
    let t = trace_rows4 p (transpose q) in
    div_known (trace4_of c w).re f4 (re_k t) (kn (pos 4)) (re-law (trace4_of c w) t (traces c w p (transpose q) h (columns w q k))) four-known

less_row4-law : (w c : Row4) (x : Float) (p q : Four Cx) (r : Known) → Row4Of IsComplex w p → Row4Of IsComplex c q → IsKnown x r
    → Row4Of IsComplex (less_row4_of w c x) (less_row4 p q r)
unfolding less_row4_of
less_row4-law w c x (four a b d e) (four f g i j) r h k l = (
  less-law w.c0 c.c0 x a f r h.0 k.0 l,
  less-law w.c1 c.c1 x b g r h.1 k.1 l,
  less-law w.c2 c.c2 x d i r h.2 k.2 l,
  less-law w.c3 c.c3 x e j r h.3 k.3 l,
)

pub less4-law : (w c : Mat4) (x : Float) (p q : Four (Four Cx)) (r : Known) → Mat4Of IsComplex w p → Mat4Of IsComplex c q → IsKnown x r
    → Mat4Of IsComplex (less4_of w c x) (less4 p q r)
unfolding less4_of
less4-law w c x (four a b d e) (four f g i j) r h k l = (
  less_row4-law w.r0 c.r0 x a f r h.0 k.0 l,
  less_row4-law w.r1 c.r1 x b g r h.1 k.1 l,
  less_row4-law w.r2 c.r2 x d i r h.2 k.2 l,
  less_row4-law w.r3 c.r3 x e j r h.3 k.3 l,
)

plus_row4-law : (s : Float) (r : Row4) (p : Known) (q : Four Cx) → IsKnown s p → Row4Of IsComplex r q → IsKnown (plus_row4_of s r) (plus_row4 p q)
unfolding plus_row4_of
plus_row4-law s r p (four a b c d) h k =
    plus-law _ r.c3 (plus (plus (plus p a) b) c) d
    (plus-law _ r.c2 (plus (plus p a) b) c
    (plus-law _ r.c1 (plus p a) b (plus-law s r.c0 p a h k.0) k.1) k.2) k.3

pub square4-law : (m : Mat4) (p : Four (Four Cx)) → Mat4Of IsComplex m p → IsKnown (square4_of m) (square4 p)
unfolding square4_of
square4-law m (four a b c d) h =
    plus_row4-law _ m.r3 (plus_row4 (plus_row4 (plus_row4 k0 a) b) c) d
    (plus_row4-law _ m.r2 (plus_row4 (plus_row4 k0 a) b) c
    (plus_row4-law _ m.r1 (plus_row4 k0 a) b (plus_row4-law f0 m.r0 k0 a zero-known h.0) h.1) h.2) h.3
