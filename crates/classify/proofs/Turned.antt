-- The rotation of a number u is the one-mode Majorana map of diag(1, u), zero signs aside, for every u whose doubled parts are finite: so of every
-- finite unit. The map's sums and products are followed over stand-ins for the floats that occur, 0, ±1, ± a part of u and ± twice a part, each step
-- of which is exact; the four entries are then read off. Assumes nothing.
use mathlib.Core.Path.{◌≡◌, refl, sym, ap, ◌∙◌}
use mathlib.Core.Logic.{◌≢◌}
use mathlib.Core.Bool.{Bool, true, false, cond, not, xor, beq, false≢true, ◌&&◌}
use Prim.Native.Nat.{ℕ, zero, suc}
use lib.Dec.{T}
use lib.Ieee.{Float, nan, inf, fin, binary64, add, sub, mul, div, neg, lt, fits, of_bits}
use lib.Ieee.Bits.{of_bits-fits}
use lib.Ieee.Fits.{add-fits, div-fits}
use lib.Ieee.Scale.{finite}
use Rattle.std.proofs.lemmas.Bool.{cond_both}
use Rattle.laws.specs.Zeros.{+0, +1, nz, sg}
use Rattle.laws.proofs.Zeros.{add_cong, mul-cong, neg-cong, div-cong}
use Rattle.laws.proofs.Negatives.{neg-neg, add-sg, sg-xor}
use Rattle.laws.proofs.Fit.{times-sign, sg-fits}
use Rattle.laws.proofs.FirstTerms.{plus_comm}
use Rattle.real.specs.Maps.{entry2}
use Rattle.gate.specs.Complex.{◌+ℂ◌, ◌*ℂ◌, conj_of, cx, f0, f2, c0, c1}
use Rattle.gate.specs.Matrix.{mat2, dot2_of, mul2_of, dag2_of}
use Rattle.gate.specs.declared.complex.Complex.{Complex}
use Rattle.gate.specs.declared.matrix.Row2.{Row2}
use Rattle.gate.specs.declared.matrix.Mat2.{Mat2}
use Rattle.named.specs.Table.{gate_x, gate_y}
use Rattle.majorana.specs.Majorana.{image2_of, trace_row2_of, trace2_of, coefficient2_of, coefficients2_of, map_row2_of, majorana_map1_of}
use Rattle.classify.specs.Diagonal.{norm_of, unit_of, rotation_map_of}
use Rattle.classify.proofs.Halves.{Room, room-sg, room_of, half, zero-plus, zero-times, mul-turned}

-- ---- stand-ins for floats

-- 1.0; a part of u, the imaginary one if the bit says so; that part doubled
data Kind : Type 0 where
  one : Kind
  part twice : Bool → Kind

-- not followed; a zero of either sign; a number of a kind, negated if the bit says so
data Sym : Type 0 where
  un zr : Sym
  num : Kind → Bool → Sym

abbrev plus : Kind → Bool → Kind → Bool → Sym
plus one s l t = un
plus (twice p) s l t = un
plus (part p) s one t = un
plus (part p) s (twice q) t = un
plus (part p) s (part q) t = cond (beq p q && beq s t) (num (twice p) s) un

abbrev add_s : Sym → Sym → Sym
add_s un b = un
add_s zr b = b
add_s (num k s) un = un
add_s (num k s) zr = num k s
add_s (num k s) (num l t) = plus k s l t

abbrev times : Kind → Bool → Kind → Bool → Sym
times one s l t = num l (xor s t)
times (part p) s one t = num (part p) (xor t s)
times (part p) s (part q) t = un
times (part p) s (twice q) t = un
times (twice p) s l t = un

abbrev mul_s : Sym → Sym → Sym
mul_s un b = un
mul_s zr un = un
mul_s zr zr = zr
mul_s zr (num l t) = zr
mul_s (num k s) un = un
mul_s (num k s) zr = zr
mul_s (num k s) (num l t) = times k s l t

abbrev neg_s : Sym → Sym
neg_s un = un
neg_s zr = zr
neg_s (num k s) = num k (not s)

abbrev sub_s : Sym → Sym → Sym
sub_s a b = add_s a (neg_s b)

abbrev half_of : Kind → Bool → Sym
half_of one s = un
half_of (part p) s = un
half_of (twice p) s = num (part p) s

abbrev half_s : Sym → Sym
half_s un = un
half_s zr = un
half_s (num k s) = half_of k s

-- ---- and for complex numbers and 2 by 2 matrices, with the operations of the code

data Cs : Type 0 where
  cs : Sym → Sym → Cs

data Ms : Type 0 where
  ms : Cs → Cs → Cs → Cs → Ms

abbrev add_c : Cs → Cs → Cs
add_c (cs a b) (cs c d) = cs (add_s a c) (add_s b d)

abbrev mul_c : Cs → Cs → Cs
mul_c (cs a b) (cs c d) = cs (sub_s (mul_s a c) (mul_s b d)) (add_s (mul_s a d) (mul_s b c))

abbrev conj_c : Cs → Cs
conj_c (cs a b) = cs a (neg_s b)

abbrev dot_c : Cs → Cs → Cs → Cs → Cs
dot_c a b x y = add_c (mul_c a x) (mul_c b y)

abbrev mul_m : Ms → Ms → Ms
mul_m (ms a b c d) (ms x y z w) = ms (dot_c a b x z) (dot_c a b y w) (dot_c c d x z) (dot_c c d y w)

abbrev dag_m : Ms → Ms
dag_m (ms a b c d) = ms (conj_c a) (conj_c c) (conj_c b) (conj_c d)

abbrev image_m : Ms → Ms → Ms
image_m c u = mul_m (dag_m u) (mul_m c u)

-- t + a x + b y
abbrev row_c : Cs → Cs → Cs → Cs → Cs → Cs
row_c t a b x y = add_c (add_c t (mul_c a x)) (mul_c b y)

abbrev trace_m : Ms → Ms → Cs
trace_m (ms a b c d) (ms x y z w) = row_c (row_c (cs zr zr) a b x z) c d y w

abbrev re_s : Cs → Sym
re_s (cs a b) = a

abbrev coefficient_m : Ms → Ms → Sym
coefficient_m c w = half_s (re_s (trace_m c w))

-- ---- what they stand for

module _ (u : Complex) (X : T (fits binary64 u.re)) (Y : T (fits binary64 u.im)) (R : Room u.re) (I : Room u.im)
    (XX : T (finite (add binary64 u.re u.re))) (YY : T (finite (add binary64 u.im u.im))) where
  abbrev part_of : Bool → Float
  part_of false = u.re
  part_of true = u.im

  abbrev value : Kind → Float
  value one = +1
  value (part p) = part_of p
  value (twice p) = add binary64 (part_of p) (part_of p)

  abbrev Is : Float → Sym → Type 0
  Is x un = Unit {0}
  Is x zr = nz x ≡ +0
  Is x (num k s) = nz x ≡ nz (sg s (value k))

  part-fits : (p : Bool) → T (fits binary64 (part_of p))
  part-fits false = X
  part-fits true = Y

  part_room : (p : Bool) → Room (part_of p)
  part_room false = R
  part_room true = I

  value-fits : (k : Kind) → T (fits binary64 (value k))
  unfolding fits
  value-fits one = tt
  value-fits (part p) = part-fits p
  value-fits (twice p) = add-fits binary64 (part_of p) (part_of p)

  room-finite : (x : Float) → Room x → T (finite x)
  room-finite nan r = absurd r
  room-finite (inf s) r = absurd r
  room-finite (fin s m e) r = tt

  sg-finite : (s : Bool) (x : Float) → T (finite x) → T (finite (sg s x))
  unfolding neg
  sg-finite false x h = h
  sg-finite true nan h = h
  sg-finite true (inf t) h = h
  sg-finite true (fin t m e) h = h

  value-finite : (k : Kind) → T (finite (value k))
  value-finite one = tt
  value-finite (part p) = room-finite (part_of p) (part_room p)
  value-finite (twice false) = XX
  value-finite (twice true) = YY

  -- ---- the operations

  front : (s : Bool) (k : Kind) → nz (add binary64 +0 (sg s (value k))) ≡ nz (sg s (value k))
  front s k = zero-plus (sg s (value k)) (sg-fits s (value k) (value-fits k))

  plus-law : (k : Kind) (s : Bool) (l : Kind) (t : Bool) (x y : Float) → Is x (num k s) → Is y (num l t) → Is (add binary64 x y) (plus k s l t)
  plus-law one s l t x y h g = tt
  plus-law (twice p) s l t x y h g = tt
  plus-law (part p) s one t x y h g = tt
  plus-law (part p) s (twice q) t x y h g = tt
  plus-law (part p) s (part q) t x y h g = by p q s t h g
    where
      by : (p q s t : Bool) → Is x (num (part p) s) → Is y (num (part q) t) → Is (add binary64 x y) (plus (part p) s (part q) t)
      by false false false false h g = add_cong x y u.re u.re h g
      by false false true true h g = add_cong x y (neg u.re) (neg u.re) h g ∙ add-sg true u.re u.re
      by true true false false h g = add_cong x y u.im u.im h g
      by true true true true h g = add_cong x y (neg u.im) (neg u.im) h g ∙ add-sg true u.im u.im
      by false false false true h g = tt
      by false false true false h g = tt
      by true true false true h g = tt
      by true true true false h g = tt
      by false true s t h g = tt
      by true false s t h g = tt

  add-law : (x y : Float) (a b : Sym) → Is x a → Is y b → Is (add binary64 x y) (add_s a b)
  add-law x y un b h g = tt
  add-law x y zr un h g = tt
  add-law x y zr zr h g = add_cong x y +0 +0 h g ∙ zero-plus +0 (unfold fits in tt)
  add-law x y zr (num l t) h g = add_cong x y +0 (sg t (value l)) h g ∙ front t l
  add-law x y (num k s) un h g = tt
  add-law x y (num k s) zr h g = add_cong x y (sg s (value k)) +0 h g ∙ ap nz (plus_comm (sg s (value k)) +0) ∙ front s k
  add-law x y (num k s) (num l t) h g = plus-law k s l t x y h g

  neg-law : (x : Float) (a : Sym) → Is x a → Is (neg x) (neg_s a)
  unfolding neg
  neg-law x un h = tt
  neg-law x zr h = neg-cong x +0 h
  neg-law x (num k false) h = neg-cong x (value k) h
  neg-law x (num k true) h = neg-cong x (neg (value k)) h ∙ ap nz (neg-neg (value k))

  sub-law : (x y : Float) (a b : Sym) → Is x a → Is y b → Is (sub binary64 x y) (sub_s a b)
  unfolding sub
  sub-law x y a b h g = add-law x (neg y) a (neg_s b) h (neg-law y b g)

  -- ±v times ±1
  one-times : (s t : Bool) (k : Kind) → mul binary64 (sg s (value k)) (sg t +1) ≡ sg (xor t s) (value k)
  one-times s t k = times-sign t (sg s (value k)) (sg-fits s (value k) (value-fits k)) ∙ sg-xor t s (value k)

  times-law : (k : Kind) (s : Bool) (l : Kind) (t : Bool) (x y : Float) → Is x (num k s) → Is y (num l t) → Is (mul binary64 x y) (times k s l t)
  times-law one s l t x y h g =
      mul-cong x y (sg s +1) (sg t (value l)) h g ∙ ap nz (mul-turned (sg s +1) (sg t (value l)) ∙ one-times t s l)
  times-law (part p) s one t x y h g = mul-cong x y (sg s (part_of p)) (sg t +1) h g ∙ ap nz (one-times s t (part p))
  times-law (part p) s (part q) t x y h g = tt
  times-law (part p) s (twice q) t x y h g = tt
  times-law (twice p) s l t x y h g = tt

  nothing : (s : Bool) (k : Kind) → nz (mul binary64 +0 (sg s (value k))) ≡ +0
  nothing s k = zero-times (sg s (value k)) (sg-finite s (value k) (value-finite k))

  mul-law : (x y : Float) (a b : Sym) → Is x a → Is y b → Is (mul binary64 x y) (mul_s a b)
  mul-law x y un b h g = tt
  mul-law x y zr un h g = tt
  mul-law x y zr zr h g = mul-cong x y +0 +0 h g ∙ zero-times +0 tt
  mul-law x y zr (num l t) h g = mul-cong x y +0 (sg t (value l)) h g ∙ nothing t l
  mul-law x y (num k s) un h g = tt
  mul-law x y (num k s) zr h g = mul-cong x y (sg s (value k)) +0 h g ∙ ap nz (mul-turned (sg s (value k)) +0) ∙ nothing s k
  mul-law x y (num k s) (num l t) h g = times-law k s l t x y h g

  two-some : nz f2 ≢ +0
  unfolding lt of_bits
  two-some e = false≢true (sym (ap (lt +0) e))

  half_of-law : (k : Kind) (s : Bool) (x : Float) → Is x (num k s) → Is (div binary64 x f2) (half_of k s)
  half_of-law one s x h = tt
  half_of-law (part p) s x h = tt
  half_of-law (twice p) s x h =
      div-cong x f2 (add binary64 (sg s (part_of p)) (sg s (part_of p))) f2 (h ∙ sym (add-sg s (part_of p) (part_of p))) refl two-some
      ∙ ap nz (half (sg s (part_of p)) (sg-fits s (part_of p) (part-fits p)) (room-sg s (part_of p) (part_room p)))

  half-law : (x : Float) (a : Sym) → Is x a → Is (div binary64 x f2) (half_s a)
  half-law x un h = tt
  half-law x zr h = tt
  half-law x (num k s) h = half_of-law k s x h

  -- ---- complex numbers

  abbrev IsC : Complex → Cs → Type 0
  IsC z (cs a b) = Is z.re a × Is z.im b

  add_c-law : (z w : Complex) (p q : Cs) → IsC z p → IsC w q → IsC (z +ℂ w) (add_c p q)
  add_c-law z w (cs a b) (cs c d) h g = (add-law z.re w.re a c h.0 g.0, add-law z.im w.im b d h.1 g.1)

  mul_c-law : (z w : Complex) (p q : Cs) → IsC z p → IsC w q → IsC (z *ℂ w) (mul_c p q)
  mul_c-law z w (cs a b) (cs c d) h g = (
    sub-law (mul binary64 z.re w.re) (mul binary64 z.im w.im) (mul_s a c) (mul_s b d)
        (mul-law z.re w.re a c h.0 g.0) (mul-law z.im w.im b d h.1 g.1),
    add-law (mul binary64 z.re w.im) (mul binary64 z.im w.re) (mul_s a d) (mul_s b c)
        (mul-law z.re w.im a d h.0 g.1) (mul-law z.im w.re b c h.1 g.0),
  )

  conj_c-law : (z : Complex) (p : Cs) → IsC z p → IsC (conj_of z) (conj_c p)
  conj_c-law z (cs a b) h = (h.0, neg-law z.im b h.1)

  -- t + z w
  mac-law : (t z w : Complex) (r p q : Cs) → IsC t r → IsC z p → IsC w q → IsC (t +ℂ z *ℂ w) (add_c r (mul_c p q))
  mac-law t z w r p q f h g = add_c-law t (z *ℂ w) r (mul_c p q) f (mul_c-law z w p q h g)

  -- ---- matrices

  abbrev IsM : Mat2 → Ms → Type 0
  IsM m (ms a b c d) = IsC m.r0.c0 a × IsC m.r0.c1 b × IsC m.r1.c0 c × IsC m.r1.c1 d

  dot-law : (r : Row2) (z w : Complex) (a b p q : Cs) → IsC r.c0 a → IsC r.c1 b → IsC z p → IsC w q → IsC (dot2_of r z w) (dot_c a b p q)
  unfolding dot2_of
  dot-law r z w a b p q f g h k = mac-law (r.c0 *ℂ z) r.c1 w (mul_c a p) b q (mul_c-law r.c0 z a p f h) g k

  mul_m-law : (m n : Mat2) (p q : Ms) → IsM m p → IsM n q → IsM (mul2_of m n) (mul_m p q)
  unfolding mul2_of
  mul_m-law m n (ms a b c d) (ms x y z w) h g = (
    dot-law m.r0 n.r0.c0 n.r1.c0 a b x z h.0 h.1 g.0 g.2,
    dot-law m.r0 n.r0.c1 n.r1.c1 a b y w h.0 h.1 g.1 g.3,
    dot-law m.r1 n.r0.c0 n.r1.c0 c d x z h.2 h.3 g.0 g.2,
    dot-law m.r1 n.r0.c1 n.r1.c1 c d y w h.2 h.3 g.1 g.3,
  )

  dag_m-law : (m : Mat2) (p : Ms) → IsM m p → IsM (dag2_of m) (dag_m p)
  unfolding dag2_of
  dag_m-law m (ms a b c d) h =
      (conj_c-law m.r0.c0 a h.0, conj_c-law m.r1.c0 c h.2, conj_c-law m.r0.c1 b h.1, conj_c-law m.r1.c1 d h.3)

  image_m-law : (c m : Mat2) (p q : Ms) → IsM c p → IsM m q → IsM (image2_of c m) (image_m p q)
  unfolding image2_of
  image_m-law c m p q h g = mul_m-law (dag2_of m) (mul2_of c m) (dag_m q) (mul_m p q) (dag_m-law m q g) (mul_m-law c m p q h g)

  row-law : (t : Complex) (r : Row2) (z w : Complex) (f a b p q : Cs) → IsC t f → IsC r.c0 a → IsC r.c1 b → IsC z p → IsC w q
      → IsC (trace_row2_of t r z w) (row_c f a b p q)
  unfolding trace_row2_of
  row-law t r z w f a b p q h g k l n = mac-law (t +ℂ r.c0 *ℂ z) r.c1 w (add_c f (mul_c a p)) b q (mac-law t r.c0 z f a p h g l) k n

  re-law : (z : Complex) (p : Cs) → IsC z p → Is z.re (re_s p)
  re-law z (cs a b) h = h.0

  zero_is : IsC c0 (cs zr zr)
  unfolding of_bits
  zero_is = (refl, refl)

  coefficient-law : (c m : Mat2) (p q : Ms) → IsM c p → IsM m q → Is (coefficient2_of c m) (coefficient_m p q)
  unfolding coefficient2_of trace2_of
  coefficient-law c m (ms a b d e) (ms x y z w) h g =
      half-law (trace2_of c m).re (re_s (trace_m (ms a b d e) (ms x y z w)))
      (re-law (trace2_of c m) (trace_m (ms a b d e) (ms x y z w))
      (row-law (trace_row2_of c0 c.r0 m.r0.c0 m.r1.c0) c.r1 m.r0.c1 m.r1.c1 (row_c (cs zr zr) a b x z) d e y w
      (row-law c0 c.r0 m.r0.c0 m.r1.c0 (cs zr zr) a b x z zero_is h.0 h.1 g.0 g.2) h.2 h.3 g.1 g.3))

  -- ---- the operators and diag(1, u)

  abbrev +1s : Sym
  +1s = num one false

  abbrev x_m : Ms
  x_m = ms (cs zr zr) (cs +1s zr) (cs +1s zr) (cs zr zr)

  abbrev y_m : Ms
  y_m = ms (cs zr zr) (cs zr (num one true)) (cs zr +1s) (cs zr zr)

  abbrev u_m : Ms
  u_m = ms (cs +1s zr) (cs zr zr) (cs zr zr) (cs (num (part false) false) (num (part true) false))

  x-is : IsM gate_x x_m
  unfolding of_bits
  x-is = ((refl, refl), (refl, refl), (refl, refl), (refl, refl))

  y-is : IsM gate_y y_m
  unfolding of_bits neg
  y-is = ((refl, refl), (refl, refl), (refl, refl), (refl, refl))

  u-is : IsM (mat2 c1 c0 c0 u) u_m
  unfolding of_bits
  u-is = ((refl, refl), (refl, refl), (refl, refl), (refl, refl))

  entry : (c d : Mat2) (p q : Ms) → IsM c p → IsM d q → Is (coefficient2_of d (image2_of c (mat2 c1 c0 c0 u))) (coefficient_m q (image_m p u_m))
  entry c d p q h g = coefficient-law d (image2_of c (mat2 c1 c0 c0 u)) q (image_m p u_m) g (image_m-law c (mat2 c1 c0 c0 u) p u_m h u-is)

  entries : (i j : ℕ) → nz (entry2 (majorana_map1_of (mat2 c1 c0 c0 u)).q i j) ≡ nz (entry2 (rotation_map_of u) i j)
  unfolding majorana_map1_of map_row2_of coefficients2_of rotation_map_of xor
  entries zero zero = entry gate_x gate_x x_m x_m x-is x-is
  entries zero (suc zero) = entry gate_x gate_y x_m y_m x-is y-is
  entries zero (suc (suc j)) = refl
  entries (suc i) zero = entry gate_y gate_x y_m x_m y-is x-is
  entries (suc i) (suc zero) = entry gate_y gate_y y_m y_m y-is y-is
  entries (suc i) (suc (suc j)) = refl

-- ---- the theorem

pub rotation-is-map : (u : Complex) → T (fits binary64 u.re) → T (fits binary64 u.im)
    → T (finite (add binary64 u.re u.re)) → T (finite (add binary64 u.im u.im))
    → (i j : ℕ) → nz (entry2 (majorana_map1_of (mat2 c1 c0 c0 u)).q i j) ≡ nz (entry2 (rotation_map_of u) i j)
rotation-is-map u X Y XX YY = entries u X Y (room_of u.re XX) (room_of u.im YY) XX YY

-- ---- units: their parts are f64

unit-fits : (p : Complex) → T (fits binary64 (unit_of p).re) × T (fits binary64 (unit_of p).im)
unfolding unit_of
unit-fits p =
    cond_both (lt f0 (norm_of p) && finite (norm_of p)) _ _ (λ (v : Complex). T (fits binary64 v.re) × T (fits binary64 v.im))
    (λ _. (div-fits binary64 p.re (norm_of p), div-fits binary64 p.im (norm_of p)))
    (λ _. (of_bits-fits binary64 0x3ff0_0000_0000_0000, of_bits-fits binary64 0))

pub unit-rotation : (p : Complex) → T (finite (add binary64 (unit_of p).re (unit_of p).re)) → T (finite (add binary64 (unit_of p).im (unit_of p).im))
    → (i j : ℕ) → nz (entry2 (majorana_map1_of (mat2 c1 c0 c0 (unit_of p))).q i j) ≡ nz (entry2 (rotation_map_of (unit_of p)) i j)
unit-rotation p = rotation-is-map (unit_of p) (unit-fits p).0 (unit-fits p).1
