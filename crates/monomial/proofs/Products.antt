-- The matrix products of `gate` over any stand-ins for complex numbers, with the same operations in the same order, and their laws: from related
-- entries the products of the code make related entries. The known numbers and the entries of monomial matrices are such stand-ins. Assumes nothing.
use mathlib.Core.Path.{◌≡◌, refl}
use mathlib.Core.Bool.{Bool, true, false, cond}
use Rattle.gate.specs.Complex.{◌+ℂ◌, ◌*ℂ◌, conj_of, is_zero_of, c0}
use Rattle.gate.specs.Matrix.{row4, dot2_of, mul2_of, dag2_of, kron_row_of, kron_of, axpy_of, row_mul_of, mul4_of, conj_column_of, dag4_of, mat4_swap_qubits_of}
use Rattle.gate.specs.declared.complex.Complex.{Complex}
use Rattle.gate.specs.declared.matrix.Row2.{Row2}
use Rattle.gate.specs.declared.matrix.Mat2.{Mat2}
use Rattle.gate.specs.declared.matrix.Row4.{Row4}
use Rattle.gate.specs.declared.matrix.Mat4.{Mat4}
use Rattle.monomial.specs.Groups.{Two, two, Four, four, Row2Of, Mat2Of, Row4Of, Mat4Of}

pub record Ops (C : Type 0) : Type 0 where
  pub zero : C
  pub add : C → C → C
  pub mul : C → C → C
  pub conj : C → C

-- ---- the products

module _ {C : Type 0} (O : Ops C) where
  abbrev pub dot2 : Two C → C → C → C
  dot2 (two a b) x y = O.add (O.mul a x) (O.mul b y)

  abbrev pub mul2 : Two (Two C) → Two (Two C) → Two (Two C)
  mul2 (two r s) (two (two a b) (two c d)) = two (two (dot2 r a c) (dot2 r b d)) (two (dot2 s a c) (dot2 s b d))

  abbrev pub dag2 : Two (Two C) → Two (Two C)
  dag2 (two (two a b) (two c d)) = two (two (O.conj a) (O.conj c)) (two (O.conj b) (O.conj d))

  abbrev pub kron_row : Two C → Two C → Four C
  kron_row (two x y) (two a b) = four (O.mul x a) (O.mul x b) (O.mul y a) (O.mul y b)

  abbrev pub kron : Two (Two C) → Two (Two C) → Four (Four C)
  kron (two r s) (two p q) = four (kron_row r p) (kron_row r q) (kron_row s p) (kron_row s q)

  abbrev pub axpy : Four C → C → Four C → Four C
  axpy (four s t u v) x (four a b c d) = four (O.add s (O.mul x a)) (O.add t (O.mul x b)) (O.add u (O.mul x c)) (O.add v (O.mul x d))

  abbrev pub zeros : Four C
  zeros = four O.zero O.zero O.zero O.zero

  abbrev pub row_mul : Four C → Four (Four C) → Four C
  row_mul (four x y z w) (four a b c d) = axpy (axpy (axpy (axpy zeros x a) y b) z c) w d

  abbrev pub mul4 : Four (Four C) → Four (Four C) → Four (Four C)
  mul4 (four p q r s) b = four (row_mul p b) (row_mul q b) (row_mul r b) (row_mul s b)

  abbrev pub conj_column : C → C → C → C → Four C
  conj_column w x y z = four (O.conj w) (O.conj x) (O.conj y) (O.conj z)

  abbrev pub dag4 : Four (Four C) → Four (Four C)
  dag4 (four (four a b c d) (four e f g h) (four i j k l) (four m n o p)) =
      four (conj_column a e i m) (conj_column b f j n) (conj_column c g k o) (conj_column d h l p)

abbrev pub turned_row : {C : Type 0} → Four C → Four C
turned_row (four a b c d) = four a c b d

abbrev pub turned : {C : Type 0} → Four (Four C) → Four (Four C)
turned (four a b c d) = four (turned_row a) (turned_row c) (turned_row b) (turned_row d)

-- ---- related entries

-- the operations keep the relation R of complex numbers to their stand-ins; a product with an x that equals 0 may be skipped
pub record Sound {C : Type 0} (O : Ops C) (R : Complex → C → Type 0) : Type 0 where
  pub zero : R c0 O.zero
  pub add : (x y : Complex) (a b : C) → R x a → R y b → R (x +ℂ y) (O.add a b)
  pub mul : (x y : Complex) (a b : C) → R x a → R y b → R (x *ℂ y) (O.mul a b)
  pub conj : (x : Complex) (a : C) → R x a → R (conj_of x) (O.conj a)
  pub skip : (s x y : Complex) (t a b : C) → is_zero_of x ≡ true → R s t → R x a → R y b → R s (O.add t (O.mul a b))

module _ {C : Type 0} (O : Ops C) (R : Complex → C → Type 0) (L : Sound O R) where
  dot2-law : (r : Row2) (p : Two C) (x y : Complex) (a b : C) → Row2Of R r p → R x a → R y b → R (dot2_of r x y) (dot2 O p a b)
  unfolding dot2_of
  dot2-law r (two c d) x y a b h k l =
      L.add (r.c0 *ℂ x) (r.c1 *ℂ y) (O.mul c a) (O.mul d b) (L.mul r.c0 x c a h.0 k) (L.mul r.c1 y d b h.1 l)

  pub mul2-law : (u v : Mat2) (m w : Two (Two C)) → Mat2Of R u m → Mat2Of R v w → Mat2Of R (mul2_of u v) (mul2 O m w)
  unfolding mul2_of
  mul2-law u v (two p q) (two (two a b) (two c d)) h k =
      let at : (r : Row2) (p : Two C) → Row2Of R r p
      → R (dot2_of r v.r0.c0 v.r1.c0) (dot2 O p a c) × R (dot2_of r v.r0.c1 v.r1.c1) (dot2 O p b d)
      = λ r p g. (dot2-law r p v.r0.c0 v.r1.c0 a c g k.0.0 k.1.0, dot2-law r p v.r0.c1 v.r1.c1 b d g k.0.1 k.1.1) in
      (at u.r0 p h.0, at u.r1 q h.1)

  pub dag2-law : (u : Mat2) (m : Two (Two C)) → Mat2Of R u m → Mat2Of R (dag2_of u) (dag2 O m)
  unfolding dag2_of
  dag2-law u (two (two a b) (two c d)) h =
      ((L.conj u.r0.c0 a h.0.0, L.conj u.r1.c0 c h.1.0), (L.conj u.r0.c1 b h.0.1, L.conj u.r1.c1 d h.1.1))

  kron_row-law : (x y : Complex) (r : Row2) (c d : C) (p : Two C) → R x c → R y d → Row2Of R r p → Row4Of R (kron_row_of x y r) (kron_row O (two c d) p)
  unfolding kron_row_of
  kron_row-law x y r c d (two a b) h k l =
      (L.mul x r.c0 c a h l.0, L.mul x r.c1 c b h l.1, L.mul y r.c0 d a k l.0, L.mul y r.c1 d b k l.1)

  pub kron-law : (u v : Mat2) (m w : Two (Two C)) → Mat2Of R u m → Mat2Of R v w → Mat4Of R (kron_of u v) (kron O m w)
  unfolding kron_of
  kron-law u v (two (two a b) (two c d)) (two p q) h k = (
    kron_row-law u.r0.c0 u.r0.c1 v.r0 a b p h.0.0 h.0.1 k.0,
    kron_row-law u.r0.c0 u.r0.c1 v.r1 a b q h.0.0 h.0.1 k.1,
    kron_row-law u.r1.c0 u.r1.c1 v.r0 c d p h.1.0 h.1.1 k.0,
    kron_row-law u.r1.c0 u.r1.c1 v.r1 c d q h.1.0 h.1.1 k.1,
  )

  axpy-law : (m : Row4) (x : Complex) (r : Row4) (t : Four C) (a : C) (p : Four C) → Row4Of R m t → R x a → Row4Of R r p
      → Row4Of R (axpy_of m x r) (axpy O t a p)
  unfolding axpy_of
  axpy-law m x r (four s t u v) a (four b c d e) h k l = by (is_zero_of x) refl
    where
      by : (z : Bool) → is_zero_of x ≡ z
          → Row4Of R (cond z m (row4 (m.c0 +ℂ x *ℂ r.c0) (m.c1 +ℂ x *ℂ r.c1) (m.c2 +ℂ x *ℂ r.c2) (m.c3 +ℂ x *ℂ r.c3)))
          (axpy O (four s t u v) a (four b c d e))
      by true z =
          let at : (s y : Complex) (t b : C) → R s t → R y b → R s (O.add t (O.mul a b)) = λ s y t b f g. L.skip s x y t a b z f k g in (
            at m.c0 r.c0 s b h.0 l.0,
            at m.c1 r.c1 t c h.1 l.1,
            at m.c2 r.c2 u d h.2 l.2,
            at m.c3 r.c3 v e h.3 l.3,
          )
      by false z =
          let at : (s y : Complex) (t b : C) → R s t → R y b → R (s +ℂ x *ℂ y) (O.add t (O.mul a b))
          = λ s y t b f g. L.add s (x *ℂ y) t (O.mul a b) f (L.mul x y a b k g) in (
            at m.c0 r.c0 s b h.0 l.0,
            at m.c1 r.c1 t c h.1 l.1,
            at m.c2 r.c2 u d h.2 l.2,
            at m.c3 r.c3 v e h.3 l.3,
          )

  row_mul-law : (r : Row4) (v : Mat4) (p : Four C) (w : Four (Four C)) → Row4Of R r p → Mat4Of R v w → Row4Of R (row_mul_of r v) (row_mul O p w)
  unfolding row_mul_of
  row_mul-law r v (four x y z w) (four a b c d) h k =
      axpy-law _ r.c3 v.r3 (axpy O (axpy O (axpy O (zeros O) x a) y b) z c) w d
      (axpy-law _ r.c2 v.r2 (axpy O (axpy O (zeros O) x a) y b) z c
      (axpy-law _ r.c1 v.r1 (axpy O (zeros O) x a) y b
      (axpy-law _ r.c0 v.r0 (zeros O) x a (L.zero, L.zero, L.zero, L.zero) h.0 k.0) h.1 k.1) h.2 k.2) h.3 k.3

  pub mul4-law : (u v : Mat4) (m w : Four (Four C)) → Mat4Of R u m → Mat4Of R v w → Mat4Of R (mul4_of u v) (mul4 O m w)
  unfolding mul4_of
  mul4-law u v (four p q r s) w h k =
      (row_mul-law u.r0 v p w h.0 k, row_mul-law u.r1 v q w h.1 k, row_mul-law u.r2 v r w h.2 k, row_mul-law u.r3 v s w h.3 k)

  conj_column-law : (w x y z : Complex) (a b c d : C) → R w a → R x b → R y c → R z d → Row4Of R (conj_column_of w x y z) (conj_column O a b c d)
  unfolding conj_column_of
  conj_column-law w x y z a b c d h k l m = (L.conj w a h, L.conj x b k, L.conj y c l, L.conj z d m)

  pub dag4-law : (u : Mat4) (m : Four (Four C)) → Mat4Of R u m → Mat4Of R (dag4_of u) (dag4 O m)
  unfolding dag4_of
  dag4-law u (four (four a b c d) (four e f g h) (four i j k l) (four m n o p)) r = (
    conj_column-law u.r0.c0 u.r1.c0 u.r2.c0 u.r3.c0 a e i m r.0.0 r.1.0 r.2.0 r.3.0,
    conj_column-law u.r0.c1 u.r1.c1 u.r2.c1 u.r3.c1 b f j n r.0.1 r.1.1 r.2.1 r.3.1,
    conj_column-law u.r0.c2 u.r1.c2 u.r2.c2 u.r3.c2 c g k o r.0.2 r.1.2 r.2.2 r.3.2,
    conj_column-law u.r0.c3 u.r1.c3 u.r2.c3 u.r3.c3 d h l p r.0.3 r.1.3 r.2.3 r.3.3,
  )

pub turned-law : {C : Type 0} (R : Complex → C → Type 0) (u : Mat4) (m : Four (Four C)) → Mat4Of R u m → Mat4Of R (mat4_swap_qubits_of u) (turned m)
unfolding mat4_swap_qubits_of
turned-law R u (four (four a b c d) (four e f g h) (four i j k l) (four m n o p)) r = (
  (r.0.0, r.0.2, r.0.1, r.0.3),
  (r.2.0, r.2.2, r.2.1, r.2.3),
  (r.1.0, r.1.2, r.1.1, r.1.3),
  (r.3.0, r.3.2, r.3.1, r.3.3),
)
