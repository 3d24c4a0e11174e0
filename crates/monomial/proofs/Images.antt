-- What the Majorana map makes of an image that is one of the operators up to sign: of a Majorana operator a row with one entry and the distance 0,
-- of one of the other four the distance 1. Found by computing with known numbers. Assumes nothing.
use mathlib.Core.Bool.{Bool, true, false, ◌&&◌}
use Prim.Native.Nat.{ℕ, zero, suc, ◌<◌}
use lib.Dec.{T}
use lib.IntN.{ℤ, pos}
use lib.Ieee.Fits.{and_l, and_r}
use Rattle.laws.specs.Dyadic.{Dy}
use Rattle.laws.specs.Phase.{i2}
use Rattle.real.specs.Maps.{row2, row4}
use Rattle.real.specs.declared.maps.Real2.{Real2}
use Rattle.real.specs.declared.maps.Real4.{Real4}
use Rattle.gate.specs.declared.matrix.Mat2.{Mat2}
use Rattle.gate.specs.declared.matrix.Mat4.{Mat4}
use Rattle.majorana.specs.Majorana.{coefficients2_of, distance2_of, coefficients4_of, distance4_of}
use Rattle.monomial.specs.Groups.{Two, two, Four, four, Mat2Of, Mat4Of}
use Rattle.monomial.specs.Monomial.{Entry, unit, IsEntry}
use Rattle.monomial.specs.Basis.{Signed, unit_at, row_z}
use Rattle.monomial.proofs.Known.{Known, is, is_known}
use Rattle.monomial.proofs.Complexes.{IsComplex}
use Rattle.monomial.proofs.Entries.{times}
use Rattle.monomial.proofs.Tests.{every_bit, every_place, at-bit, at_place, both-pairs, at_each}
use Rattle.monomial.proofs.Operators.{entries_x, entries_y, operator, values2, values4, to-values2, to-values4, map_row2, distance2, Reals2Of, map_row2-law, distance2-law, map_row4, distance4, Reals4Of, map_row4-law, distance4-law}

-- ---- an operator with its sign

abbrev signed_entry : Bool → Entry → Entry
signed_entry false e = e
signed_entry true e = times (unit i2) e

abbrev pub signed2 : Bool → Two (Two Entry) → Two (Two Entry)
signed2 m (two (two a b) (two c d)) = two (two (signed_entry m a) (signed_entry m b)) (two (signed_entry m c) (signed_entry m d))

abbrev signed_row : Bool → Four Entry → Four Entry
signed_row m (four a b c d) = four (signed_entry m a) (signed_entry m b) (signed_entry m c) (signed_entry m d)

abbrev pub signed4 : Bool → Four (Four Entry) → Four (Four Entry)
signed4 m (four a b c d) = four (signed_row m a) (signed_row m b) (signed_row m c) (signed_row m d)

-- X and Y by their places
abbrev pub pauli : ℕ → Two (Two Entry)
pauli zero = entries_x
pauli (suc i) = entries_y

-- ---- one mode

abbrev pub row_is2 : Two Known → Signed → Bool
row_is2 (two a b) e = is a (row_z e 0) && is b (row_z e 1)

abbrev pub near2 : Bool → ℕ → Bool
near2 m i =
    let w = values2 (signed2 m (pauli i)) in
    let r = map_row2 w in
    row_is2 r (unit_at m i) && is (distance2 w r) (pos 0)

all-near2 : T (every_bit (λ m. every_place 2 (near2 m)))
all-near2 = tt

-- w is X or Y up to sign
module _ (w : Mat2) (m : Bool) (i : ℕ) (small : i < 2) (h : Mat2Of IsEntry w (signed2 m (pauli i))) where
  known2 : Mat2Of IsComplex w (values2 (signed2 m (pauli i)))
  known2 = to-values2 w (signed2 m (pauli i)) h

  passed2 : T (near2 m i)
  passed2 = at_place 2 (near2 m) (at-bit (λ m. every_place 2 (near2 m)) all-near2 m) i small

  pub row-near2 : (j : ℕ) → j < 2 → Dy 0 (row_z (unit_at m i) j) (row2 (coefficients2_of w) j)
  row-near2 =
      let v = values2 (signed2 m (pauli i)) in
      each (coefficients2_of w) (map_row2 v) (map_row2-law w v known2)
      (and_l (row_is2 (map_row2 v) (unit_at m i)) (is (distance2 v (map_row2 v)) (pos 0)) passed2)
    where
      z : ℕ → ℤ
      z = row_z (unit_at m i)

      each : (q : Real2) (r : Two Known) → Reals2Of q r → T (row_is2 r (unit_at m i)) → (j : ℕ) → j < 2 → Dy 0 (row_z (unit_at m i) j) (row2 q j)
      each q (two a b) k t =
          at_each 2 (λ j. Dy 0 (row_z (unit_at m i) j) (row2 q j)) (
            is_known q.x0 a (z 0) k.0 (and_l (is a (z 0)) (is b (z 1)) t),
            (is_known q.x1 b (z 1) k.1 (and_r (is a (z 0)) (is b (z 1)) t), tt),
          )

  pub distance-near2 : Dy 0 (pos 0) (distance2_of w (coefficients2_of w))
  distance-near2 =
      let v = values2 (signed2 m (pauli i)) in
      is_known (distance2_of w (coefficients2_of w)) (distance2 v (map_row2 v)) (pos 0)
      (distance2-law w (coefficients2_of w) v (map_row2 v) known2 (map_row2-law w v known2))
      (and_r (row_is2 (map_row2 v) (unit_at m i)) (is (distance2 v (map_row2 v)) (pos 0)) passed2)

-- ---- two modes

abbrev pub row_is4 : Four Known → Signed → Bool
row_is4 (four a b c d) e = (is a (row_z e 0) && is b (row_z e 1)) && (is c (row_z e 2) && is d (row_z e 3))

abbrev pub near4 : Bool → ℕ → Bool
near4 m i =
    let w = values4 (signed4 m (operator false i)) in
    let r = map_row4 w in
    row_is4 r (unit_at m i) && is (distance4 w r) (pos 0)

abbrev pub far4 : Bool → ℕ → Bool
far4 m i =
    let w = values4 (signed4 m (operator true i)) in
    is (distance4 w (map_row4 w)) (pos 1)

all-near4 : T (every_bit (λ m. every_place 4 (near4 m)))
all-near4 = tt

all-far4 : T (every_bit (λ m. every_place 4 (far4 m)))
all-far4 = tt

-- w is a Majorana operator up to sign
module _ (w : Mat4) (m : Bool) (i : ℕ) (small : i < 4) (h : Mat4Of IsEntry w (signed4 m (operator false i))) where
  known4 : Mat4Of IsComplex w (values4 (signed4 m (operator false i)))
  known4 = to-values4 w (signed4 m (operator false i)) h

  passed4 : T (near4 m i)
  passed4 = at_place 4 (near4 m) (at-bit (λ m. every_place 4 (near4 m)) all-near4 m) i small

  pub row-near4 : (j : ℕ) → j < 4 → Dy 0 (row_z (unit_at m i) j) (row4 (coefficients4_of w) j)
  row-near4 =
      let v = values4 (signed4 m (operator false i)) in
      each (coefficients4_of w) (map_row4 v) (map_row4-law w v known4)
      (and_l (row_is4 (map_row4 v) (unit_at m i)) (is (distance4 v (map_row4 v)) (pos 0)) passed4)
    where
      z : ℕ → ℤ
      z = row_z (unit_at m i)

      each : (q : Real4) (r : Four Known) → Reals4Of q r → T (row_is4 r (unit_at m i)) → (j : ℕ) → j < 4 → Dy 0 (row_z (unit_at m i) j) (row4 q j)
      each q (four a b c d) k t =
          let p = both-pairs (is a (z 0)) (is b (z 1)) (is c (z 2)) (is d (z 3)) t in
          let d0 = is_known q.x0 a (z 0) k.0 p.0 in
          let d1 = is_known q.x1 b (z 1) k.1 p.1 in
          let d2 = is_known q.x2 c (z 2) k.2 p.2 in
          let d3 = is_known q.x3 d (z 3) k.3 p.3 in
          at_each 4 (λ j. Dy 0 (row_z (unit_at m i) j) (row4 q j)) (d0, (d1, (d2, (d3, tt))))

  pub distance-near4 : Dy 0 (pos 0) (distance4_of w (coefficients4_of w))
  distance-near4 =
      let v = values4 (signed4 m (operator false i)) in
      is_known (distance4_of w (coefficients4_of w)) (distance4 v (map_row4 v)) (pos 0)
      (distance4-law w (coefficients4_of w) v (map_row4 v) known4 (map_row4-law w v known4))
      (and_r (row_is4 (map_row4 v) (unit_at m i)) (is (distance4 v (map_row4 v)) (pos 0)) passed4)

-- w is one of the others up to sign
pub distance-far4 : (w : Mat4) (m : Bool) (i : ℕ) → i < 4 → Mat4Of IsEntry w (signed4 m (operator true i))
    → Dy 0 (pos 1) (distance4_of w (coefficients4_of w))
distance-far4 w m i small h =
    let e = signed4 m (operator true i) in
    let v = values4 e in
    is_known (distance4_of w (coefficients4_of w)) (distance4 v (map_row4 v)) (pos 1)
    (distance4-law w (coefficients4_of w) v (map_row4 v) (to-values4 w e h) (map_row4-law w v (to-values4 w e h)))
    (at_place 4 (far4 m) (at-bit (λ m. every_place 4 (far4 m)) all-far4 m) i small)
