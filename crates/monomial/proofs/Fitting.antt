-- The Majorana map of a float matrix with the values of a monomial block, whatever the signs of its zeros. Where the block fits, the residual is
-- exactly 0 and the map is a signed permutation under which the covariance of basis states moves as the bits do; where it does not, the residual is
-- exactly 1. Assumes nothing.
use mathlib.Core.Path.{◌≡◌, subst}
use mathlib.Core.Bool.{Bool, true, false, ◌&&◌}
use Prim.Native.Nat.{ℕ, ◌+◌, ◌<◌}
use lib.Dec.{T}
use lib.IntN.{ℤ, pos}
use lib.Ieee.{binary64}
use lib.Ieee.Fits.{and_l, and_r, div-fits}
use Rattle.laws.specs.Dyadic.{Dy}
use Rattle.laws.specs.Matrix.{Mat}
use Rattle.laws.specs.Maps.{Local, rows, cols}
use Rattle.real.specs.Maps.{row4, entry4, local4}
use Rattle.gate.specs.Complex.{f0, f1}
use Rattle.gate.specs.declared.matrix.Mat4.{Mat4}
use Rattle.majorana.specs.Majorana.{f4, majorana0, majorana1, majorana2, majorana3, image4_of, coefficients4_of, square4_of, rest4_of, distance4_of, map_row4_of, map_distance4_of, majorana_map2_of}
use Rattle.monomial.specs.Groups.{Four, Mat4Of}
use Rattle.monomial.specs.Monomial.{Entry, IsEntry, Mono4, entries_of, Has4, bit_a, bit_b, IsMatchgate, SwappedMatchgate}
use Rattle.monomial.specs.Basis.{basis, bits, Block, Signed, row_z, Permutes, permuted}
use Rattle.monomial.proofs.Tests.{every_bit, at-bit, at_each}
use Rattle.monomial.proofs.Operators.{operator, image4, image4-law, has-majorana0, has-majorana1, has-majorana2, has-majorana3}
use Rattle.monomial.proofs.Images.{signed4, row-near4, distance-near4, distance-far4}
use Rattle.monomial.proofs.Blocks.{images, read_all, nth, is_operator, are_operators, moves, fits_all, fails-all, each-operator, operator-is}
use Rattle.monomial.proofs.Permutations.{distinct, distinct-is, carries-is}
use Rattle.monomial.proofs.Moves.{basis-small, moved}
use Rattle.monomial.proofs.Roots.{One, largest-zero, largest-one}

-- ---- one operator

-- the image of the operator c under u is an operator that was read: a row of the map and its distance
module _ (c u : Mat4) (p v : Four (Four Entry)) (C : Mat4Of IsEntry c p) (U : Mat4Of IsEntry u v) (e : Signed) where
  is-image : (others : Bool) → T (is_operator others (image4 p v) e) → Mat4Of IsEntry (image4_of c u) (signed4 e.minus (operator others e.at))
  is-image others t = subst (Mat4Of IsEntry (image4_of c u)) (operator-is others (image4 p v) e t).1 (image4-law c u p v C U)

  near-row : T (is_operator false (image4 p v) e) → (j : ℕ) → j < 4 → Dy 0 (row_z e j) (row4 (map_row4_of c u) j)
  unfolding map_row4_of
  near-row t = row-near4 (image4_of c u) e.minus e.at (operator-is false (image4 p v) e t).0 (is-image false t)

  near-distance : T (is_operator false (image4 p v) e) → Dy 0 (pos 0) (map_distance4_of c u)
  unfolding map_distance4_of map_row4_of
  near-distance t = distance-near4 (image4_of c u) e.minus e.at (operator-is false (image4 p v) e t).0 (is-image false t)

  far-distance : T (is_operator true (image4 p v) e) → One (map_distance4_of c u)
  unfolding map_distance4_of map_row4_of distance4_of
  far-distance t = (
    div-fits binary64 (square4_of (rest4_of (image4_of c u) (coefficients4_of (image4_of c u)))) f4,
    distance-far4 (image4_of c u) e.minus e.at (operator-is true (image4 p v) e t).0 (is-image true t),
  )

-- ---- a block

abbrev images_of : Mono4 → Four (Four (Four Entry))
images_of b = images (entries_of b)

abbrev read_of : Mono4 → Four Signed
read_of b = read_all b.swap (images_of b)

-- the signed permutation of a block that fits
unfoldable pub perm_of : Mono4 → ℕ → Signed
perm_of b = nth (read_of b)

-- the covariance of all bits moves as they do
abbrev moves_all : Mono4 → Bool
moves_all b = every_bit (λ x. every_bit (λ y. moves b.swap b.turn_a b.turn_b (nth (read_of b)) x y))

module _ (b : Mono4) (F : IsMatchgate b) where
  passed : T ((are_operators false (images_of b) (read_of b) && distinct 4 (nth (read_of b))) && moves_all b)
  passed = fits_all b.swap b.turn_a b.turn_b b.phases F

  operators : T (are_operators false (images_of b) (read_of b))
  operators =
      and_l (are_operators false (images_of b) (read_of b)) (distinct 4 (nth (read_of b)))
      (and_l (are_operators false (images_of b) (read_of b) && distinct 4 (nth (read_of b))) (moves_all b) passed)

  distinct-rows : T (distinct 4 (nth (read_of b)))
  distinct-rows =
      and_r (are_operators false (images_of b) (read_of b)) (distinct 4 (nth (read_of b)))
      (and_l (are_operators false (images_of b) (read_of b) && distinct 4 (nth (read_of b))) (moves_all b) passed)

  -- the covariance of basis states under the permutation
  pub perm-moves : (x y : Bool) (i j : ℕ) → i < 4 → j < 4 → permuted (perm_of b) (basis (bits x y)) i j ≡ basis (bits (bit_a b x y) (bit_b b x y)) i j
  unfolding perm_of
  perm-moves x y =
      carries-is 4 (nth (read_of b)) (basis (bits x y)) (basis (bits (bit_a b x y) (bit_b b x y)))
      (at-bit (λ y. moves b.swap b.turn_a b.turn_b (nth (read_of b)) x y)
      (at-bit (λ x. every_bit (λ y. moves b.swap b.turn_a b.turn_b (nth (read_of b)) x y))
      (and_r (are_operators false (images_of b) (read_of b) && distinct 4 (nth (read_of b))) (moves_all b) passed) x) y)

-- ---- a float matrix with the values of a block

module _ (u : Mat4) (b : Mono4) (U : Has4 u b) where
  -- "the residual is exactly 0"
  pub residual-fits : IsMatchgate b → (majorana_map2_of u).residual ≡ f0
  unfolding majorana_map2_of
  residual-fits F =
      let t = each-operator false (images_of b) (read_of b) (operators b F) in
      let d0 = near-distance majorana0 u (operator false 0) (entries_of b) has-majorana0 U (nth (read_of b) 0) t.0 in
      let d1 = near-distance majorana1 u (operator false 1) (entries_of b) has-majorana1 U (nth (read_of b) 1) t.1 in
      let d2 = near-distance majorana2 u (operator false 2) (entries_of b) has-majorana2 U (nth (read_of b) 2) t.2 in
      let d3 = near-distance majorana3 u (operator false 3) (entries_of b) has-majorana3 U (nth (read_of b) 3) t.3 in
      largest-zero _ (d0, (d1, (d2, (d3, tt))))

  -- "residual exactly 1.0"
  pub residual-unfit : SwappedMatchgate b → (majorana_map2_of u).residual ≡ f1
  unfolding majorana_map2_of
  residual-unfit F =
      let t = each-operator true (images_of b) (read_of b) (fails-all b.swap b.turn_a b.turn_b b.phases F) in
      let d0 = far-distance majorana0 u (operator false 0) (entries_of b) has-majorana0 U (nth (read_of b) 0) t.0 in
      let d1 = far-distance majorana1 u (operator false 1) (entries_of b) has-majorana1 U (nth (read_of b) 1) t.1 in
      let d2 = far-distance majorana2 u (operator false 2) (entries_of b) has-majorana2 U (nth (read_of b) 2) t.2 in
      let d3 = far-distance majorana3 u (operator false 3) (entries_of b) has-majorana3 U (nth (read_of b) 3) t.3 in
      largest-one _ _ d0 (d1, (d2, (d3, tt)))

  -- "its map is a signed permutation"
  pub permutation : IsMatchgate b → Permutes 4 (perm_of b) (entry4 (majorana_map2_of u).q)
  unfolding majorana_map2_of perm_of
  permutation F =
      let t = each-operator false (images_of b) (read_of b) (operators b F) in
      let d0 = near-row majorana0 u (operator false 0) (entries_of b) has-majorana0 U (nth (read_of b) 0) t.0 in
      let d1 = near-row majorana1 u (operator false 1) (entries_of b) has-majorana1 U (nth (read_of b) 1) t.1 in
      let d2 = near-row majorana2 u (operator false 2) (entries_of b) has-majorana2 U (nth (read_of b) 2) t.2 in
      let d3 = near-row majorana3 u (operator false 3) (entries_of b) has-majorana3 U (nth (read_of b) 3) t.3 in
      record {
        rows = λ i j h k. at_each 4 Row (d0, (d1, (d2, (d3, tt)))) i h j k;
        within =
            at_each 4 (λ i. (nth (read_of b) i).at < 4)
            (in-range 0 t.0, (in-range 1 t.1, (in-range 2 t.2, (in-range 3 t.3, tt))));
        distinct = distinct-is 4 (nth (read_of b)) (distinct-rows b F);
      }
    where
      Row : ℕ → Type 0
      Row i = (j : ℕ) → j < 4 → Dy 0 (row_z (nth (read_of b) i) j) (entry4 (majorana_map2_of u).q i j)

      in-range : (i : ℕ) → T (is_operator false (nth (images_of b) i) (nth (read_of b) i)) → (nth (read_of b) i).at < 4
      in-range i t = (operator-is false (nth (images_of b) i) (nth (read_of b) i) t).0

  -- the map on two modes from the index s on
  abbrev pub map_at : ℕ → Local
  map_at s = local4 s (majorana_map2_of u).q

  -- the covariance of the bits x y becomes that of the bits after
  pub moves-basis : IsMatchgate b → (s : ℕ) (m : Mat) (x y : Bool) → Block s 4 (basis (bits x y)) m
      → Block s 4 (basis (bits (bit_a b x y) (bit_b b x y))) (cols (map_at s) (rows (map_at s) m))
  moves-basis F s m x y M i j h k =
      subst (λ (z : ℤ). Dy 0 z (cols (map_at s) (rows (map_at s) m) (s + i) (s + j))) (perm-moves b F x y i j h k)
      (moved (map_at s) (perm_of b) (permutation F) (basis (bits x y)) m (basis-small (bits x y)) M i j h k)
