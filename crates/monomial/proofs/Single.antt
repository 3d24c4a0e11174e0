-- The Majorana map of a float matrix with the values of a one-qubit block, whatever the signs of its zeros: all 32 blocks have the residual exactly
-- 0, and a signed permutation for a map, under which the covariance of a basis state moves as the bit does. Assumes nothing.
use mathlib.Core.Path.{◌≡◌, subst}
use mathlib.Core.Bool.{Bool, false, ◌&&◌}
use Prim.Native.Nat.{ℕ, zero, suc, ◌+◌, ◌<◌}
use lib.Dec.{T, ltb, ltb→lt}
use lib.IntN.{ℤ, pos}
use lib.Ieee.Fits.{and_l, and_r}
use Rattle.laws.specs.Dyadic.{Dy}
use Rattle.laws.specs.Matrix.{Mat}
use Rattle.laws.specs.Maps.{Local, rows, cols}
use Rattle.laws.specs.Phase.{Phase}
use Rattle.laws.proofs.Phases.{every_phase, at-phase}
use Rattle.real.specs.Maps.{row2, entry2, local2}
use Rattle.gate.specs.Complex.{f0}
use Rattle.gate.specs.declared.matrix.Mat2.{Mat2}
use Rattle.named.specs.Table.{gate_x, gate_y}
use Rattle.majorana.specs.Majorana.{image2_of, map_row2_of, map_distance2_of, majorana_map1_of}
use Rattle.monomial.specs.Groups.{Two, two, Mat2Of}
use Rattle.monomial.specs.Monomial.{Entry, IsEntry, flip, Mono2, entries2, Has2}
use Rattle.monomial.specs.Basis.{basis, Block, Signed, row_z, Permutes, permuted}
use Rattle.monomial.proofs.Tests.{every_bit, at-bit, both-pairs, at_each}
use Rattle.monomial.proofs.Operators.{entries_x, entries_y, has-X, has-Y, image2, image2-law}
use Rattle.monomial.proofs.Images.{signed2, pauli, row-near2, distance-near2}
use Rattle.monomial.proofs.Permutations.{distinct, carries, distinct-is, carries-is}
use Rattle.monomial.proofs.Blocks.{same, same→, phase_in, read_as}
use Rattle.monomial.proofs.Moves.{basis-small, moved}
use Rattle.monomial.proofs.Roots.{largest-zero}

-- ---- the test

abbrev pub same2 : Two (Two Entry) → Two (Two Entry) → Bool
same2 (two (two a b) (two c d)) (two (two e f) (two g h)) = (same a e && same b f) && (same c g && same d h)

-- the operator that has the phase of the first row
abbrev pub read_pauli : Two (Two Entry) → Signed
read_pauli (two (two a b) r) = read_as false (phase_in b)

abbrev pub is_pauli : Two (Two Entry) → Bool
is_pauli w = ltb (read_pauli w).at 2 && same2 w (signed2 (read_pauli w).minus (pauli (read_pauli w).at))

abbrev pub nth2 : {A : Type 0} → Two A → ℕ → A
nth2 (two a b) zero = a
nth2 (two a b) (suc i) = b

abbrev pub read_both : Two (Two Entry) → Two Signed
read_both u = two (read_pauli (image2 entries_x u)) (read_pauli (image2 entries_y u))

abbrev pub paulis : Two (Two Entry) → Bool
paulis u = is_pauli (image2 entries_x u) && is_pauli (image2 entries_y u)

-- the covariance of the bit x becomes that of the bit after
abbrev pub moves_bit : Bool → (ℕ → Signed) → Bool → Bool
moves_bit f p x = carries 2 p (basis (λ k. x)) (basis (λ k. flip f x))

abbrev pub single : Bool → Two Phase → Bool
single f k =
    let u = entries2 f k in
    let p = read_both u in
    (paulis u && distinct 2 (nth2 p)) && every_bit (moves_bit f (nth2 p))

all-single : T (every_bit (λ f. every_phase (λ k. every_phase (λ l. single f (two k l)))))
all-single = tt

single-at : (f : Bool) (k : Two Phase) → T (single f k)
single-at f (two k l) =
    at-phase (λ l. single f (two k l))
    (at-phase (λ k. every_phase (λ l. single f (two k l))) (at-bit (λ f. every_phase (λ k. every_phase (λ l. single f (two k l)))) all-single f) k) l

-- ---- one operator

same2→ : (v w : Two (Two Entry)) → T (same2 v w) → v ≡ w
same2→ (two (two a b) (two c d)) (two (two e f) (two g h)) t =
    let p = both-pairs (same a e) (same b f) (same c g) (same d h) t in
    λ i. two (two (same→ a e p.0 i) (same→ b f p.1 i)) (two (same→ c g p.2 i) (same→ d h p.3 i))

module _ (c u : Mat2) (p v : Two (Two Entry)) (C : Mat2Of IsEntry c p) (U : Mat2Of IsEntry u v) (t : T (is_pauli (image2 p v))) where
  abbrev e : Signed
  e = read_pauli (image2 p v)

  in-range : e.at < 2
  in-range = ltb→lt e.at 2 (and_l (ltb e.at 2) (same2 (image2 p v) (signed2 e.minus (pauli e.at))) t)

  is-image : Mat2Of IsEntry (image2_of c u) (signed2 e.minus (pauli e.at))
  is-image =
      let o = signed2 e.minus (pauli e.at) in
      subst (Mat2Of IsEntry (image2_of c u)) (same2→ (image2 p v) o (and_r (ltb e.at 2) (same2 (image2 p v) o) t)) (image2-law c u p v C U)

  near-row : (j : ℕ) → j < 2 → Dy 0 (row_z (read_pauli (image2 p v)) j) (row2 (map_row2_of c u) j)
  unfolding map_row2_of
  near-row = row-near2 (image2_of c u) e.minus e.at in-range is-image

  near-distance : Dy 0 (pos 0) (map_distance2_of c u)
  unfolding map_distance2_of map_row2_of
  near-distance = distance-near2 (image2_of c u) e.minus e.at in-range is-image

-- ---- a block

abbrev entries_of2 : Mono2 → Two (Two Entry)
entries_of2 b = entries2 b.turn b.phases

abbrev read_of2 : Mono2 → ℕ → Signed
read_of2 b = nth2 (read_both (entries_of2 b))

-- its signed permutation
unfoldable pub perm_of2 : Mono2 → ℕ → Signed
perm_of2 b = read_of2 b

module _ (b : Mono2) where
  abbrev first : Bool
  first = paulis (entries_of2 b)

  abbrev second : Bool
  second = distinct 2 (read_of2 b)

  abbrev third : Bool
  third = every_bit (moves_bit b.turn (read_of2 b))

  passed : T ((first && second) && third)
  passed = single-at b.turn b.phases

  tests : T (is_pauli (image2 entries_x (entries_of2 b)) && is_pauli (image2 entries_y (entries_of2 b)))
  tests = and_l first second (and_l (first && second) third passed)

  test-X : T (is_pauli (image2 entries_x (entries_of2 b)))
  test-X = and_l (is_pauli (image2 entries_x (entries_of2 b))) (is_pauli (image2 entries_y (entries_of2 b))) tests

  test-Y : T (is_pauli (image2 entries_y (entries_of2 b)))
  test-Y = and_r (is_pauli (image2 entries_x (entries_of2 b))) (is_pauli (image2 entries_y (entries_of2 b))) tests

  pub perm-moves2 : (x : Bool) (i j : ℕ) → i < 2 → j < 2 → permuted (perm_of2 b) (basis (λ k. x)) i j ≡ basis (λ k. flip b.turn x) i j
  unfolding perm_of2
  perm-moves2 x =
      carries-is 2 (read_of2 b) (basis (λ k. x)) (basis (λ k. flip b.turn x))
      (at-bit (moves_bit b.turn (read_of2 b)) (and_r (first && second) third passed) x)

-- ---- a float matrix with the values of a block

module _ (u : Mat2) (b : Mono2) (U : Has2 u b) where
  pub residual-single : (majorana_map1_of u).residual ≡ f0
  unfolding majorana_map1_of
  residual-single =
      largest-zero _ (
        near-distance gate_x u entries_x (entries_of2 b) has-X U (test-X b),
        (near-distance gate_y u entries_y (entries_of2 b) has-Y U (test-Y b), tt),
      )

  pub permutation2 : Permutes 2 (perm_of2 b) (entry2 (majorana_map1_of u).q)
  unfolding majorana_map1_of perm_of2
  permutation2 = record {
    rows = λ i j h k. at_each 2 Row (row-X, (row-Y, tt)) i h j k;
    within = at_each 2 (λ i. (read_of2 b i).at < 2) (in-X, (in-Y, tt));
    distinct = distinct-is 2 (read_of2 b) (and_r (first b) (second b) (and_l (first b && second b) (third b) (passed b)));
  }
    where
      Row : ℕ → Type 0
      Row i = (j : ℕ) → j < 2 → Dy 0 (row_z (read_of2 b i) j) (entry2 (majorana_map1_of u).q i j)

      row-X : Row 0
      row-X = near-row gate_x u entries_x (entries_of2 b) has-X U (test-X b)

      row-Y : Row 1
      row-Y = near-row gate_y u entries_y (entries_of2 b) has-Y U (test-Y b)

      in-X : (read_of2 b 0).at < 2
      in-X = in-range gate_x u entries_x (entries_of2 b) has-X U (test-X b)

      in-Y : (read_of2 b 1).at < 2
      in-Y = in-range gate_y u entries_y (entries_of2 b) has-Y U (test-Y b)

  -- the map on one mode from the index s on
  abbrev pub map_at2 : ℕ → Local
  map_at2 s = local2 s (majorana_map1_of u).q

  -- the covariance of the bit x becomes that of the bit after
  pub moves-basis2 : (s : ℕ) (m : Mat) (x : Bool) → Block s 2 (basis (λ k. x)) m
      → Block s 2 (basis (λ k. flip b.turn x)) (cols (map_at2 s) (rows (map_at2 s) m))
  moves-basis2 s m x M i j h k =
      subst (λ (z : ℤ). Dy 0 z (cols (map_at2 s) (rows (map_at2 s) m) (s + i) (s + j))) (perm-moves2 b x i j h k)
      (moved (map_at2 s) (perm_of2 b) permutation2 (basis (λ k. x)) m (basis-small (λ k. x)) M i j h k)
