-- The rotation that a wire with a phase gets: none for the phase 1, and else a signed permutation that keeps the covariance of a basis state.
-- Assumes nothing.
use mathlib.Core.Path.{◌≡◌, refl, ap, ◌∙◌, subst}
use mathlib.Core.Bool.{Bool, true, false, not, cond, ◌&&◌}
use Prim.Native.Nat.{ℕ, zero, suc, ◌+◌, ◌<◌}
use lib.Dec.{T, ltb, ltb→lt}
use lib.IntN.{ℤ, pos, neg_ℤ}
use lib.Signed.{lt_z}
use lib.Ieee.Fits.{and_l, and_r}
use Rattle.laws.specs.Dyadic.{Dy, eq_z}
use Rattle.laws.specs.Matrix.{Mat}
use Rattle.laws.specs.Maps.{Local, rows, cols}
use Rattle.laws.specs.Phase.{Phase, i0, i1, i2, i3, real_z, imag_z}
use Rattle.laws.proofs.Dyadic.{neg-dy}
use Rattle.laws.proofs.DyadicOrder.{lt-dy, eq-dy}
use Rattle.laws.proofs.Phases.{every_phase, at-phase, eq_phase}
use Rattle.real.specs.Maps.{entry2, local2}
use Rattle.gate.specs.Complex.{f0}
use Rattle.gate.specs.declared.complex.Complex.{Complex}
use Rattle.classify.specs.Diagonal.{unit_of, turns_of, rotation_map_of, rotation_of}
use Rattle.std.specs.Prelude.{Some, None}
use Rattle.monomial.specs.Monomial.{unit, IsEntry}
use Rattle.monomial.specs.Basis.{basis, Block, Signed, unit_at, row_z, Permutes, permuted}
use Rattle.monomial.proofs.Known.{eq_z→}
use Rattle.monomial.proofs.Complexes.{zero_is}
use Rattle.monomial.proofs.Entries.{by-phase}
use Rattle.monomial.proofs.Tests.{every_bit, every_place, at-bit, at_place, at_each}
use Rattle.monomial.proofs.Permutations.{distinct, carries, distinct-is, carries-is}
use Rattle.monomial.proofs.Moves.{basis-small, moved}
use Rattle.monomial.proofs.Diagonals.{unit-is}

-- ---- the map by its values

-- [[re, -im], [im, re]]
abbrev pub turn_z : Phase → ℕ → ℕ → ℤ
turn_z k zero zero = real_z k
turn_z k zero (suc j) = neg_ℤ (imag_z k)
turn_z k (suc i) zero = imag_z k
turn_z k (suc i) (suc j) = real_z k

abbrev pub turn_perm : Phase → ℕ → Signed
turn_perm i0 zero = unit_at false 0
turn_perm i0 (suc i) = unit_at false 1
turn_perm i1 zero = unit_at true 1
turn_perm i1 (suc i) = unit_at false 0
turn_perm i2 zero = unit_at true 0
turn_perm i2 (suc i) = unit_at true 1
turn_perm i3 zero = unit_at false 1
turn_perm i3 (suc i) = unit_at true 0

abbrev pub rows_are : Phase → Bool
rows_are k = every_place 2 (λ i. every_place 2 (λ j. eq_z (turn_z k i j) (row_z (turn_perm k i) j)))

abbrev in_range : Phase → Bool
in_range k = every_place 2 (λ i. ltb (turn_perm k i).at 2)

abbrev pub keeps_bits : Phase → Bool
keeps_bits k = every_bit (λ x. carries 2 (turn_perm k) (basis (λ n. x)) (basis (λ n. x)))

all-turns : T (every_phase (λ k. (rows_are k && in_range k) && (distinct 2 (turn_perm k) && keeps_bits k)))
all-turns = tt

module _ (k : Phase) where
  tests : T ((rows_are k && in_range k) && (distinct 2 (turn_perm k) && keeps_bits k))
  tests = at-phase (λ k. (rows_are k && in_range k) && (distinct 2 (turn_perm k) && keeps_bits k)) all-turns k

  left : T (rows_are k && in_range k)
  left = and_l (rows_are k && in_range k) (distinct 2 (turn_perm k) && keeps_bits k) tests

  right : T (distinct 2 (turn_perm k) && keeps_bits k)
  right = and_r (rows_are k && in_range k) (distinct 2 (turn_perm k) && keeps_bits k) tests

  row_is : (i j : ℕ) → i < 2 → j < 2 → turn_z k i j ≡ row_z (turn_perm k i) j
  row_is i j h g =
      eq_z→ (turn_z k i j) (row_z (turn_perm k i) j)
      (at_place 2 (λ j. eq_z (turn_z k i j) (row_z (turn_perm k i) j))
      (at_place 2 (λ i. every_place 2 (λ j. eq_z (turn_z k i j) (row_z (turn_perm k i) j))) (and_l (rows_are k) (in_range k) left) i h) j g)

  pub turn-keeps : (x : Bool) (i j : ℕ) → i < 2 → j < 2 → permuted (turn_perm k) (basis (λ n. x)) i j ≡ basis (λ n. x) i j
  turn-keeps x =
      carries-is 2 (turn_perm k) (basis (λ n. x)) (basis (λ n. x))
      (at-bit (λ x. carries 2 (turn_perm k) (basis (λ n. x)) (basis (λ n. x))) (and_r (distinct 2 (turn_perm k)) (keeps_bits k) right) x)

-- ---- the rotation of a phase

module _ (p : Complex) (k : Phase) (P : IsEntry p (unit k)) where
  pub turns-is : turns_of (unit_of p) ≡ not (eq_phase k i0)
  unfolding turns_of
  turns-is =
      (λ t. not (eq-dy 0 (imag_z k) (pos 0) (unit_of p).im f0 (unit-is p k P).1 zero_is t
      && lt-dy 0 (pos 0) (real_z k) f0 (unit_of p).re zero_is (unit-is p k P).0 t))
      ∙ by-phase (λ k. not (eq_z (imag_z k) (pos 0) && lt_z (pos 0) (real_z k)) ≡ not (eq_phase k i0)) refl refl refl refl k

  pub rotation-is : rotation_of p ≡ cond (not (eq_phase k i0)) (Some (rotation_map_of (unit_of p))) None
  unfolding rotation_of
  rotation-is = ap (λ (b : Bool). cond b (Some (rotation_map_of (unit_of p))) None) turns-is

  pub rotation-permutes : Permutes 2 (turn_perm k) (entry2 (rotation_map_of (unit_of p)))
  unfolding rotation_map_of
  rotation-permutes = record {
    rows = λ i j h g.
        subst (λ (z : ℤ). Dy 0 z (entry2 (rotation_map_of (unit_of p)) i j)) (row_is k i j h g) (at_each 2 Row (row-0, (row-1, tt)) i h j g);
    within = λ i h. ltb→lt (turn_perm k i).at 2 (at_place 2 (λ i. ltb (turn_perm k i).at 2) (and_r (rows_are k) (in_range k) (left k)) i h);
    distinct = distinct-is 2 (turn_perm k) (and_l (distinct 2 (turn_perm k)) (keeps_bits k) (right k));
  }
    where
      Row : ℕ → Type 0
      Row i = (j : ℕ) → j < 2 → Dy 0 (turn_z k i j) (entry2 (rotation_map_of (unit_of p)) i j)

      row-0 : Row 0
      row-0 =
          at_each 2 (λ j. Dy 0 (turn_z k 0 j) (entry2 (rotation_map_of (unit_of p)) 0 j))
          ((unit-is p k P).0, (neg-dy 0 (imag_z k) (unit_of p).im (unit-is p k P).1, tt))

      row-1 : Row 1
      row-1 = at_each 2 (λ j. Dy 0 (turn_z k 1 j) (entry2 (rotation_map_of (unit_of p)) 1 j)) ((unit-is p k P).1, ((unit-is p k P).0, tt))

  -- the rotation on one mode from the index s on
  abbrev pub turn_at : ℕ → Local
  turn_at s = local2 s (rotation_map_of (unit_of p))

  pub rotation-keeps : (s : ℕ) (m : Mat) (x : Bool) → Block s 2 (basis (λ n. x)) m → Block s 2 (basis (λ n. x)) (cols (turn_at s) (rows (turn_at s) m))
  rotation-keeps s m x M i j h g =
      subst (λ (z : ℤ). Dy 0 z (cols (turn_at s) (rows (turn_at s) m) (s + i) (s + j))) (turn-keeps k x i j h g)
      (moved (turn_at s) (turn_perm k) rotation-permutes (basis (λ n. x)) m (basis-small (λ n. x)) M i j h g)
