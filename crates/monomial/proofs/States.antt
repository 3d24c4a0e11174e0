-- Basis states under the maps of monomial blocks: if a whole matrix is the covariance of some bits, then after the map's rows and columns it is that
-- of the bits after. Modes outside the map keep theirs. Assumes nothing.
use mathlib.Core.Path.{◌≡◌, refl, sym, ap, ◌∙◌, subst}
use mathlib.Core.Logic.{◌⊎◌, inl, inr, ◌≢◌}
use mathlib.Core.Bool.{Bool, false, not, cond, ◌&&◌}
use Prim.Native.Nat.{ℕ, ◌+◌, ◌-◌, ◌*◌, ◌/◌, ◌%◌, ◌≤◌, ◌<◌}
use native.Mathlib.Nat.{add-zero}
use native.Mathlib.Omega.{arith}
use lib.Dec.{eqb, eqb→eq, not_T}
use lib.IntN.{ℤ, pos}
use lib.Ieee.Bits.{is_false}
use lib.Ieee.Fits.{and_l, and_r}
use borrow.Author.Tests.{eq-eqb, ne_eqb}
use Rattle.std.proofs.lemmas.Bool.Decides.{nat_tests}
use Rattle.laws.proofs.Tests.{no-pair}
use Rattle.laws.specs.Dyadic.{Dy, with_sign}
use Rattle.laws.specs.Matrix.{Mat}
use Rattle.laws.specs.Maps.{Local, inside, rows, cols}
use Rattle.laws.specs.Phase.{Phase}
use Rattle.std.proofs.lemmas.Bool.{cases_lt, cases_eq}
use Rattle.laws.proofs.Maps.{inside-below, inside-above, rows_out, cols-out}
use Rattle.real.specs.Maps.{entry2, entry4}
use Rattle.gate.specs.declared.complex.Complex.{Complex}
use Rattle.gate.specs.declared.matrix.Mat2.{Mat2}
use Rattle.gate.specs.declared.matrix.Mat4.{Mat4}
use Rattle.majorana.specs.Majorana.{majorana_map1_of, majorana_map2_of}
use Rattle.classify.specs.Diagonal.{unit_of, rotation_map_of}
use Rattle.monomial.specs.Monomial.{unit, IsEntry, flip, Mono2, Mono4, Has2, Has4, bit_a, bit_b, IsMatchgate}
use Rattle.monomial.specs.Basis.{basis, bits, Block, IsBasis, Signed, signed, Permutes, permuted}
use Rattle.monomial.proofs.Fitting.{perm_of, perm-moves, permutation}
use Rattle.monomial.proofs.Single.{perm_of2, perm-moves2, permutation2}
use Rattle.monomial.proofs.Rotations.{turn_perm, turn-keeps, rotation-permutes}
use Rattle.monomial.proofs.Tests.{at_each}
use Rattle.monomial.proofs.Moves.{basis-small, moved, rows-zero, cols-zero}

-- ---- the covariance of bits

-- only the bits of the row's mode and the column's are read
basis-same : (b b' : ℕ → Bool) (r c : ℕ) → b (r / 2) ≡ b' (r / 2) → b (c / 2) ≡ b' (c / 2) → basis b r c ≡ basis b' r c
basis-same b b' r c e f =
    λ t. cond (eqb (r % 2) 0 && eqb c (r + 1)) (with_sign (e t) 1) (cond (eqb (c % 2) 0 && eqb r (c + 1)) (with_sign (not (f t)) 1) (pos 0))

-- in different modes it is 0
pub basis-apart : (b : ℕ → Bool) (r c : ℕ) → r / 2 ≢ c / 2 → basis b r c ≡ pos 0
basis-apart b r c n =
    λ t. cond (no-pair r c (λ h k. n (omega arith)) t) (with_sign (b (r / 2)) 1)
    (cond (no-pair c r (λ h k. n (omega arith)) t) (with_sign (not (b (c / 2))) 1) (pos 0))

-- counted from the mode k on
basis-from : (b : ℕ → Bool) (k i j : ℕ) → basis b (2 * k + i) (2 * k + j) ≡ basis (λ n. b (k + n)) i j
basis-from b k i j =
    λ t. cond (eqb (parity k i t) 0 && next k i j t) (with_sign (b (mode k i t)) 1)
    (cond (eqb (parity k j t) 0 && next k j i t) (with_sign (not (b (mode k j t))) 1) (pos 0))
  where
    parity : (k i : ℕ) → (2 * k + i) % 2 ≡ i % 2
    parity k i = omega arith

    mode : (k i : ℕ) → (2 * k + i) / 2 ≡ k + i / 2
    mode k i = omega arith

    next : (k i j : ℕ) → eqb (2 * k + j) (2 * k + i + 1) ≡ eqb j (i + 1)
    next k i j = grind (arith, nat_tests)

-- ---- a map of w modes from the mode k on

abbrev pub modes_at : ℕ → ℕ → Mat → Local
modes_at k w q = record { start = 2 * k; width = 2 * w; map = q }

-- where an index lies
data Place (k w : ℕ) (q : Mat) : ℕ → Type 0 where
  within : (i : ℕ) → i < 2 * w → Place k w q (2 * k + i)
  beyond : {r : ℕ} → inside (modes_at k w q) r ≡ false → (r / 2 < k) ⊎ (k + w ≤ r / 2) → Place k w q r

place : (k w : ℕ) (q : Mat) (r : ℕ) → Place k w q r
place k w q r = by (cases_lt r (2 * k)) (cases_lt r (2 * k + 2 * w))
  where
    low : r < 2 * k → r / 2 < k
    low h = omega arith

    high : 2 * k + 2 * w ≤ r → k + w ≤ r / 2
    high h = omega arith

    back : 2 * k ≤ r → 2 * k + (r - 2 * k) ≡ r
    back h = omega arith

    by : (r < 2 * k) ⊎ (2 * k ≤ r) → (r < 2 * k + 2 * w) ⊎ (2 * k + 2 * w ≤ r) → Place k w q r
    by (inl h) g = beyond (inside-below (modes_at k w q) r h) (inl (low h))
    by (inr h) (inl g) = subst (Place k w q) (back h) (within (r - 2 * k) (omega arith))
    by (inr h) (inr g) = beyond (inside-above (modes_at k w q) r g) (inr (high g))

apart : (k w i r : ℕ) → i < 2 * w → (r / 2 < k) ⊎ (k + w ≤ r / 2) → (2 * k + i) / 2 ≢ r / 2
apart k w i r h (inl l) = λ e. below k i (r / 2) e l
  where
    below : (k i n : ℕ) → (2 * k + i) / 2 ≡ n → n < k → ⊥
    below k i n e l = omega arith
apart k w i r h (inr g) = λ e. above (r / 2) e g
  where
    above : (n : ℕ) → (2 * k + i) / 2 ≡ n → k + w ≤ n → ⊥
    above n e l = omega arith

module _ (k w dim : ℕ) (q : Mat) (p : ℕ → Signed) (P : Permutes (2 * w) p q) (b b' : ℕ → Bool)
    (others : (n : ℕ) → (n < k) ⊎ (k + w ≤ n) → b n ≡ b' n)
    (block : (i j : ℕ) → i < 2 * w → j < 2 * w → permuted p (basis (λ n. b (k + n))) i j ≡ basis (λ n. b' (k + n)) i j)
    (room : 2 * k + 2 * w ≤ dim) (m : Mat) (M : IsBasis dim b m) where
  abbrev o : Local
  o = modes_at k w q

  in-room : (i : ℕ) → i < 2 * w → 2 * k + i < dim
  in-room i h = omega arith

  -- the map's own part
  part : Block (2 * k) (2 * w) (basis (λ n. b (k + n))) m
  part i j h g = subst (λ (z : ℤ). Dy 0 z (m (2 * k + i) (2 * k + j))) (basis-from b k i j) (M (2 * k + i) (2 * k + j) (in-room i h) (in-room j g))

  -- zeros in the columns of other modes, and in their rows
  column-zero : (c : ℕ) → c < dim → (c / 2 < k) ⊎ (k + w ≤ c / 2) → (j : ℕ) → j < 2 * w → Dy 0 (pos 0) (m (2 * k + j) c)
  column-zero c g n j h =
      subst (λ (z : ℤ). Dy 0 z (m (2 * k + j) c)) (basis-apart b (2 * k + j) c (apart k w j c h n)) (M (2 * k + j) c (in-room j h) g)

  row_zero : (r : ℕ) → r < dim → (r / 2 < k) ⊎ (k + w ≤ r / 2) → (j : ℕ) → j < 2 * w → Dy 0 (pos 0) (m r (2 * k + j))
  row_zero r g n j h =
      subst (λ (z : ℤ). Dy 0 z (m r (2 * k + j))) (basis-apart b r (2 * k + j) (λ e. apart k w j r h n (sym e))) (M r (2 * k + j) g (in-room j h))

  pub state-moves : IsBasis dim b' (cols o (rows o m))
  state-moves r c h g = by (place k w q r) (place k w q c) h g
    where
      by : {r c : ℕ} → Place k w q r → Place k w q c → r < dim → c < dim → Dy 0 (basis b' r c) (cols o (rows o m) r c)
      by (within i x) (within j y) h g =
          subst (λ (z : ℤ). Dy 0 z (cols o (rows o m) (2 * k + i) (2 * k + j))) (block i j x y ∙ sym (basis-from b' k i j))
          (moved o p P (basis (λ n. b (k + n))) m (basis-small (λ n. b (k + n))) part i j x y)
      by (within i x) (beyond {r = c} e n) h g =
          subst (λ (z : ℤ). Dy 0 z (cols o (rows o m) (2 * k + i) c)) (sym (basis-apart b' (2 * k + i) c (apart k w i c x n)))
          (subst (Dy 0 (pos 0)) (sym (cols-out o (rows o m) (2 * k + i) c e))
          (rows-zero o p P m (2 * k + i) c (column-zero c g n) (column-zero c g n i x)))
      by (beyond {r = r} e n) (within j y) h g =
          let zero : (j : ℕ) → j < 2 * w → Dy 0 (pos 0) (rows o m r (2 * k + j))
          = λ j y. subst (Dy 0 (pos 0)) (sym (rows_out o m r (2 * k + j) e)) (row_zero r h n j y) in
          subst (λ (z : ℤ). Dy 0 z (cols o (rows o m) r (2 * k + j))) (sym (basis-apart b' r (2 * k + j) (λ d. apart k w j r y n (sym d))))
          (cols-zero o p P (rows o m) r (2 * k + j) zero (zero j y))
      by (beyond {r = r} e n) (beyond {r = c} f l) h g =
          subst (λ (z : ℤ). Dy 0 z (cols o (rows o m) r c)) (basis-same b b' r c (others (r / 2) n) (others (c / 2) l))
          (subst (Dy 0 (basis b r c)) (sym (cols-out o (rows o m) r c f ∙ rows_out o m r c e)) (M r c h g))

-- ---- the maps of blocks

-- the bits of the modes k and k + 1, and of k alone
two-bits : (b : ℕ → Bool) (k i : ℕ) → i < 4 → b (k + i / 2) ≡ bits (b k) (b (k + 1)) (i / 2)
two-bits b k i h = at_each 2 (λ n. b (k + n) ≡ bits (b k) (b (k + 1)) n) (ap b (add-zero k), (refl, tt)) (i / 2) (half i h)
  where
    half : (i : ℕ) → i < 4 → i / 2 < 2
    half i h = omega arith

one_bit : (b : ℕ → Bool) (k i : ℕ) → i < 2 → b (k + i / 2) ≡ b k
one_bit b k i h = ap b (same k i h)
  where
    same : (k i : ℕ) → i < 2 → k + i / 2 ≡ k
    same k i h = omega arith

-- what a permutation carries, by bits that are equal where it reads them
carried : (w : ℕ) (p : ℕ → Signed) → ((i : ℕ) → i < w → (p i).at < w) → (b c b' c' : ℕ → Bool)
    → ((i : ℕ) → i < w → b (i / 2) ≡ c (i / 2)) → ((i : ℕ) → i < w → b' (i / 2) ≡ c' (i / 2))
    → ((i j : ℕ) → i < w → j < w → permuted p (basis c) i j ≡ basis c' i j)
    → (i j : ℕ) → i < w → j < w → permuted p (basis b) i j ≡ basis b' i j
carried w p inside b c b' c' e e' f i j h g =
    ap (λ (z : ℤ). signed (p j).minus (signed (p i).minus z))
    (basis-same b c (p i).at (p j).at (e (p i).at (inside i h)) (e (p j).at (inside j g)))
    ∙ f i j h g
    ∙ sym (basis-same b' c' i j (e' i h) (e' j g))

module _ (k dim : ℕ) (b b' : ℕ → Bool) (m : Mat) (M : IsBasis dim b m) where
  -- a two-qubit block that fits, on the modes k and k + 1
  pub fits-state : (u : Mat4) (a : Mono4) (U : Has4 u a) → IsMatchgate a → 2 * k + 4 ≤ dim
      → b' k ≡ bit_a a (b k) (b (k + 1)) → b' (k + 1) ≡ bit_b a (b k) (b (k + 1)) → ((n : ℕ) → (n < k) ⊎ (k + 2 ≤ n) → b n ≡ b' n)
      → IsBasis dim b' (cols (modes_at k 2 (entry4 (majorana_map2_of u).q)) (rows (modes_at k 2 (entry4 (majorana_map2_of u).q)) m))
  fits-state u a U F room e_a e_b others =
      state-moves k 2 dim (entry4 (majorana_map2_of u).q) (perm_of a) P b b' others
      (carried 4 (perm_of a) P.within (λ n. b (k + n)) (bits x y) (λ n. b' (k + n)) (bits (bit_a a x y) (bit_b a x y))
      (two-bits b k)
      (λ i h. two-bits b' k i h ∙ (λ t. bits (e_a t) (e_b t) (i / 2)))
      (perm-moves a F x y))
      room m M
    where
      x : Bool
      x = b k

      y : Bool
      y = b (k + 1)

      P : Permutes 4 (perm_of a) (entry4 (majorana_map2_of u).q)
      P = permutation u a U F

  -- a one-qubit block on the mode k
  pub single-state : (u : Mat2) (a : Mono2) (U : Has2 u a) → 2 * k + 2 ≤ dim
      → b' k ≡ flip a.turn (b k) → ((n : ℕ) → (n < k) ⊎ (k + 1 ≤ n) → b n ≡ b' n)
      → IsBasis dim b' (cols (modes_at k 1 (entry2 (majorana_map1_of u).q)) (rows (modes_at k 1 (entry2 (majorana_map1_of u).q)) m))
  single-state u a U room e others =
      state-moves k 1 dim (entry2 (majorana_map1_of u).q) (perm_of2 a) P b b' others
      (carried 2 (perm_of2 a) P.within (λ n. b (k + n)) (λ n. b k) (λ n. b' (k + n)) (λ n. flip a.turn (b k))
      (one_bit b k)
      (λ i h. one_bit b' k i h ∙ e)
      (perm-moves2 a (b k)))
      room m M
    where
      P : Permutes 2 (perm_of2 a) (entry2 (majorana_map1_of u).q)
      P = permutation2 u a U

  -- the rotation of a phase on the mode k
  pub rotation-state : (z : Complex) (l : Phase) (Z : IsEntry z (unit l)) → 2 * k + 2 ≤ dim
      → IsBasis dim b (cols (modes_at k 1 (entry2 (rotation_map_of (unit_of z)))) (rows (modes_at k 1 (entry2 (rotation_map_of (unit_of z)))) m))
  rotation-state z l Z room =
      state-moves k 1 dim (entry2 (rotation_map_of (unit_of z))) (turn_perm l) P b b (λ n h. refl)
      (carried 2 (turn_perm l) P.within (λ n. b (k + n)) (λ n. b k) (λ n. b (k + n)) (λ n. b k)
      (one_bit b k)
      (one_bit b k)
      (turn-keeps l (b k)))
      room m M
    where
      P : Permutes 2 (turn_perm l) (entry2 (rotation_map_of (unit_of z)))
      P = rotation-permutes z l Z
