-- A map whose rows have one entry, 1 or -1, on a matrix of floats, over its width and with the engine's sums: it permutes rows and columns with
-- their signs, and leaves zeros zeros, whatever the signs of zeros. Assumes nothing.
use mathlib.Core.Path.{◌≡◌, refl, sym, ap, ◌∙◌, subst}
use mathlib.Core.Logic.{◌⊎◌, inl, inr, ◌≢◌}
use mathlib.Core.Bool.{Bool, true, false, not, cond, ◌&&◌}
use Prim.Native.Nat.{ℕ, zero, suc, ◌+◌, ◌-◌, ◌*◌, ◌/◌, ◌%◌, ◌≤◌, ◌<◌}
use native.Mathlib.Nat.{one-mul, zero-mul, zero-add, add-zero, lt_irrefl}
use native.Mathlib.Omega.{arith}
use lib.Dec.{T, eqb, leb, ltb, leb→le, ltb→lt, lit<, lit≤}
use lib.IntN.{ℤ, pos, negsuc, neg_ℤ, nat_abs, ◌*ℤ◌, +ℤ_idl, +ℤ_idr, zero-*ℤ, pos-*ℤ-pos, pos-*ℤ-negsuc, negsuc-*ℤ-pos, negsuc-*ℤ-negsuc}
use lib.Ieee.{Float, binary64, add, mul}
use lib.Ieee.Fits.{and_l, and_r}
use borrow.Author.Tests.{eq-eqb, ne_eqb}
use Rattle.laws.specs.Dyadic.{Dy, cap, with_sign}
use Rattle.laws.specs.Matrix.{Mat}
use Rattle.laws.specs.Maps.{Local, inside, dot, under, rows, cols}
use Rattle.std.proofs.lemmas.Bool.{cases_eq}
use Rattle.laws.proofs.Integers.{abs_neg, one-small}
use Rattle.laws.proofs.Dyadic.{add-dy, mul-dy}
use Rattle.laws.proofs.Maps.{rows_in, cols-in}
use Rattle.monomial.specs.Basis.{basis, Block, Signed, signed, row_z, Permutes, permuted}

-- ---- whole numbers

abs-signed : (b : Bool) (z : ℤ) → nat_abs (signed b z) ≡ nat_abs z
abs-signed false z = refl
abs-signed true z = abs_neg z

one-times : (b : Bool) (z : ℤ) → signed b (pos 1) *ℤ z ≡ signed b z
one-times false (pos n) = pos-*ℤ-pos 1 n ∙ ap pos (one-mul n)
one-times false (negsuc n) = pos-*ℤ-negsuc 1 n ∙ ap (λ (k : ℕ). neg_ℤ (pos k)) (one-mul (suc n))
one-times true (pos n) = negsuc-*ℤ-pos 0 n ∙ ap (λ (k : ℕ). neg_ℤ (pos k)) (one-mul n)
one-times true (negsuc n) = negsuc-*ℤ-negsuc 0 n ∙ ap pos (one-mul (suc n))

-- the entries of a basis state's covariance are small
pub basis-small : (b : ℕ → Bool) (r c : ℕ) → nat_abs (basis b r c) < cap
basis-small b r c = either (eqb (r % 2) 0 && eqb c (r + 1)) (eqb (c % 2) 0 && eqb r (c + 1)) (b (r / 2)) (not (b (c / 2)))
  where
    either : (p q s t : Bool) → nat_abs (cond p (with_sign s 1) (cond q (with_sign t 1) (pos 0))) < cap
    either true q s t = one-small s
    either false true s t = one-small t
    either false false s t = lit< tt

-- ---- a row with one entry

module _ (q v : ℕ → Float) (e : Signed) (z : ℕ → ℤ) (n : ℕ) (small : (j : ℕ) → nat_abs (z j) < cap)
    (Q : (j : ℕ) → j < n → Dy 0 (row_z e j) (q j)) (X : (j : ℕ) → j < n → Dy 0 (z j) (v j)) where
  -- a term away from the entry is a zero
  away : (j : ℕ) → j < n → e.at ≢ j → Dy 0 (pos 0) (mul binary64 (q j) (v j))
  away j h k =
      subst (λ (w : ℤ). Dy 0 w (mul binary64 (q j) (v j))) (zero-*ℤ (z j))
      (mul-dy 0 0 (pos 0) (z j) (q j) (v j) (lit≤ tt) (subst (λ (a : ℕ). a < cap) (sym (zero-mul (nat_abs (z j)))) (lit< tt))
      (subst (λ (b : Bool). Dy 0 (cond b (signed e.minus (pos 1)) (pos 0)) (q j)) (ne_eqb e.at j k) (Q j h))
      (X j h))

  here : (j : ℕ) → j < n → e.at ≡ j → Dy 0 (signed e.minus (z j)) (mul binary64 (q j) (v j))
  here j h k =
      subst (λ (w : ℤ). Dy 0 w (mul binary64 (q j) (v j))) (one-times e.minus (z j))
      (mul-dy 0 0 (signed e.minus (pos 1)) (z j) (q j) (v j) (lit≤ tt)
      (subst (λ (a : ℕ). a * nat_abs (z j) < cap) (sym (abs-signed e.minus (pos 1)))
      (subst (λ (a : ℕ). a < cap) (sym (one-mul (nat_abs (z j)))) (small j)))
      (subst (λ (b : Bool). Dy 0 (cond b (signed e.minus (pos 1)) (pos 0)) (q j)) (eq-eqb e.at j k) (Q j h))
      (X j h))

  -- the sum before the entry, and after it
  before : (k : ℕ) → k ≤ n → k ≤ e.at → Dy 0 (pos 0) (dot q v k)
  unfolding dot
  before zero h g = (0, refl, refl)
  before (suc k) h g =
      add-dy 0 (pos 0) (pos 0) (dot q v k) (mul binary64 (q k) (v k)) (lit≤ tt) (lit< tt)
      (before k (omega arith) (omega arith))
      (away k h (λ e. lt_irrefl k (subst (λ (i : ℕ). k < i) e g)))

  after : (k : ℕ) → k ≤ n → e.at < k → Dy 0 (signed e.minus (z e.at)) (dot q v k)
  unfolding dot
  after zero h g = absurd (lt_irrefl 0 (omega arith))
  after (suc k) h g = by (λ l. after k (omega arith) l) (cases_eq e.at k)
    where
      x : ℤ
      x = signed e.minus (z e.at)

      fine : nat_abs x < cap
      fine = subst (λ (a : ℕ). a < cap) (sym (abs-signed e.minus (z e.at))) (small e.at)

      less : e.at ≢ k → e.at < k
      less i = omega arith

      by : (e.at < k → Dy 0 x (dot q v k)) → (e.at ≡ k) ⊎ (e.at ≢ k) → Dy 0 x (add binary64 (dot q v k) (mul binary64 (q k) (v k)))
      by f (inl i) =
          subst (λ (w : ℤ). Dy 0 w (add binary64 (dot q v k) (mul binary64 (q k) (v k)))) (+ℤ_idl x)
          (add-dy 0 (pos 0) x (dot q v k) (mul binary64 (q k) (v k)) (lit≤ tt) (subst (λ (a : ℕ). a < cap) (sym (zero-add (nat_abs x))) fine)
          (before k (omega arith) (omega arith))
          (subst (λ (j : ℕ). Dy 0 (signed e.minus (z j)) (mul binary64 (q k) (v k))) (sym i) (here k h i)))
      by f (inr i) =
          subst (λ (w : ℤ). Dy 0 w (add binary64 (dot q v k) (mul binary64 (q k) (v k)))) (+ℤ_idr x)
          (add-dy 0 x (pos 0) (dot q v k) (mul binary64 (q k) (v k)) (lit≤ tt) (subst (λ (a : ℕ). a < cap) (sym (add-zero (nat_abs x))) fine)
          (f (less i))
          (away k h i))

  -- the whole sum is the vector's value at the entry, with its sign
  pub dot-signed : e.at < n → Dy 0 (signed e.minus (z e.at)) (dot q v n)
  dot-signed h = after n (omega arith) h

-- ---- rows, then columns

module _ (o : Local) (p : ℕ → Signed) (P : Permutes o.width p o.map) where
  pub moved : (v : ℕ → ℕ → ℤ) (m : Mat) → ((i j : ℕ) → nat_abs (v i j) < cap) → Block o.start o.width v m
      → Block o.start o.width (permuted p v) (cols o (rows o m))
  moved v m small M i j h k =
      subst (Dy 0 (permuted p v i j)) (sym (cols-in o (rows o m) (o.start + i) j k))
      (dot-signed (o.map j) (λ l. rows o m (o.start + i) (o.start + l)) (p j) (λ l. signed (p i).minus (v (p i).at l)) o.width
      (λ l. subst (λ (a : ℕ). a < cap) (sym (abs-signed (p i).minus (v (p i).at l))) (small (p i).at l))
      (λ l g. P.rows j l k g)
      (λ l g.
      subst (Dy 0 (signed (p i).minus (v (p i).at l))) (sym (rows_in o m i (o.start + l) h))
      (dot-signed (o.map i) (λ r. m (o.start + r) (o.start + l)) (p i) (λ r. v r l) o.width (λ r. small r l)
      (λ r f. P.rows i r h f) (λ r f. M r l f g) (P.within i h)))
      (P.within j k))

  -- a row of the map times zeros
  pub quiet : (v : ℕ → Float) → ((j : ℕ) → j < o.width → Dy 0 (pos 0) (v j)) → (i : ℕ) → i < o.width → Dy 0 (pos 0) (under o.width o.map v i)
  quiet v X i h = zero (p i).minus (dot-signed (o.map i) v (p i) (λ j. pos 0) o.width (λ j. lit< tt) (λ j g. P.rows i j h g) X (P.within i h))
    where
      zero : (b : Bool) → Dy 0 (signed b (pos 0)) (under o.width o.map v i) → Dy 0 (pos 0) (under o.width o.map v i)
      zero false d = d
      zero true d = d

  below : (r : ℕ) → T (inside o r) → r - o.start < o.width
  below r t =
      let l : o.start ≤ r = leb→le o.start r (and_l (leb o.start r) (ltb r (o.start + o.width)) t) in
      let g : r < o.start + o.width = ltb→lt r (o.start + o.width) (and_r (leb o.start r) (ltb r (o.start + o.width)) t) in
      omega arith

  -- a column that is zero in the map's rows stays so, and a row that is zero in its columns
  pub rows-zero : (m : Mat) (r c : ℕ) → ((j : ℕ) → j < o.width → Dy 0 (pos 0) (m (o.start + j) c)) → Dy 0 (pos 0) (m r c)
      → Dy 0 (pos 0) (rows o m r c)
  rows-zero m r c z d = by (inside o r) (below r)
    where
      by : (b : Bool) → (T b → r - o.start < o.width)
          → Dy 0 (pos 0) (cond b (under o.width o.map (λ j. m (o.start + j) c) (r - o.start)) (m r c))
      by true h = quiet (λ j. m (o.start + j) c) z (r - o.start) (h tt)
      by false h = d

  pub cols-zero : (m : Mat) (r c : ℕ) → ((j : ℕ) → j < o.width → Dy 0 (pos 0) (m r (o.start + j))) → Dy 0 (pos 0) (m r c)
      → Dy 0 (pos 0) (cols o m r c)
  cols-zero m r c z d = by (inside o c) (below c)
    where
      by : (b : Bool) → (T b → c - o.start < o.width)
          → Dy 0 (pos 0) (cond b (under o.width o.map (λ j. m r (o.start + j)) (c - o.start)) (m r c))
      by true h = quiet (λ j. m r (o.start + j)) z (c - o.start) (h tt)
      by false h = d
