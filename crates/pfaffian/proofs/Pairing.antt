-- Laws of the Pfaffian's loop over the pairs: what is left from pair k on, with the matrix as it stands, gives what the whole gives; a row of zeros
-- stops it there. Assumes nothing.
use mathlib.Core.Path.{◌≡◌, refl, sym, ◌∙◌}
use mathlib.Core.Bool.{true, false, cond}
use mathlib.Core.List.{List}
use Prim.Native.Nat.{ℕ, suc, ◌+◌, ◌-◌, ◌*◌, ◌/◌, ◌%◌, ◌≤◌, ◌<◌}
use native.Mathlib.Nat.{le_refl}
use native.Mathlib.Omega.{arith}
use lib.Dec.{eqb}
use lib.ListN.{length}
use lib.Ieee.{Float, binary64, mul, neg, eq, of_bits}
use borrow.Author.Tests.{eqb-true, le-leb}
use Rattle.std.proofs.lemmas.Bool.{cond_both}
use Rattle.laws.specs.Tables.{exchanged}
use Rattle.laws.specs.Matrix.{Mat, at, matrix, Is}
use Rattle.laws.specs.Steps.{masked, rows_from, cols_from}
use Rattle.laws.proofs.Zeros.{zero_bits}
use Rattle.laws.proofs.Tables.{exchanged_same, exchanged-below, exchanged-from}
use Rattle.laws.proofs.Matrix.{matrix-is}
use Rattle.laws.proofs.Sweep.{masked_on}
use Rattle.pfaffian.specs.Work.{Kept}
use Rattle.pfaffian.specs.declared.pairs.End.TheVariants.{Value, Stopped}
use Rattle.pfaffian.specs.Pfaffian.{pivot_of, pivoted, less, ended}
use Rattle.pfaffian.specs.Turns.{brought, Corner}
use Rattle.pfaffian.proofs.Congruent.{ended-same}
use Rattle.pfaffian.proofs.Keeping.{kept-corner, kept_then}

-- no exchange is that of an index with itself
pub pivoted-is : (p q : ℕ) (a : Mat) (i j : ℕ) → pivoted p q a i j ≡ a (exchanged p q i) (exchanged p q j)
pivoted-is p q a i j =
    cond_both (eqb p q) _ _ (λ (z : Mat). z i j ≡ a (exchanged p q i) (exchanged p q j))
    (λ e. rw (eqb-true p q e) (λ t. a (sym (exchanged_same q i) t) (sym (exchanged_same q j) t))) (λ _. refl)

-- the rows exchanged from column k on, and then the columns from row k on
module _ (p q k dim : ℕ) (m m₁ m₂ : List Float) (hp : p < dim) (hq : q < dim) (lp : k ≤ p) (lq : k ≤ q) (room : dim * dim ≤ length m)
    (e₁ : m₁ ≡ matrix dim (masked (cols_from k) (λ r c. at dim m (exchanged p q r) c) (at dim m)) m)
    (e₂ : m₂ ≡ matrix dim (masked (rows_from k) (λ r c. at dim m₁ r (exchanged p q c)) (at dim m₁)) m₁) where
  pub corner-exchanged : Corner dim k m (brought p q (at dim m)) m₂
  corner-exchanged = record {
    long = w₂.long ∙ w₁.long;
    each = λ r c lr hr lc hc.
        w₂.each r c hr hc
        ∙ masked_on (rows_from k) _ _ r c (le-leb k r lr)
        ∙ w₁.each r (exchanged p q c) hr (exchanged-below p q dim c hp hq hc)
        ∙ masked_on (cols_from k) _ _ r (exchanged p q c) (le-leb k (exchanged p q c) (exchanged-from p q k c lp lq lc));
    after = λ i h. w₂.after i h ∙ w₁.after i h;
  }
    where
      w₁ : Is dim m (masked (cols_from k) (λ r c. at dim m (exchanged p q r) c) (at dim m)) m₁
      w₁ = matrix-is dim m _ m₁ room e₁

      w₂ : Is dim m₁ (masked (rows_from k) (λ r c. at dim m₁ r (exchanged p q c)) (at dim m₁)) m₂
      w₂ = matrix-is dim m₁ _ m₂ (rw w₁.long room) e₂

-- no exchange at all is that of an index with itself
pub corner-same : (p k dim : ℕ) (m : List Float) → Corner dim k m (brought p p (at dim m)) m
corner-same p k dim m = record { long = refl; each = λ r c lr hr lc hc. rw (exchanged_same p r, exchanged_same p c); after = λ i h. refl }

-- the entries that an entry of the elimination is made of
less_by : (a b : Mat) (k i j : ℕ) → a i j ≡ b i j → a k (suc k) ≡ b k (suc k) → a k i ≡ b k i → a k j ≡ b k j
    → a (suc k) i ≡ b (suc k) i → a (suc k) j ≡ b (suc k) j → less k a i j ≡ less k b i j
less_by a b k i j e₀ e₁ e₂ e₃ e₄ e₅ = rw (e₀, e₁, e₂, e₃, e₄, e₅)

-- ---- what is left

pub pair-done : (a : Mat) (dim k : ℕ) (acc : Float) → dim ≤ k → ended a ((dim - k) / 2) k dim acc ≡ Value acc
unfolding ended
pair-done a dim k acc h = let e : (dim - k) / 2 ≡ 0 = omega arith in rw e

module _ (dim k : ℕ) (m : List Float) (acc : Float) (h : k < dim) (even : (dim - k) % 2 ≡ 0) where
  pub pair-stop : (best : Float) → best ≡ (pivot_of (at dim m k) k dim).0 → eq best (of_bits binary64 0) ≡ true
      → Stopped k ≡ ended (at dim m) ((dim - k) / 2) k dim acc
  unfolding ended
  pair-stop best eb t =
      let e : (dim - k) / 2 ≡ suc ((dim - (k + 2)) / 2) = omega arith in
      rw (e, ← eb, rw zero_bits at t) refl

  module _ (best : Float) (p : ℕ) (R m' : List Float) (x acc' : Float)
      (eb : best ≡ (pivot_of (at dim m k) k dim).0) (ep : p ≡ (pivot_of (at dim m k) k dim).1) (w_r : Corner dim k m (brought p (k + 1) (at dim m)) R)
      (w : Corner dim (k + 2) R (less k (at dim R)) m') where
    one : k + 1 ≡ suc k
    one = omega arith

    -- the matrix with its pivot brought to column k + 1
    ready : Mat
    ready = pivoted p (suc k) (at dim m)

    brings : (i j : ℕ) → k ≤ i → i < dim → k ≤ j → j < dim → at dim R i j ≡ ready i j
    unfolding ready
    brings i j li hi lj hj = w_r.each i j li hi lj hj ∙ rw one (sym (pivoted-is p (suc k) (at dim m) i j))

    lessens : (i j : ℕ) → suc (suc k) ≤ i → i < dim → suc (suc k) ≤ j → j < dim → at dim m' i j ≡ less k ready i j
    lessens i j li hi lj hj =
        w.each i j (omega arith) hi (omega arith) hj
        ∙ less_by (at dim R) ready k i j (brings i j (omega arith) hi (omega arith) hj) (brings k (suc k) (le_refl k) h (omega arith) (omega arith))
        (brings k i (le_refl k) h (omega arith) hi) (brings k j (le_refl k) h (omega arith) hj)
        (brings (suc k) i (omega arith) (omega arith) (omega arith) hi) (brings (suc k) j (omega arith) (omega arith) (omega arith) hj)

    pub pair_turn : eq best (of_bits binary64 0) ≡ false → x ≡ at dim R k (k + 1) → acc' ≡ cond (eqb p (k + 1)) acc (neg acc)
        → ended (at dim m') ((dim - (k + 2)) / 2) (k + 2) dim (mul binary64 acc' x) ≡ ended (at dim m) ((dim - k) / 2) k dim acc
    unfolding ended ready
    pair_turn t ex ea =
        let e : (dim - k) / 2 ≡ suc ((dim - (k + 2)) / 2) = omega arith in
        let s : k + 2 ≡ suc (suc k) = omega arith in
        let x' : x ≡ ready k (suc k) = ex ∙ rw one (brings k (suc k) (le_refl k) h (omega arith) (omega arith)) in
        rw (e, ← eb, rw zero_bits at t, ← ep, x', ea, one, s)
        (ended-same (at dim m') (less k ready) ((dim - suc (suc k)) / 2) (suc (suc k)) dim _ (omega arith) lessens)

-- nothing outside the matrix has changed
pub pair-kept : (dim k : ℕ) (m₀ m R m' : List Float) (f g : Mat) → Corner dim k m f R → Corner dim (k + 2) R g m' → Kept dim m₀ m → Kept dim m₀ m'
pair-kept dim k m₀ m R m' f g w_r w w₀ = kept_then dim m₀ R m' (kept_then dim m₀ m R w₀ (kept-corner dim k m R f w_r)) (kept-corner dim (k + 2) R m' g w)
