-- The Pfaffian of two matrices that are seen alike is seen alike, where the rows and columns from k on are: both stop, in the same row, or neither does.
-- So it is equal for equal ones, and equal up to the sign of a zero for such. A division is by a pivot that is no zero. Assumes nothing.
use mathlib.Core.Path.{◌≡◌, refl, sym, ap, subst, ◌∙◌}
use mathlib.Core.Logic.{◌≢◌}
use mathlib.Core.Bool.{Bool, true, false, cond, true≢false}
use Prim.Native.Nat.{ℕ, zero, suc, ◌+◌, ◌-◌, ◌*◌, ◌/◌, ◌%◌, ◌≤◌, ◌<◌}
use native.Mathlib.Omega.{arith}
use lib.Dec.{eqb}
use lib.Ieee.{Float, binary64, add, mul, div, neg, lt, eq}
use borrow.Author.Tests.{eqb-true}
use Rattle.std.proofs.lemmas.Bool.{cond_both}
use Rattle.laws.specs.Zeros.{+0, +1, nz}
use Rattle.laws.specs.Tables.{exchanged}
use Rattle.laws.specs.Matrix.{Mat}
use Rattle.laws.proofs.Tables.{exchanged-away, exchanged-second, exchanged-below, exchanged-from}
use Rattle.num.specs.Order.{abs_of}
use Rattle.pfaffian.specs.declared.pairs.End.{End}
use Rattle.pfaffian.specs.declared.pairs.End.TheVariants.{Value, Stopped}
use Rattle.pfaffian.specs.Pfaffian.{search, pivot_of, pivoted, less, ended, pfaffian_of}
use Rattle.pfaffian.proofs.Seen.{Seen, Alike, exactly, up-to-zeros, cond-seen, abs-zero}

-- ---- the pivot: its absolute value is what the search found, and it is one of the columns that were searched

pub record Searched (row : ℕ → Float) (low high : ℕ) (s : Float × ℕ) : Type 0 where
  pub best : s.0 ≡ abs_of (row s.1)
  pub from : low ≤ s.1
  pub below : s.1 < high

search-found : (row : ℕ → Float) (low high n j : ℕ) (best : Float) (piv : ℕ) → low ≤ j → j + n ≤ high → Searched row low high (best, piv)
    → Searched row low high (search row n j best piv)
unfolding search
search-found row low high zero j best piv l h w = w
search-found row low high (suc n) j best piv l h w =
    by (lt best (abs_of (row j)))
    (search-found row low high n (suc j) (abs_of (row j)) j (omega arith) (omega arith) (record { best = refl; from = l; below = omega arith }))
    (search-found row low high n (suc j) best piv (omega arith) (omega arith) w)
  where
    pick : Bool → Float × ℕ
    pick t = elim t [ true ↦ search row n (suc j) (abs_of (row j)) j | false ↦ search row n (suc j) best piv ]

    by : (t : Bool) → Searched row low high (pick true) → Searched row low high (pick false) → Searched row low high (pick t)
    by true u v = u
    by false u v = v

pub pivot-found : (row : ℕ → Float) (k dim : ℕ) → k + 2 ≤ dim → Searched row (suc k) dim (pivot_of row k dim)
pivot-found row k dim h =
    search-found row (suc k) dim (dim - suc (suc k)) (suc (suc k)) (abs_of (row (suc k))) (suc k) (omega arith) (omega arith)
    (record { best = refl; from = omega arith; below = omega arith })

-- its entry is brought to column k + 1
pub pivot-at : (k p : ℕ) (a : Mat) → suc k ≤ p → pivoted p (suc k) a k (suc k) ≡ a k p
pivot-at k p a l =
    cond_both (eqb p (suc k)) _ _ (λ (z : Mat). z k (suc k) ≡ a k p)
    (λ e. ap (a k) (sym (eqb-true p (suc k) e)))
    (λ e. λ t. a (exchanged-away p (suc k) k (λ e. omega arith) (λ e. omega arith) t) (exchanged-second p (suc k) t))

-- where the search found no zero, that entry is none
pub pivot-nonzero : (k dim : ℕ) (a : Mat) → k + 2 ≤ dim
    → let s = pivot_of (a k) k dim in eq s.0 +0 ≡ false → nz (pivoted s.1 (suc k) a k (suc k)) ≢ +0
pivot-nonzero k dim a h f z =
    let s = pivot_of (a k) k dim in
    let w = pivot-found (a k) k dim h in
    true≢false
    (sym (abs-zero (a k s.1) (ap nz (sym (pivot-at k s.1 a w.from)) ∙ z))
    ∙ ap (λ x. eq x +0) (sym w.best)
    ∙ f)

-- ---- what is seen of an answer: its number; a row as it is

abbrev pub seen_of : (Float → Float) → End → End
seen_of v (Value x) = Value (v x)
seen_of v (Stopped k) = Stopped k

-- ---- matrices seen alike

module _ (v : Float → Float) (see : Seen v) where
  search-seen : (f g : ℕ → Float) (n j : ℕ) (x y : Float) (p : ℕ) → ((i : ℕ) → j ≤ i → i < j + n → v (f i) ≡ v (g i)) → v x ≡ v y
      → (v (search f n j x p).0 ≡ v (search g n j y p).0) × ((search f n j x p).1 ≡ (search g n j y p).1)
  unfolding search
  search-seen f g zero j x y p h e = (e, refl)
  search-seen f g (suc n) j x y p h e =
      let hj = see.abs-seen (f j) (g j) (h j (omega arith) (omega arith)) in
      by (lt x (abs_of (f j))) (lt y (abs_of (g j))) (see.lt-seen x (abs_of (f j)) y (abs_of (g j)) e hj)
      (search-seen f g n (suc j) (abs_of (f j)) (abs_of (g j)) j (λ i l b. h i (omega arith) (omega arith)) hj)
      (search-seen f g n (suc j) x y p (λ i l b. h i (omega arith) (omega arith)) e)
    where
      F : Bool → Float × ℕ
      F t = elim t [ true ↦ search f n (suc j) (abs_of (f j)) j | false ↦ search f n (suc j) x p ]

      G : Bool → Float × ℕ
      G t = elim t [ true ↦ search g n (suc j) (abs_of (g j)) j | false ↦ search g n (suc j) y p ]

      Both : Bool → Bool → Type 0
      Both s t = (v (F s).0 ≡ v (G t).0) × ((F s).1 ≡ (G t).1)

      by : (s t : Bool) → s ≡ t → Both true true → Both false false → Both s t
      by s t e a b = subst (λ (t : Bool). Both s t) e (at s)
        where
          at : (s : Bool) → Both s s
          at true = a
          at false = b

  pivoted-seen : (p q k dim : ℕ) (a b : Mat) → k ≤ p → p < dim → k ≤ q → q < dim → Alike v k dim a b → Alike v k dim (pivoted p q a) (pivoted p q b)
  pivoted-seen p q k dim a b lp hp lq hq h i j li hi lj hj = by (eqb p q)
    where
      by : (t : Bool)
          → v (cond t a (λ i j. a (exchanged p q i) (exchanged p q j)) i j) ≡ v (cond t b (λ i j. b (exchanged p q i) (exchanged p q j)) i j)
      by true = h i j li hi lj hj
      by false =
          h (exchanged p q i) (exchanged p q j) (exchanged-from p q k i lp lq li) (exchanged-below p q dim i hp hq hi) (exchanged-from p q k j lp lq lj)
          (exchanged-below p q dim j hp hq hj)

  less-seen : (k dim : ℕ) (a b : Mat) → k + 2 ≤ dim → Alike v k dim a b → nz (a k (suc k)) ≢ +0 → Alike v (suc (suc k)) dim (less k a) (less k b)
  less-seen k dim a b room h n i j li hi lj hj =
      let top : (i : ℕ) → suc k ≤ i → i < dim → v (a k i) ≡ v (b k i) = λ i l u. h k i (omega arith) (omega arith) (omega arith) u in
      let low : (i : ℕ) → suc k ≤ i → i < dim → v (a (suc k) i) ≡ v (b (suc k) i) =
      λ i l u. h (suc k) i (omega arith) (omega arith) (omega arith) u in
      let t : ℕ → Float = λ i. div binary64 (a k i) (a k (suc k)) in
      let u : ℕ → Float = λ i. div binary64 (b k i) (b k (suc k)) in
      let tu : (i : ℕ) → suc k ≤ i → i < dim → v (t i) ≡ v (u i) =
      λ i l w. see.div-seen (a k i) (a k (suc k)) (b k i) (b k (suc k)) (top i l w) (top (suc k) (omega arith) (omega arith)) n in
      see.add-seen (a i j) (add binary64 (mul binary64 (neg (t i)) (a (suc k) j)) (mul binary64 (t j) (a (suc k) i)))
      (b i j) (add binary64 (mul binary64 (neg (u i)) (b (suc k) j)) (mul binary64 (u j) (b (suc k) i)))
      (h i j (omega arith) hi (omega arith) hj)
      (see.add-seen (mul binary64 (neg (t i)) (a (suc k) j)) (mul binary64 (t j) (a (suc k) i))
      (mul binary64 (neg (u i)) (b (suc k) j)) (mul binary64 (u j) (b (suc k) i))
      (see.mul-seen (neg (t i)) (a (suc k) j) (neg (u i)) (b (suc k) j) (see.neg-seen (t i) (u i) (tu i (omega arith) hi)) (low j (omega arith) hj))
      (see.mul-seen (t j) (a (suc k) i) (u j) (b (suc k) i) (tu j (omega arith) hj) (low i (omega arith) hi)))

  pub ended-seen : (a b : Mat) (p k dim : ℕ) (x y : Float) → k + 2 * p ≤ dim → Alike v k dim a b → v x ≡ v y
      → seen_of v (ended a p k dim x) ≡ seen_of v (ended b p k dim y)
  unfolding ended
  ended-seen a b zero k dim x y room h e = ap Value e
  ended-seen a b (suc p) k dim x y room h e =
      let two : k + 2 ≤ dim = omega arith in
      let s = pivot_of (a k) k dim in
      let t = pivot_of (b k) k dim in
      let w = pivot-found (a k) k dim two in
      let c = search-seen (a k) (b k) (dim - suc (suc k)) (suc (suc k)) (abs_of (a k (suc k))) (abs_of (b k (suc k))) (suc k)
      (λ i l u. h k i (omega arith) (omega arith) (omega arith) (omega arith))
      (see.abs-seen (a k (suc k)) (b k (suc k)) (h k (suc k) (omega arith) (omega arith) (omega arith) (omega arith))) in
      let A = pivoted s.1 (suc k) a in
      let B = pivoted s.1 (suc k) b in
      let AB : Alike v k dim A B = pivoted-seen s.1 (suc k) k dim a b (omega (arith, w.from)) w.below (omega arith) (omega arith) h in
      let n = eqb s.1 (suc k) in
      let x' = mul binary64 (cond n x (neg x)) (A k (suc k)) in
      let y' = mul binary64 (cond n y (neg y)) (B k (suc k)) in
      let e' : v x' ≡ v y' = see.mul-seen (cond n x (neg x)) (A k (suc k)) (cond n y (neg y)) (B k (suc k))
      (cond-seen v n n x (neg x) y (neg y) refl e (see.neg-seen x y e)) (AB k (suc k) (omega arith) (omega arith) (omega arith) (omega arith)) in
      let rec : eq s.0 +0 ≡ false → seen_of v (ended (less k A) p (suc (suc k)) dim x') ≡ seen_of v (ended (less k B) p (suc (suc k)) dim y') =
      λ f. ended-seen (less k A) (less k B) p (suc (suc k)) dim x' y' (omega arith) (less-seen k dim A B two AB (pivot-nonzero k dim a two f)) e' in
      stop (eq s.0 +0) (eq t.0 +0) (see.eq-seen s.0 +0 t.0 +0 c.0 refl) (ended (less k A) p (suc (suc k)) dim x')
      (ended (less k B) p (suc (suc k)) dim y') rec
      ∙ ap (λ (q : ℕ). seen_of v (cond (eq t.0 +0) (Stopped k)
      (ended (less k (pivoted q (suc k) b)) p (suc (suc k)) dim (mul binary64 (cond (eqb q (suc k)) y (neg y)) (pivoted q (suc k) b k (suc k)))))) c.1
    where
      stop : (f g : Bool) → f ≡ g → (r r' : End) → (f ≡ false → seen_of v r ≡ seen_of v r')
          → seen_of v (cond f (Stopped k) r) ≡ seen_of v (cond g (Stopped k) r')
      stop true g e r r' h = ap (λ (q : Bool). seen_of v (cond q (Stopped k) r')) e
      stop false g e r r' h = h refl ∙ ap (λ (q : Bool). seen_of v (cond q (Stopped k) r')) e

-- ---- equal, and equal up to the sign of a zero

exactly-is : (p : End) → seen_of (λ x. x) p ≡ p
exactly-is (Value x) = refl
exactly-is (Stopped k) = refl

exactly-same : (p q : End) → seen_of (λ x. x) p ≡ seen_of (λ x. x) q → p ≡ q
exactly-same p q e = sym (exactly-is p) ∙ e ∙ exactly-is q

pub ended-same : (a b : Mat) (p k dim : ℕ) (x : Float) → k + 2 * p ≤ dim → Alike (λ x. x) k dim a b → ended a p k dim x ≡ ended b p k dim x
ended-same a b p k dim x room h =
    exactly-same (ended a p k dim x) (ended b p k dim x) (ended-seen (λ x. x) exactly a b p k dim x x room h refl)

pfaffian-seen : (v : Float → Float) → Seen v → (a b : Mat) (dim : ℕ) → Alike v 0 dim a b → seen_of v (pfaffian_of dim a) ≡ seen_of v (pfaffian_of dim b)
unfolding pfaffian_of
pfaffian-seen v see a b dim h = by (eqb (dim % 2) 1)
  where
    by : (t : Bool) → seen_of v (cond t (Stopped 0) (ended a (dim / 2) 0 dim +1)) ≡ seen_of v (cond t (Stopped 0) (ended b (dim / 2) 0 dim +1))
    by true = refl
    by false = ended-seen v see a b (dim / 2) 0 dim +1 +1 (omega arith) h refl

pub pfaffian-same : (a b : Mat) (dim : ℕ) → Alike (λ x. x) 0 dim a b → pfaffian_of dim a ≡ pfaffian_of dim b
pfaffian-same a b dim h = exactly-same (pfaffian_of dim a) (pfaffian_of dim b) (pfaffian-seen (λ x. x) exactly a b dim h)

pub pfaffian-cong : (a b : Mat) (dim : ℕ) → Alike nz 0 dim a b → seen_of nz (pfaffian_of dim a) ≡ seen_of nz (pfaffian_of dim b)
pfaffian-cong = pfaffian-seen nz up-to-zeros
