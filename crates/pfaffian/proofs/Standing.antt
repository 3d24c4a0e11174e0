-- Laws of a list that stands for the matrix of a shot right of the diagonal: before the first update it has all entries, afterwards those below are
-- minus those above, since an update stores v and -v; a column laid over a row and negated again is that column. So a measured mode leaves a list
-- that stands for the plain next matrix. Assumes nothing.
use mathlib.Core.Path.{◌≡◌, refl, sym, ap, ◌∙◌}
use mathlib.Core.Logic.{◌≢◌}
use mathlib.Core.Bool.{Bool, true, false}
use mathlib.Core.List.{List}
use Prim.Native.Nat.{ℕ, suc, ◌+◌, ◌*◌, ◌≤◌, ◌<◌}
use native.Mathlib.Omega.{arith}
use lib.ListN.{length}
use lib.Ieee.{Float, binary64, add, sub, mul, div, neg, le, of_bits}
use borrow.Author.Tests.{eq-eqb, ne_eqb, le-leb, lt-ltb, le-ltb}
use Rattle.laws.specs.Matrix.{Mat, at, Is}
use Rattle.laws.specs.Steps.{masked, in_row, cols_from, right_from, by_pair}
use Rattle.laws.proofs.Zeros.{one-bits}
use Rattle.laws.proofs.Negatives.{neg-neg}
use Rattle.laws.proofs.Matrix.{matrix-is, length-matrix, same}
use Rattle.laws.proofs.Sweep.{masked_on, masked_off}
use Rattle.laws.proofs.Eliminations.{right-on}
use Rattle.num.specs.Order.{clamp_of}
use Rattle.pfaffian.specs.Work.{Kept}
use Rattle.pfaffian.specs.Shot.{tiny, mab_of, drawn_of, drawn, spin_of, den, projected, updated}
use Rattle.pfaffian.specs.Turns.{laid, laid_pair, projected_by, measured, Stands, Measures}
use Rattle.pfaffian.proofs.Keeping.{kept-matrix, kept_then}

-- ---- a row over which its column was laid

module _ (dim i s : ℕ) (m m' : List Float) (below : i < s) (room : dim * dim ≤ length m) (e : m' ≡ laid dim i s m) where
  is : Is dim m (masked (in_row i (cols_from s)) (λ r c. neg (at dim m c r)) (at dim m)) m'
  is = matrix-is dim m _ m' room e

  laid-row : (c : ℕ) → i < dim → s ≤ c → c < dim → at dim m' i c ≡ neg (at dim m c i)
  laid-row c hi l hc = is.each i c hi hc ∙ masked_on _ _ _ i c (rw (eq-eqb i i refl, le-leb s c l))

  laid-other : (r c : ℕ) → r ≢ i → r < dim → c < dim → at dim m' r c ≡ at dim m r c
  laid-other r c ne hr hc = is.each r c hr hc ∙ masked_off _ _ _ r c (rw (ne_eqb r i ne))

pub kept-lay : (dim a : ℕ) (fresh : Bool) (m : List Float) → dim * dim ≤ length m → Kept dim m (laid_pair dim a fresh m)
kept-lay dim a false m room = same dim m
kept-lay dim a true m room =
    let w = kept-matrix dim m (laid dim a (a + 2) m) _ room refl in
    kept_then dim m (laid dim a (a + 2) m) _ w (kept-matrix dim (laid dim a (a + 2) m) _ _ (rw w.long room) refl)

pub kept-update : (dim a : ℕ) (f : Float) (fresh : Bool) (m m' : List Float) → dim * dim ≤ length m
    → m' ≡ measured dim a f (laid_pair dim a fresh m) → Kept dim m m'
kept-update dim a f fresh m m' room e =
    let w = kept-lay dim a fresh m room in
    kept_then dim m (laid_pair dim a fresh m) m' w (kept-matrix dim (laid_pair dim a fresh m) m' _ (rw w.long room) e)

-- ---- the rows a and a + 1 hold minus the columns, and the rest right of the diagonal is as it was

record Ready (dim k : ℕ) (M : Mat) (m : List Float) : Type 0 where
  first : (c : ℕ) → 2 * k + 2 ≤ c → c < dim → neg (at dim m (2 * k) c) ≡ M c (2 * k)
  second : (c : ℕ) → 2 * k + 2 ≤ c → c < dim → neg (at dim m (2 * k + 1) c) ≡ M c (2 * k + 1)
  rest : (r c : ℕ) → 2 * k + 2 ≤ r → r < c → c < dim → at dim m r c ≡ M r c

lay-ready : (dim k : ℕ) (fresh : Bool) (M : Mat) (m m₁ : List Float) → 2 * k + 2 ≤ dim → dim * dim ≤ length m → Stands dim k fresh M m
    → m₁ ≡ laid_pair dim (2 * k) fresh m → Ready dim k M m₁
lay-ready dim k false M m m₁ band room w e = record {
  first = λ c l h. rw e (w.below (2 * k) c (omega arith) (omega arith) h);
  second = λ c l h. rw e (w.below (2 * k + 1) c (omega arith) (omega arith) h);
  rest = λ r c l g h. rw e (w.right r c (omega arith) g h);
}
lay-ready dim k true M m m₁ band room w e = record {
  first = λ c l h.
      ap neg
      (laid-other dim b (2 * k + 2) m' m₁ lb room' e (2 * k) c (λ e. omega arith) (omega arith) h
      ∙ laid-row dim (2 * k) (2 * k + 2) m m' la room refl c (omega arith) l h)
      ∙ neg-neg (at dim m c (2 * k))
      ∙ w.below (2 * k) c (omega arith) (omega arith) h;
  second = λ c l h.
      ap neg (laid-row dim b (2 * k + 2) m' m₁ lb room' e c (omega arith) l h)
      ∙ neg-neg (at dim m' c b)
      ∙ laid-other dim (2 * k) (2 * k + 2) m m' la room refl c b (λ e. omega arith) h (omega arith)
      ∙ w.below b c (omega arith) (omega arith) h;
  rest = λ r c l g h.
      laid-other dim b (2 * k + 2) m' m₁ lb room' e r c (λ e. omega arith) (omega arith) h
      ∙ laid-other dim (2 * k) (2 * k + 2) m m' la room refl r c (λ e. omega arith) (omega arith) h
      ∙ w.right r c (omega arith) g h;
}
  where
    b : ℕ
    b = 2 * k + 1

    m' : List Float
    m' = laid dim (2 * k) (2 * k + 2) m

    room' : dim * dim ≤ length m'
    room' = rw (length-matrix dim _ m) room

    la : 2 * k < 2 * k + 2
    la = omega arith

    lb : b < 2 * k + 2
    lb = omega arith

-- ---- an update

module _ (dim k : ℕ) (M : Mat) (f : Float) (m₁ m₂ : List Float) (band : 2 * k + 2 ≤ dim) (room : dim * dim ≤ length m₁) (w : Ready dim k M m₁)
    (e : m₂ ≡ measured dim (2 * k) f m₁) where
  now-is : Is dim m₁ (masked (right_from (2 * k + 2)) (by_pair (2 * k) (projected_by f) (at dim m₁)) (at dim m₁)) m₂
  now-is = matrix-is dim m₁ _ m₂ room e

  project : (r c : ℕ) → 2 * k + 2 ≤ r → r < c → c < dim → at dim m₂ r c ≡ projected M f k r c
  project r c l g h =
      now-is.each r c (omega arith) h
      ∙ masked_on _ _ _ r c (right-on (2 * k + 2) r c l g)
      ∙ (λ t. add binary64 (w.rest r c l g h t)
      (mul binary64 f
      (sub binary64 (mul binary64 (w.second r l (omega arith) t) (w.first c (omega arith) h t))
      (mul binary64 (w.first r l (omega arith) t) (w.second c (omega arith) h t)))))

  update-stands : Stands dim (suc k) false (updated M f k) m₂
  update-stands = record {
    right = λ r c l g h.
        let lr : 2 * k + 1 < r = omega arith in
        let lc : 2 * k + 1 < c = omega arith in
        rw (lt-ltb (2 * k + 1) r lr, lt-ltb (2 * k + 1) c lc, lt-ltb r c g) (project r c (omega arith) g h);
    below = λ r c l g h.
        let lr : 2 * k + 1 < r = omega arith in
        let lc : 2 * k + 1 < c = omega arith in
        let gc : r ≤ c = omega arith in
        rw (lt-ltb (2 * k + 1) c lc, lt-ltb (2 * k + 1) r lr, le-ltb c r gc, lt-ltb r c g) (ap neg (project r c (omega arith) g h));
  }

-- ---- a mode: x, mab, one and s are what the code computes

-- 1.0, as code has it
abbrev unit : Float
unit = of_bits binary64 0x3ff0_0000_0000_0000

module _ (dim k : ℕ) (draw : Float) (fresh : Bool) (m : List Float) (x mab : Float) (one : Bool) (s : Float) (band : 2 * k + 2 ≤ dim)
    (ex : x ≡ at dim m (2 * k) (2 * k + 1))
    (em : mab ≡ clamp_of x (neg unit) unit)
    (eo : one ≡ drawn_of mab draw) (es : s ≡ spin_of one) where
  module _ (M : Mat) (w : Stands dim k fresh M m) where
    mab-is : mab ≡ mab_of M k
    mab-is = em ∙ rw (one-bits, ex, w.right (2 * k) (2 * k + 1) (omega arith) (omega arith) (omega arith))

    one-is : one ≡ drawn M k draw
    one-is = eo ∙ ap (λ y. drawn_of y draw) mab-is

    den-is : add binary64 unit (mul binary64 s mab) ≡ den M k one
    den-is = rw (one-bits, es, mab-is)

  -- den is tiny: nothing changes
  pub measures-tiny : le (add binary64 unit (mul binary64 s mab)) tiny ≡ true → Measures dim k draw fresh m one fresh m
  measures-tiny t M w =
      let t' : le (den M k one) tiny ≡ true = ap (λ y. le y tiny) (sym (den-is M w)) ∙ t in (
        one-is M w,
        rw t' (record { right = λ r c l g h. w.right r c (omega arith) g h; below = λ r c l g h. w.below r c (omega arith) g h }),
      )

  pub measures-more : (m' : List Float) → le (add binary64 unit (mul binary64 s mab)) tiny ≡ false → dim * dim ≤ length m
      → m' ≡ measured dim (2 * k) (div binary64 s (add binary64 unit (mul binary64 s mab))) (laid_pair dim (2 * k) fresh m)
      → Measures dim k draw fresh m one false m'
  measures-more m' t room e M w =
      let t' : le (den M k one) tiny ≡ false = ap (λ y. le y tiny) (sym (den-is M w)) ∙ t in
      let e' : m' ≡ measured dim (2 * k) (div binary64 (spin_of one) (den M k one)) (laid_pair dim (2 * k) fresh m) =
      e ∙ (λ i. measured dim (2 * k) (div binary64 (es i) (den-is M w i)) (laid_pair dim (2 * k) fresh m)) in (
        one-is M w,
        rw t' (update-stands dim k M _ (laid_pair dim (2 * k) fresh m) m' band (rw (kept-lay dim (2 * k) fresh m room).long room)
            (lay-ready dim k fresh M m (laid_pair dim (2 * k) fresh m) band room w refl) e'),
      )
