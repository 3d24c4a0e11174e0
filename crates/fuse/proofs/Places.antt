-- The event that a record of the lent work holds: tests on its marks are tests on the event; a kind set to 0 takes it away, a matrix that is stored
-- changes it, and the other events stay. By cases on the kind. Assumes nothing.
use mathlib.Core.Path.{◌≡◌, refl, ap, ◌∙◌}
use mathlib.Core.Logic.{◌⊎◌, inl, inr, ⊎_elim, ◌≢◌}
use mathlib.Core.Bool.{true, false, cond, ◌||◌}
use mathlib.Core.List.{List}
use Prim.Native.Nat.{ℕ, ◌+◌, ◌*◌, ◌-◌, ◌≤◌, ◌<◌}
use native.Mathlib.Omega.{arith}
use lib.ListN.{length, get_or}
use lib.Ieee.{Float, nan}
use borrow.Author.Tests.{ne_eqb}
use Rattle.laws.specs.Views.{between}
use Rattle.laws.proofs.Views.{between_none, between_more}
use Rattle.gate.specs.Matrix.{id2, mul2_of}
use Rattle.gate.specs.Lent.{flat}
use Rattle.gate.specs.declared.matrix.Mat2.{Mat2}
use Rattle.gate.specs.declared.matrix.Mat4.{Mat4}
use Rattle.gate.proofs.Stored.{place-stays, mat2-alike, mat4-alike, mat2-back, place-stays4, mat4-back}
use Rattle.work.specs.Sizes.{record_marks}
use Rattle.work.specs.Rows.{record_at, FloatsAt, matrix_floats}
use Rattle.work.specs.Marks.{mark_at, put_mark, Only}
use Rattle.work.specs.Columns.{kind_column, a_column, b_column, c_column, gone_kind, one_kind, two_kind, three_kind}
use Rattle.work.proofs.Records.{put-here, put-column, put_record, only-trans, only-put}
use Rattle.fuse.specs.Events.{Event, gone, one, two, three, one_on, block_on, meets, touches, times, product, clear}
use Rattle.work.specs.Lent.{Lent, Whole, Has, marked}
use Rattle.fuse.specs.Lent.{Clears}
use Rattle.fuse.specs.Layout.{event_at, matrix2_of, matrix4_of, put_matrix2_of, put_matrix4_of, one_at, block_at, meets_at, touches_at, kinds, Cleared}

-- ---- tests

module _ (xs : List Float) (us : List ℕ) where
  pub one-is : (w i : ℕ) → one_on w (event_at xs us i) ≡ one_at us w i
  unfolding event_at one_at
  one-is w i = grind arith

  pub block-is : (w i : ℕ) → block_on w (event_at xs us i) ≡ block_at us w i
  unfolding event_at block_at
  block-is w i = grind arith

  pub times-is : (w i : ℕ) (acc : Mat2) → times w (event_at xs us i) acc ≡ cond (one_at us w i) (mul2_of (matrix2_of xs i) acc) acc
  unfolding event_at one_at
  times-is w i acc = grind arith

  pub meets-is : (a b i : ℕ) → meets a b (event_at xs us i) ≡ meets_at us a b i
  meets-is a b i = rw (block-is a i, block-is b i)

  pub touches-is : (w i : ℕ) → touches w (event_at xs us i) ≡ touches_at us w i
  touches-is w i = rw (one-is w i, block-is w i)

  pub clear-is : (a b i : ℕ) → clear a b (event_at xs us i) ≡ cond (one_at us a i || one_at us b i) gone (event_at xs us i)
  clear-is a b i = rw (one-is a i, one-is b i)

-- ---- what a kind says

module _ (xs : List Float) (us : List ℕ) (i : ℕ) where
  pub one-at : mark_at us i kind_column ≡ one_kind → event_at xs us i ≡ one (mark_at us i a_column) (matrix2_of xs i)
  unfolding event_at
  one-at h = rw h

  pub two_at : mark_at us i kind_column ≡ two_kind → event_at xs us i ≡ two (mark_at us i a_column) (mark_at us i b_column) (matrix4_of xs i)
  unfolding event_at
  two_at h = rw h

  pub three-at : mark_at us i kind_column ≡ three_kind → event_at xs us i ≡ three (mark_at us i a_column) (mark_at us i b_column) (mark_at us i c_column)
  unfolding event_at
  three-at h = rw h

  pub gone_at : mark_at us i kind_column ≢ one_kind → mark_at us i kind_column ≢ two_kind → mark_at us i kind_column ≢ three_kind → event_at xs us i ≡ gone
  unfolding event_at
  gone_at p q r = rw (ne_eqb _ _ p, ne_eqb _ _ q, ne_eqb _ _ r)

-- ---- the event stays where its marks and its matrix stay

pub event-alike : (xs ys : List Float) (us vs : List ℕ) (i : ℕ) → mark_at vs i 0 ≡ mark_at us i 0 → mark_at vs i 1 ≡ mark_at us i 1
    → mark_at vs i 2 ≡ mark_at us i 2 → mark_at vs i 3 ≡ mark_at us i 3
    → ((q : ℕ) → record_at i ≤ q → q < record_at i + matrix_floats → get_or ys q nan ≡ get_or xs q nan) → event_at ys vs i ≡ event_at xs us i
unfolding event_at
event-alike xs ys us vs i k a b c h =
    rw (k, a, b, c, mat2-alike xs ys (record_at i) (λ q l g. h q l (omega arith)), mat4-alike xs ys (record_at i) h)

-- the marks may be said of all four columns at once
pub event-same : (xs : List Float) (us vs : List ℕ) (i : ℕ) → ((d : ℕ) → d < 4 → mark_at vs i d ≡ mark_at us i d) → event_at xs vs i ≡ event_at xs us i
event-same xs us vs i h = event-alike xs xs us vs i (h 0 (omega arith)) (h 1 (omega arith)) (h 2 (omega arith)) (h 3 (omega arith)) (λ q a b. refl)

-- ---- a kind set to 0

pub kill-same : (xs : List Float) (us : List ℕ) (i : ℕ) → record_marks * i < length us → event_at xs (put_mark us i kind_column gone_kind) i ≡ gone
unfolding event_at
kill-same xs us i h = rw (put-here us i 0 0 (omega arith))

pub kind-other : (xs : List Float) (us : List ℕ) (j v i : ℕ) → i ≢ j → event_at xs (put_mark us j kind_column v) i ≡ event_at xs us i
kind-other xs us j v i n = event-same xs us (put_mark us j 0 v) i (λ d l. grind (arith, put_record, put-column))

pub kind-only : (us vs : List ℕ) (i v : ℕ) → Only kinds us vs → Only kinds us (put_mark vs i kind_column v)
kind-only us vs i v o = only-trans kinds us vs (put_mark vs i 0 v) o (only-put kinds vs i 0 v (omega arith) refl)

-- ---- a matrix stored

-- the places of another record
apart : (t j : ℕ) → j ≢ t → (q : ℕ) → record_at j ≤ q → q < record_at j + matrix_floats → (q < record_at t) ⊎ (record_at t + matrix_floats ≤ q)
apart t j n q a b = grind arith

module _ (xs : List Float) (us : List ℕ) (t : ℕ) where
  pub put4-other : (m : Mat4) (j : ℕ) → j ≢ t → event_at (put_matrix4_of xs t m) us j ≡ event_at xs us j
  put4-other m j n = event-alike xs (put_matrix4_of xs t m) us us j refl refl refl refl (λ q a b. place-stays4 xs (record_at t) m q (apart t j n q a b))

  pub put4-same : (m : Mat4) → FloatsAt xs t → mark_at us t kind_column ≡ two_kind
      → event_at (put_matrix4_of xs t m) us t ≡ two (mark_at us t a_column) (mark_at us t b_column) m
  put4-same m l h = two_at (put_matrix4_of xs t m) us t h ∙ ap (two (mark_at us t 1) (mark_at us t 2)) (mat4-back xs (record_at t) m (omega arith))

  pub put2-other : (m : Mat2) (j : ℕ) → j ≢ t → event_at (put_matrix2_of xs t m) us j ≡ event_at xs us j
  put2-other m j n =
      event-alike xs (put_matrix2_of xs t m) us us j refl refl refl refl
      (λ q a b. place-stays xs (record_at t) (flat m) q (⊎_elim (λ h. inl h) (λ h. inr (omega arith)) (apart t j n q a b)))

  pub put2-same : (m : Mat2) → FloatsAt xs t → mark_at us t kind_column ≡ one_kind
      → event_at (put_matrix2_of xs t m) us t ≡ one (mark_at us t a_column) m
  put2-same m l h = one-at (put_matrix2_of xs t m) us t h ∙ ap (one (mark_at us t 1)) (mat2-back xs (record_at t) m (omega arith))

-- ---- the time product of the gates passed

pub product-none : (s k : ℕ) (e : ℕ → Event) → product s (between e k (k - k)) ≡ id2
unfolding product
product-none s k e = ap (product s) (between_none e k)

pub product-more : (s k j : ℕ) (xs : List Float) (us : List ℕ) → k ≤ j
    → product s (between (event_at xs us) k (j + 1 - k))
    ≡ cond (one_at us s j) (mul2_of (matrix2_of xs j) (product s (between (event_at xs us) k (j - k)))) (product s (between (event_at xs us) k (j - k)))
unfolding product
product-more s k j xs us h = ap (product s) (between_more (event_at xs us) k j h) ∙ times-is xs us s j (product s (between (event_at xs us) k (j - k)))

pub ruleset products = (product-none, product-more)

-- ---- the gates taken away so far

module _ {w v : Lent} {k j a b : ℕ} (was : Clears w v k j a b) (kj : k ≤ j) where
  abbrev c : Cleared w.marks v.marks k j a b
  c = was.cleared

  pub clears-hit : Whole v → Has v j → (one_at v.marks a j || one_at v.marks b j) ≡ true → Clears w (marked v j kind_column gone_kind) k (j + 1) a b
  clears-hit whole there h = record {
    rest = record { floats = was.rest.floats; gates = was.rest.gates; slots = was.rest.slots };
    cleared = record {
      only = kind-only w.marks v.marks j 0 c.only;
      inside = λ xs i p q. grind (arith, kind-other, kill-same, clear-is, c.inside xs, c.above xs);
      below = λ xs i p. grind (arith, kind-other, c.below xs);
      above = λ xs i p. grind (arith, kind-other, c.above xs);
    };
  }

  pub clears-miss : (one_at v.marks a j || one_at v.marks b j) ≡ false → Clears w v k (j + 1) a b
  clears-miss h = record {
    rest = was.rest;
    cleared = record {
      only = c.only;
      inside = λ xs i p q. grind (arith, clear-is, c.inside xs, c.above xs);
      below = c.below;
      above = λ xs i p. c.above xs i (omega arith);
    };
  }
