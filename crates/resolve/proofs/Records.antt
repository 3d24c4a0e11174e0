-- What one record's change leaves as it was: of the marks and the floats, of the events, remainders, splits, wires and items. A record is that of a
-- slot, g + s, or that of the event in hand, i. Assumes nothing.
use mathlib.Core.Path.{◌≡◌, refl, sym, ap₂, ◌∙◌}
use mathlib.Core.Logic.{◌⊎◌, inl, inr, ⊎_elim, ◌≢◌}
use mathlib.Core.List.{List, ◌++◌}
use Prim.Native.Nat.{ℕ, zero, suc, ◌+◌, ◌≤◌, ◌<◌}
use native.Mathlib.Omega.{arith}
use native.Mathlib.Numerals.{add-one}
use lib.ListN.{length, get_or, set, length-set}
use lib.Seq.{get_or-set_other}
use lib.Ieee.{Float, nan}
use Rattle.std.proofs.lemmas.Bool.{cases_lt, cases_eq}
use Rattle.gate.specs.Lent.{flat}
use Rattle.gate.specs.declared.matrix.Mat2.{Mat2}
use Rattle.gate.specs.declared.matrix.Mat4.{Mat4}
use Rattle.gate.proofs.Stored.{length-row, place-stays, length4, place-stays4, mat2-alike, mat4-alike}
use Rattle.work.specs.Sizes.{record_floats, record_marks}
use Rattle.work.specs.Rows.{record_at, float_place, row_floats, residual_place, item_end}
use Rattle.work.specs.Marks.{mark_at, put_mark}
use Rattle.work.specs.Columns.{kind_column, a_column, b_column, lab_column, content_column}
use Rattle.work.proofs.Records.{put-size, put-column, put_record}
use Rattle.fuse.specs.Layout.{put_matrix2_of, put_matrix4_of, event_at, Within}
use Rattle.fuse.proofs.Places.{event-alike}
use Rattle.resolve.specs.Items.{Item, newest_first}
use Rattle.resolve.specs.Slots.{rest_at, split_at, item_at}

-- ---- items by their records

pub newest-same : (e f : ℕ → List Item) (n : ℕ) → ((j : ℕ) → j < n → f j ≡ e j) → newest_first f n ≡ newest_first e n
unfolding newest_first
newest-same e f zero h = refl
newest-same e f (suc n) h = ap₂ ◌++◌ (h n (omega arith)) (newest-same e f n (λ j l. h j (omega arith)))

pub newest-more : (e : ℕ → List Item) (n : ℕ) → newest_first e (n + 1) ≡ e n ++ newest_first e n
unfolding newest_first
newest-more e n = rw (add-one n)

-- ---- one record's marks and floats

-- only record p has changed, and in no record the slot and the wire
pub record MarksOf (p : ℕ) (us vs : List ℕ) : Type 0 where
  pub size : length vs ≡ length us
  pub away : (j d : ℕ) → j ≢ p → d < record_marks → mark_at vs j d ≡ mark_at us j d
  pub lab : (j : ℕ) → mark_at vs j lab_column ≡ mark_at us j lab_column
  pub wire : (j : ℕ) → mark_at vs j content_column ≡ mark_at us j content_column

pub record FloatsOf (p : ℕ) (xs ys : List Float) : Type 0 where
  pub size : length ys ≡ length xs
  pub away : (q : ℕ) → (q < record_at p) ⊎ (float_place p record_floats ≤ q) → get_or ys q nan ≡ get_or xs q nan

module _ (p : ℕ) where
  pub marks-same : (us : List ℕ) → MarksOf p us us
  marks-same us = record { size = refl; away = λ j d a b. refl; lab = λ j. refl; wire = λ j. refl }

  pub marks-put : (us vs : List ℕ) (c v : ℕ) → c < 4 → MarksOf p us vs → MarksOf p us (put_mark vs p c v)
  marks-put us vs c v h o = record {
    size = put-size vs p c v ∙ o.size;
    away = λ j d ne l. ⊎_elim (λ e. rw e (put_record vs p c v j ne)) (λ e. put-column vs p c v j d (omega arith) l (λ z. e (sym z))) (cases_eq d c) ∙ o.away j d ne l;
    lab = λ j. put-column vs p c v j 4 (omega arith) (omega arith) (λ e. omega arith) ∙ o.lab j;
    wire = λ j. put-column vs p c v j 5 (omega arith) (omega arith) (λ e. omega arith) ∙ o.wire j;
  }

  pub floats_same : (xs : List Float) → FloatsOf p xs xs
  floats_same xs = record { size = refl; away = λ q a. refl }

  pub floats-put2 : (xs : List Float) (m : Mat2) → FloatsOf p xs (put_matrix2_of xs p m)
  floats-put2 xs m = record {
    size = length-row xs (record_at p) (flat m);
    away = λ q a. place-stays xs (record_at p) (flat m) q (⊎_elim (λ h. inl h) (λ h. inr (omega arith)) a);
  }

  pub floats-put4 : (xs : List Float) (m : Mat4) → FloatsOf p xs (put_matrix4_of xs p m)
  floats-put4 xs m = record {
    size = length4 xs (record_at p) m;
    away = λ q a. place-stays4 xs (record_at p) m q (⊎_elim (λ h. inl h) (λ h. inr (omega arith)) a);
  }

  pub floats-set : (xs ys : List Float) (k : ℕ) (v : Float) → k < record_floats → FloatsOf p xs ys → FloatsOf p xs (set ys (float_place p k) v)
  floats-set xs ys k v h o = record {
    size = length-set ys (float_place p k) v ∙ o.size;
    away = λ q a. get_or-set_other ys (float_place p k) q v nan (λ e. ⊎_elim (λ l. omega arith) (λ l. omega arith) a) ∙ o.away q a;
  }

-- a place of another record
elsewhere : (p j q : ℕ) → j ≢ p → record_at j ≤ q → q < float_place j record_floats → (q < record_at p) ⊎ (float_place p record_floats ≤ q)
elsewhere p j q n a b = by (cases_lt j p) (cases_lt p j)
  where
    by : (j < p) ⊎ (p ≤ j) → (p < j) ⊎ (j ≤ p) → (q < record_at p) ⊎ (float_place p record_floats ≤ q)
    by (inl h) _ = inl (omega arith)
    by (inr h) (inl g) = inr (omega arith)
    by (inr h) (inr g) = absurd (n (omega arith))

-- ---- what is read of another record

pub item-alike : (xs ys : List Float) (us vs : List ℕ) (i : ℕ) → mark_at vs i kind_column ≡ mark_at us i kind_column → mark_at vs i a_column ≡ mark_at us i a_column
    → mark_at vs i b_column ≡ mark_at us i b_column → ((q : ℕ) → record_at i ≤ q → q < float_place i item_end → get_or ys q nan ≡ get_or xs q nan)
    → item_at ys vs i ≡ item_at xs us i
unfolding item_at
item-alike xs ys us vs i k a b h =
    rw (
      k,
      a,
      b,
      mat2-alike xs ys (record_at i) (λ q l g. h q l (omega arith)),
      mat4-alike xs ys (record_at i) (λ q l g. h q l (omega arith)),
      h (float_place i residual_place) (omega arith) (omega arith),
    )

pub rest-alike : (xs ys : List Float) (us vs : List ℕ) (g s : ℕ) → mark_at vs (g + s) kind_column ≡ mark_at us (g + s) kind_column
    → ((q : ℕ) → record_at (g + s) ≤ q → q < float_place (g + s) row_floats → get_or ys q nan ≡ get_or xs q nan) → rest_at ys vs g s ≡ rest_at xs us g s
unfolding rest_at
rest-alike xs ys us vs g s k h = rw (k, mat2-alike xs ys (record_at (g + s)) h)

module _ (p : ℕ) (xs ys : List Float) (us vs : List ℕ) (f : FloatsOf p xs ys) (m : MarksOf p us vs) where
  pub other-event : (j : ℕ) → j ≢ p → event_at ys vs j ≡ event_at xs us j
  other-event j n =
      event-alike xs ys us vs j (m.away j 0 n (omega arith)) (m.away j 1 n (omega arith)) (m.away j 2 n (omega arith)) (m.away j 3 n (omega arith))
      (λ q a b. f.away q (elsewhere p j q n a (omega arith)))

  pub other_item : (j : ℕ) → j ≢ p → item_at ys vs j ≡ item_at xs us j
  other_item j n =
      item-alike xs ys us vs j (m.away j 0 n (omega arith)) (m.away j 1 n (omega arith)) (m.away j 2 n (omega arith)) (λ q a b. f.away q (elsewhere p j q n a (omega arith)))

  pub other-rest : (g s : ℕ) → g + s ≢ p → rest_at ys vs g s ≡ rest_at xs us g s
  other-rest g s n = rest-alike xs ys us vs g s (m.away (g + s) 0 n (omega arith)) (λ q a b. f.away q (elsewhere p (g + s) q n a (omega arith)))

  pub other-split : (g s : ℕ) → g + s ≢ p → split_at vs g s ≡ split_at us g s
  other-split g s n = m.away (g + s) 3 n (omega arith)

  -- the slots of the events from i on
  pub other-within : (i k g n : ℕ) → i ≤ k → ((j : ℕ) → k ≤ j → j < g → j ≢ p) → Within us i g n → Within vs k g n
  other-within i k g n h ne w = record {
    a = λ j l b. rw (m.away j 1 (ne j l b) (omega arith)) (w.a j (omega arith) b);
    b = λ j l b. rw (m.away j 2 (ne j l b) (omega arith)) (w.b j (omega arith) b);
    c = λ j l b. rw (m.away j 3 (ne j l b) (omega arith)) (w.c j (omega arith) b);
  }
