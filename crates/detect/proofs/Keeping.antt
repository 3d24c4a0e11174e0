-- What counting keeps: an operation is written beside the places of the items, so the items stay; and as long as nothing is bad every matchgate's is there.
-- Assumes nothing.
use mathlib.Core.Path.{◌≡◌, refl, sym, ap, ◌∙◌, subst}
use mathlib.Core.Logic.{◌⊎◌, inl, inr, ◌≢◌}
use mathlib.Core.Bool.{Bool, true, false, true≢false}
use mathlib.Core.List.{List, ◌++◌, append_assoc}
use Prim.Native.Nat.{ℕ, ◌+◌, ◌≤◌, ◌<◌}
use native.Mathlib.Omega.{arith}
use lib.ListN.{length, get_or, take, drop, length-drop}
use lib.Seq.{paste, length-take-le, take_all, take_at, drop_at, drop-drop, ext_get_or}
use lib.Ieee.{Float, nan}
use borrow.Author.Tests.{ne_eqb}
use borrow.Rule.Slice.PartMut.{put_mid}
use Rattle.std.proofs.lemmas.Bool.{cases_lt, cases_eq}
use Rattle.laws.proofs.Slices.{part_at, length-put, put-before, put-after}
use Rattle.laws.specs.Bounds.{op_places}
use Rattle.gate.proofs.Stored.{mat2-alike, mat4-alike}
use Rattle.work.specs.Rows.{record_at, float_place, FloatsAt, residual_place, item_end}
use Rattle.work.specs.Marks.{mark_at}
use Rattle.work.specs.Columns.{kind_column, a_column, b_column}
use Rattle.order.specs.Arrangement.{beside_of}
use Rattle.fuse.specs.Layout.{matrix4_of}
use Rattle.resolve.specs.Slots.{kind_at, item_at}
use Rattle.resolve.proofs.Records.{newest-same, item-alike}
use Rattle.detect.specs.declared.count.Counts.{Counts}
use Rattle.detect.specs.Counts.{match_share, two_share, plus_of, share_of}
use Rattle.work.specs.Kinds.{is_item_of}
use Rattle.detect.specs.Records.{record_item, items_in, modes_in}
use Rattle.resolve.specs.Items.{ItemsBelow}
use Rattle.detect.specs.Kept.{match_places, kept_place, match_kept, two_kept, record_kept, KeptAt, Kept, Counted}

-- ---- floats that are the same where the items are

abbrev Alike : List Float → List Float → Type 0
Alike xs ys = (i q : ℕ) → record_at i ≤ q → q < float_place i item_end → get_or ys q nan ≡ get_or xs q nan

module _ (xs ys : List Float) (us : List ℕ) (same : Alike xs ys) where
  matrix-stays : (i : ℕ) → matrix4_of ys i ≡ matrix4_of xs i
  matrix-stays i = mat4-alike xs ys (record_at i) (λ q a b. same i q a (omega arith))

  pub record-stays : (i : ℕ) → record_item ys us i ≡ record_item xs us i
  record-stays i =
      rw (
        mat2-alike xs ys (record_at i) (λ q a b. same i q a (omega arith)),
        matrix-stays i,
        same i (float_place i residual_place) (omega arith) (omega arith),
      )

  pub items_keep : (m : ℕ) → items_in ys us m ≡ items_in xs us m
  items_keep m = newest-same (item_at xs us) (item_at ys us) m (λ j l. item-alike xs ys us us j refl refl refl (same j))

-- the items' wires stay, once they are counted
pub below-counted : (xs : List Float) (us : List ℕ) (c : Counts) (ys : List Float) (m : ℕ) → Counted c xs ys us m → (n : ℕ) → ItemsBelow n (items_in xs us m)
    → ItemsBelow n (items_in ys us m)
below-counted xs us c ys m k n h = rw (items_keep xs ys us k.same m) h

-- ---- an operation written from p on

module _ (p : ℕ) (l x : List Float) (long : length x ≡ op_places) (fit : p + op_places ≤ length l) where
  paste-mid : paste l p x op_places ≡ put_mid p op_places l x
  paste-mid =
      append_assoc (take p l) (take op_places x) (drop (p + op_places) l)
      ∙ ap (λ y. take p l ++ (y ++ drop (p + op_places) l)) (take_all op_places x (omega (arith, long)))
      ∙ ap (λ r. take p l ++ (x ++ r)) (sym (drop-drop op_places p l))

  paste-size : length (paste l p x op_places) ≡ length l
  paste-size = ap length paste-mid ∙ length-put p op_places l x nan fit long

  -- a place that it is not written to
  paste-stays : (q : ℕ) → (q < p) ⊎ (p + op_places ≤ q) → get_or (paste l p x op_places) q nan ≡ get_or l q nan
  paste-stays q (inl h) = ap (λ y. get_or y q nan) paste-mid ∙ put-before p op_places l x nan fit long q h
  paste-stays q (inr h) = ap (λ y. get_or y q nan) paste-mid ∙ put-after p op_places l x nan fit long q h

  -- it is there
  paste-there : take op_places (drop p (paste l p x op_places)) ≡ x
  paste-there =
      ap (λ y. take op_places (drop p y)) paste-mid
      ∙ ap (take op_places) (drop_at (take p l) (x ++ drop op_places (drop p l)) p (length-take-le p l (omega arith)))
      ∙ take_at x (drop op_places (drop p l)) op_places long

-- the places of an operation stay
window-stays : (a : ℕ) (l m : List Float) → length m ≡ length l → a + op_places ≤ length l
    → ((q : ℕ) → a ≤ q → q < a + op_places → get_or m q nan ≡ get_or l q nan)
    → take op_places (drop a m) ≡ take op_places (drop a l)
window-stays a l m e fit h =
    let long : (k : List Float) → a + op_places ≤ length k → length (take op_places (drop a k)) ≡ op_places =
    λ k f. length-take-le op_places (drop a k) (omega (arith, length-drop a k)) in
    let lm = long m (omega (arith, e)) in
    ext_get_or nan (take op_places (drop a m)) (take op_places (drop a l)) (lm ∙ sym (long l fit))
    (λ i b. part_at a op_places m nan i (omega (arith, lm)) ∙ h (a + i) (omega arith) (omega (arith, lm))
    ∙ sym (part_at a op_places l nan i (omega (arith, lm))))

-- ---- one record more

module _ (xs : List Float) (us : List ℕ) where
  -- nothing is kept before the first
  pub counted_none : (c : Counts) → Counted c xs xs us 0
  counted_none c = record { size = refl; same = λ i q a b. refl; kept = λ z i l. absurd (omega arith) }

  module _ (c : Counts) (ys : List Float) (i : ℕ) (old : Counted c xs ys us i) where
    -- a record that is no matchgate's
    other : (mark_at us i kind_column ≢ 5) → Kept ys us i → Kept ys us (i + 1)
    other n h j l = by (cases_eq j i)
      where
        by : (j ≡ i) ⊎ (j ≢ i) → KeptAt ys us j
        by (inl e) q = absurd (n (ap (λ j. mark_at us j kind_column) (sym e) ∙ q))
        by (inr e) q = h j (omega (arith, e)) q

    pub counted_same : is_item_of (mark_at us i kind_column) ≡ false → Counted c xs ys us (i + 1)
    counted_same e = record {
      size = old.size;
      same = old.same;
      kept = λ z. other (λ q. true≢false (sym (ap is_item_of q) ∙ e)) (old.kept z);
    }

    module _ (tol : Float) (fit : FloatsAt ys i) where
      abbrev first : ℕ
      first = modes_in us (mark_at us i a_column)

      abbrev second : ℕ
      second = modes_in us (mark_at us i b_column)

      abbrev share : Counts
      share = share_of tol (modes_in us) (record_item ys us i)

      -- no matchgate
      plain : (mark_at us i kind_column ≢ 5) → Counted (plus_of c share) xs (record_kept ys us i) us (i + 1)
      unfolding two_kept plus_of
      plain n = rw (ne_eqb (mark_at us i kind_column) 5 n) (record {
        size = old.size;
        same = old.same;
        kept = λ z. other n (old.kept (omega (arith, z)));
      })

      module _ (e : mark_at us i kind_column ≡ 5) where
        -- a matchgate whose modes are not neighbours is bad
        apart-bad : beside_of first second ≡ false → share.bad ≡ 1
        unfolding kind_at two_share match_share
        apart-bad b = rw (e, b) refl

        apart-same : beside_of first second ≡ false → record_kept ys us i ≡ ys
        unfolding two_kept match_kept
        apart-same b = rw (e, b) refl

        bad_more : beside_of first second ≡ false → Counted (plus_of c share) xs (record_kept ys us i) us (i + 1)
        unfolding plus_of
        bad_more b = subst (λ l. Counted (plus_of c share) xs l us (i + 1)) (sym (apart-same b)) (record {
          size = old.size;
          same = old.same;
          kept = λ z. absurd (omega (arith, z, apart-bad b));
        })

        -- the others' operations are written
        abbrev op : List Float
        op = match_places first second (matrix4_of ys i)

        abbrev new : List Float
        new = paste ys (kept_place i) op op_places

        beside-written : beside_of first second ≡ true → record_kept ys us i ≡ new
        unfolding two_kept match_kept
        beside-written b = rw (e, b) refl

        outside : (j q : ℕ) → record_at j ≤ q → q < float_place j item_end → (q < kept_place i) ⊎ (kept_place i + op_places ≤ q)
        outside j q lo hi = by (cases_lt q (kept_place i)) (cases_lt i j)
          where
            by : (q < kept_place i) ⊎ (kept_place i ≤ q) → (i < j) ⊎ (j ≤ i) → (q < kept_place i) ⊎ (kept_place i + op_places ≤ q)
            by (inl h) g = inl h
            by (inr h) (inl g) = inr (omega arith)
            by (inr h) (inr g) = absurd (omega arith)

        alike : Alike ys new
        alike j q lo hi = paste-stays (kept_place i) ys op refl (omega arith) q (outside j q lo hi)

        kept_more : Kept ys us i → Kept new us (i + 1)
        kept_more h j l k = by (cases_eq j i)
          where
            by : (j ≡ i) ⊎ (j ≢ i) → take op_places (drop (kept_place j) new)
                ≡ match_places (modes_in us (mark_at us j a_column)) (modes_in us (mark_at us j b_column)) (matrix4_of new j)
            by (inl x) = rw (x, matrix-stays ys new us alike i) (paste-there (kept_place i) ys op refl (omega arith))
            by (inr x) =
                rw (matrix-stays ys new us alike j)
                (window-stays (kept_place j) ys new (paste-size (kept_place i) ys op refl (omega arith)) (omega (arith, x))
                (λ q lo hi. paste-stays (kept_place i) ys op refl (omega arith) q (inl (omega (arith, x))))
                ∙ h j (omega (arith, x)) k)

        good_more : beside_of first second ≡ true → Counted (plus_of c share) xs (record_kept ys us i) us (i + 1)
        unfolding plus_of
        good_more b = subst (λ l. Counted (plus_of c share) xs l us (i + 1)) (sym (beside-written b)) (record {
          size = paste-size (kept_place i) ys op refl (omega arith) ∙ old.size;
          same = λ j q lo hi. alike j q lo hi ∙ old.same j q lo hi;
          kept = λ z. kept_more (old.kept (omega (arith, z)));
        })

      pub counted-more : Counted (plus_of c share) xs (record_kept ys us i) us (i + 1)
      counted-more = by (cases_eq (mark_at us i kind_column) 5)
        where
          either : (mark_at us i kind_column ≡ 5) → (t : Bool) → beside_of first second ≡ t → Counted (plus_of c share) xs (record_kept ys us i) us (i + 1)
          either e true b = good_more e b
          either e false b = bad_more e b

          by : (mark_at us i kind_column ≡ 5) ⊎ (mark_at us i kind_column ≢ 5) → Counted (plus_of c share) xs (record_kept ys us i) us (i + 1)
          by (inl e) = either e (beside_of first second) refl
          by (inr n) = plain n

      -- as a turn of the loop has it
      pub counted-turn : (s c' : Counts) (zs : List Float) → s ≡ share → c' ≡ plus_of c s → zs ≡ record_kept ys us i → Counted c' xs zs us (i + 1)
      counted-turn s c' zs e f g =
          subst (λ l. Counted c' xs l us (i + 1)) (sym g) (subst (λ d. Counted d xs (record_kept ys us i) us (i + 1)) (sym (f ∙ ap (plus_of c) e)) counted-more)
