-- The item of a record, by its kind; the items of one record more; wires below n, item by item. Assumes nothing.
use mathlib.Core.Path.{◌≡◌, refl, sym, ap, ◌∙◌}
use mathlib.Core.Logic.{◌⊎◌, inl, inr, ◌≢◌}
use mathlib.Core.Bool.{Bool, true, false, cond, true≢false}
use mathlib.Core.List.{List, [], ◌∷◌, ◌++◌}
use Prim.Native.Nat.{ℕ, zero, suc, ◌+◌, ◌≤◌, ◌<◌}
use native.Mathlib.Numerals.{add-one}
use native.Mathlib.Omega.{arith}
use lib.Dec.{eqb}
use lib.ListN.{length}
use lib.Ieee.{Float}
use borrow.Author.Tests.{ne_eqb, le-leb, lt-leb}
use Rattle.std.proofs.lemmas.Bool.{cases_lt, cases_eq}
use Rattle.work.specs.Kinds.{kind_number, is_item_of}
use Rattle.work.specs.declared.kinds.Kind.{Kind}
use Rattle.gate.specs.declared.matrix.Mat2.{Mat2}
use Rattle.work.specs.Marks.{mark_at}
use Rattle.work.specs.Columns.{kind_column, a_column, b_column, one_item, match_item, neither_item, opaque_item}
use Rattle.fuse.specs.Layout.{matrix2_of, matrix4_of}
use Rattle.resolve.specs.Items as Items
use Rattle.resolve.specs.Items.{Item, newest_first, ItemBelow, ItemsBelow}
use Rattle.resolve.specs.Slots.{kind_at, item, item_at, residual_at}
use Rattle.detect.specs.Records.{item_by, record_item, items_in}

-- ---- kinds

-- no matchgate, no diagonal block and no interaction
pub neither : (k : Kind) → k ≢ Kind.MatchItem → k ≢ Kind.DiagonalItem → k ≢ Kind.InteractionItem
    → (kind_at (kind_number k) ≡ Items.neither) × (eqb (kind_number k) match_item ≡ false)
unfolding kind_at
neither Kind.Gone a b c = (refl, refl)
neither Kind.One a b c = (refl, refl)
neither Kind.Two a b c = (refl, refl)
neither Kind.Three a b c = (refl, refl)
neither Kind.OneItem a b c = (refl, refl)
neither Kind.MatchItem a b c = absurd (a refl)
neither Kind.DiagonalItem a b c = absurd (b refl)
neither Kind.InteractionItem a b c = absurd (c refl)
neither Kind.NeitherItem a b c = (refl, refl)
neither Kind.OpaqueItem a b c = (refl, refl)

-- ---- by kind

abbrev Says : ℕ → ℕ → ℕ → Mat2 → Item → Type 0
Says k a b m x = item k a b m x ≡ cond (is_item_of k) (item_by k (Items.one a m) x ∷ []) []

kind-item : (k a b : ℕ) (m : Mat2) (x : Item) → Says k a b m x
kind-item k a b m x = go (cases_lt k one_item) (cases_lt opaque_item k)
  where
    inside : (one_item ≤ k) → (k ≤ opaque_item) → (k ≡ one_item) ⊎ (k ≢ one_item) → (k ≡ opaque_item) ⊎ (k ≢ opaque_item) → Says k a b m x
    inside l h (inl e) q = rw e refl
    inside l h (inr ne) (inl e) = rw e refl
    inside l h (inr ne) (inr nf) =
        let lo : match_item ≤ k = omega (arith, ne) in
        let hi : k ≤ neither_item = omega (arith, nf) in
        rw (ne_eqb k one_item ne, ne_eqb k opaque_item nf, le-leb match_item k lo, le-leb k neither_item hi, le-leb one_item k l, le-leb k opaque_item h)

    go : (k < one_item) ⊎ (one_item ≤ k) → (opaque_item < k) ⊎ (k ≤ opaque_item) → Says k a b m x
    go (inl h) q =
        let not-one : k ≢ one_item = λ e. omega arith in
        let not-opaque : k ≢ opaque_item = λ e. omega arith in
        rw (ne_eqb k one_item not-one, ne_eqb k opaque_item not-opaque, lt-leb match_item k (omega arith), lt-leb one_item k h)
    go (inr l) (inl h) =
        let not-one : k ≢ one_item = λ e. omega arith in
        let not-opaque : k ≢ opaque_item = λ e. omega arith in
        rw (
          ne_eqb k one_item not-one,
          ne_eqb k opaque_item not-opaque,
          le-leb match_item k (omega arith),
          lt-leb k neither_item (omega arith),
          le-leb one_item k l,
          lt-leb k opaque_item h,
        )
    go (inr l) (inr h) = inside l h (cases_eq k one_item) (cases_eq k opaque_item)

module _ (xs : List Float) (us : List ℕ) where
  record-items : (i : ℕ) → item_at xs us i ≡ cond (is_item_of (mark_at us i kind_column)) (record_item xs us i ∷ []) []
  unfolding item_at
  record-items i =
      kind-item (mark_at us i kind_column) (mark_at us i a_column) (mark_at us i b_column) (matrix2_of xs i)
      (Items.two (kind_at (mark_at us i kind_column)) (mark_at us i a_column) (mark_at us i b_column) (residual_at xs i) (matrix4_of xs i))

  -- ---- one record more

  more : (i : ℕ) (b : Bool) → is_item_of (mark_at us i kind_column) ≡ b → items_in xs us (i + 1) ≡ cond b (record_item xs us i ∷ []) [] ++ items_in xs us i
  unfolding newest_first
  more i b e = rw (add-one i, record-items i, e)

  pub items_more : (i : ℕ) → is_item_of (mark_at us i kind_column) ≡ true → items_in xs us (i + 1) ≡ record_item xs us i ∷ items_in xs us i
  items_more i e = more i true e

  pub items-same : (i : ℕ) → is_item_of (mark_at us i kind_column) ≡ false → items_in xs us (i + 1) ≡ items_in xs us i
  items-same i e = more i false e

  pub items-none : items_in xs us 0 ≡ []
  unfolding newest_first
  items-none = refl

  pub items-few : (m : ℕ) → length (items_in xs us m) ≤ m
  unfolding newest_first
  items-few zero = omega arith
  items-few (suc m) = rw (record-items m) (go (is_item_of (mark_at us m kind_column)) (items-few m))
    where
      go : (b : Bool) → length (newest_first (item_at xs us) m) ≤ m → length (cond b (record_item xs us m ∷ []) [] ++ newest_first (item_at xs us) m) ≤ suc m
      go true h = omega (arith, h)
      go false h = omega (arith, h)

  -- ---- wires

  pub below_at : (n m i : ℕ) → ItemsBelow n (items_in xs us m) → i < m → is_item_of (mark_at us i kind_column) ≡ true → ItemBelow n (record_item xs us i)
  unfolding newest_first
  below_at n zero i b h e = absurd (omega arith)
  below_at n (suc m) i b h e = go (is_item_of (mark_at us m kind_column)) refl (cases_eq i m) (rw (record-items m) at b) (λ s l. below_at n m i s l e)
    where
      go : (t : Bool) → is_item_of (mark_at us m kind_column) ≡ t → (i ≡ m) ⊎ (i ≢ m)
          → ItemsBelow n (cond t (record_item xs us m ∷ []) [] ++ newest_first (item_at xs us) m)
          → (ItemsBelow n (newest_first (item_at xs us) m) → i < m → ItemBelow n (record_item xs us i)) → ItemBelow n (record_item xs us i)
      go true q (inl x) s ih = rw x s.0
      go true q (inr x) s ih = ih s.1 (omega (arith, x))
      go false q (inl x) s ih = absurd (true≢false (sym e ∙ ap (λ j. is_item_of (mark_at us j kind_column)) x ∙ q))
      go false q (inr x) s ih = ih s (omega (arith, x))

  -- ---- the item, given the kind

  pub record-one : (i : ℕ) → mark_at us i kind_column ≡ one_item → record_item xs us i ≡ Items.one (mark_at us i a_column) (matrix2_of xs i)
  record-one i e = rw e refl

  pub record-opaque : (i : ℕ) → mark_at us i kind_column ≡ opaque_item → record_item xs us i ≡ Items.opaque
  record-opaque i e = rw e refl

  pub record-two : (i : ℕ) → mark_at us i kind_column ≢ one_item → mark_at us i kind_column ≢ opaque_item
      → record_item xs us i
      ≡ Items.two (kind_at (mark_at us i kind_column)) (mark_at us i a_column) (mark_at us i b_column) (residual_at xs i) (matrix4_of xs i)
  record-two i a b = rw (ne_eqb (mark_at us i kind_column) one_item a, ne_eqb (mark_at us i kind_column) opaque_item b)

  pub wires-below : (n i : ℕ) → mark_at us i kind_column ≢ one_item → mark_at us i kind_column ≢ opaque_item → ItemBelow n (record_item xs us i)
      → (mark_at us i a_column < n) × (mark_at us i b_column < n)
  wires-below n i a b h = rw (record-two i a b) at h

  pub wire-below : (n i : ℕ) → mark_at us i kind_column ≢ opaque_item → ItemBelow n (record_item xs us i) → mark_at us i a_column < n
  wire-below n i b h = go (cases_eq (mark_at us i kind_column) one_item)
    where
      go : (mark_at us i kind_column ≡ one_item) ⊎ (mark_at us i kind_column ≢ one_item) → mark_at us i a_column < n
      go (inl e) = rw (record-one i e) at h
      go (inr a) = (wires-below n i a b h).0
