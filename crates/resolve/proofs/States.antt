-- What each write of the code makes of the state: a slot emptied, lengthened or promised, wires renamed, an item added, scratch written.
-- A state is a list for each of its parts; what stays is by `Records`. Assumes nothing.
use mathlib.Core.Path.{◌≡◌, refl, sym, ap, ap₂, ◌∙◌}
use mathlib.Core.Logic.{inl, ⊎_elim, ◌≢◌}
use mathlib.Core.Bool.{Bool, ◌||◌}
use mathlib.Core.List.{List, [], ◌∷◌, ◌++◌}
use Prim.Native.Nat.{ℕ, ◌+◌, ◌-◌, ◌≤◌, ◌<◌}
use native.Mathlib.Omega.{arith}
use lib.ListN.{length, get_or, set}
use lib.Seq.{get_or-set_same, get_or-set_other}
use lib.Ieee.{Float, nan}
use Rattle.work.specs.Marks.{exchanged_marks}
use Rattle.laws.specs.Views.{list_of}
use Rattle.std.proofs.lemmas.Bool.{cases_eq}
use Rattle.laws.proofs.Views.{get_or-list_of}
use Rattle.gate.specs.Matrix.{mul2_of}
use Rattle.gate.specs.declared.matrix.Mat2.{Mat2}
use Rattle.gate.proofs.Stored.{mat2-back, length4, mat4-back, mat4-alike}
use Rattle.work.specs.Sizes.{record_marks}
use Rattle.work.specs.Rows.{record_at, float_place, FloatsAt, residual_place, item_end}
use Rattle.work.specs.Marks.{mark_at, put_mark, MarksAt}
use Rattle.work.specs.Columns.{kind_column, a_column, b_column, c_column, lab_column, content_column, gone_kind, one_item, opaque_item}
use Rattle.work.proofs.Records.{put-size, put-here, put-column, put_record}
use Rattle.fuse.specs.Layout.{matrix2_of, matrix4_of, put_matrix2_of, put_matrix4_of, event_at, Within}
use Rattle.fuse.proofs.Places.{event-alike}
use Rattle.fuse.proofs.Listed.{listed_same, listed-set, listed-traded}
use Rattle.classify.specs.Classify.{residual_of}
use Rattle.classify.specs.declared.classify.Class2.{Class2}
use Rattle.classify.specs.declared.classify.Kind2.{Kind2}
use Rattle.classify.specs.declared.classify.Kind2.TheVariants.{Diag, Interaction, Match, NonGaussian}
use Rattle.resolve.specs.declared.settle.Tally.{Tally}
use Rattle.resolve.specs.Items as Items
use Rattle.resolve.specs.Items.{Item, ItemKind, matchgate, phaseless, interacting, neither, kind_of, newest_first}
use Rattle.resolve.specs.Resolve.{Rest, none, rest, opened, longer, lengthened, promised, emptied, renamed, added}
use Rattle.resolve.specs.Slots.{rest_at, split_at, kind_mark, kind_at, residual_at, item, item_at, resolved_at}
use Rattle.resolve.specs.Slots.{emptied_marks, traded_marks, item_marks, item_floats, RowOnly}
use Rattle.resolve.proofs.Records.{newest-same, newest-more, MarksOf, FloatsOf, marks-same, marks-put, floats_same, floats-put2, floats-put4, floats-set, item-alike, rest-alike, other-event, other_item, other-rest, other-split, other-within}

-- ---- a remainder that is written is read back

rest_back : (xs : List Float) (us : List ℕ) (g s : ℕ) (x : Mat2) → FloatsAt xs (g + s) → MarksAt us (g + s)
    → rest_at (put_matrix2_of xs (g + s) x) (put_mark us (g + s) kind_column one_item) g s ≡ rest x
unfolding rest_at
rest_back xs us g s x floats marks = rw (put-here us (g + s) 0 4 (omega arith), mat2-back xs (record_at (g + s)) x (omega arith))

-- ---- a record of a slot

module _ (g n s : ℕ) (xs ys : List Float) (us vs : List ℕ) (f : FloatsOf (g + s) xs ys) (m : MarksOf (g + s) us vs) where
  slot-items : (i : ℕ) → i ≤ g → newest_first (item_at ys vs) i ≡ newest_first (item_at xs us) i
  slot-items i h = newest-same (item_at xs us) (item_at ys vs) i (λ j l. other_item (g + s) xs ys us vs f m j (λ e. omega arith))

  slot-content : list_of n (λ s. mark_at vs s content_column) ≡ list_of n (λ s. mark_at us s content_column)
  slot-content = listed_same 0 n (λ s. mark_at us s content_column) (λ s. mark_at vs s content_column) (λ x l. m.wire x)

  slot-rests : (r : Rest) → s < n → rest_at ys vs g s ≡ r → list_of n (rest_at ys vs g) ≡ set (list_of n (rest_at xs us g)) s r
  slot-rests r l e = listed-set none n (rest_at xs us g) (rest_at ys vs g) s r l e (λ x ne b. other-rest (g + s) xs ys us vs f m g x (λ z. ne (omega arith)))

  slot-splits : (k : ℕ) → s < n → split_at vs g s ≡ k → list_of n (split_at vs g) ≡ set (list_of n (split_at us g)) s k
  slot-splits k l e = listed-set 0 n (split_at us g) (split_at vs g) s k l e (λ x ne b. other-split (g + s) xs ys us vs f m g x (λ z. ne (omega arith)))

  slot-splits-kept : split_at vs g s ≡ split_at us g s → list_of n (split_at vs g) ≡ list_of n (split_at us g)
  slot-splits-kept e =
      listed_same 0 n (split_at us g) (split_at vs g)
      (λ x b. ⊎_elim (λ p. ap (split_at vs g) p ∙ e ∙ ap (split_at us g) (sym p)) (λ ne. other-split (g + s) xs ys us vs f m g x (λ z. ne (omega arith))) (cases_eq x s))

  slot-rests-kept : rest_at ys vs g s ≡ rest_at xs us g s → list_of n (rest_at ys vs g) ≡ list_of n (rest_at xs us g)
  slot-rests-kept e =
      listed_same none n (rest_at xs us g) (rest_at ys vs g)
      (λ x b. ⊎_elim (λ p. ap (rest_at ys vs g) p ∙ e ∙ ap (rest_at xs us g) (sym p)) (λ ne. other-rest (g + s) xs ys us vs f m g x (λ z. ne (omega arith))) (cases_eq x s))

  pub slot-event : (j : ℕ) → j < g → event_at ys vs j ≡ event_at xs us j
  slot-event j l = other-event (g + s) xs ys us vs f m j (λ e. omega arith)

  pub slot-within : (i k : ℕ) → i ≤ k → Within us i g n → Within vs k g n
  slot-within i k h w = other-within (g + s) xs ys us vs f m i k g n h (λ j l b e. omega arith) w

-- ---- a slot emptied

module _ (us : List ℕ) (g s k : ℕ) where
  pub emptied-marks : MarksOf (g + s) us (emptied_marks us g s k)
  unfolding emptied_marks
  emptied-marks = marks-put (g + s) us (put_mark us (g + s) 0 0) 3 k (omega arith) (marks-put (g + s) us us 0 0 (omega arith) (marks-same (g + s) us))

  module _ (room : MarksAt us (g + s)) where
    pub emptied-kind : mark_at (emptied_marks us g s k) (g + s) kind_column ≡ gone_kind
    unfolding emptied_marks
    emptied-kind = put-column (put_mark us (g + s) 0 0) (g + s) 3 k (g + s) 0 (omega arith) (omega arith) (λ e. omega arith) ∙ put-here us (g + s) 0 0 (omega arith)

    emptied-rest : (xs : List Float) → rest_at xs (emptied_marks us g s k) g s ≡ none
    unfolding rest_at
    emptied-rest xs = rw emptied-kind

    pub emptied-split : split_at (emptied_marks us g s k) g s ≡ k
    unfolding emptied_marks
    emptied-split = put-here (put_mark us (g + s) 0 0) (g + s) 3 k (omega (arith, put-size us (g + s) 0 0))

    pub emptied-state : (xs : List Float) (n i : ℕ) (t : Tally) → s < n → i ≤ g
        → resolved_at xs (emptied_marks us g s k) g n i t ≡ emptied s k (resolved_at xs us g n i t)
    unfolding resolved_at
    emptied-state xs n i t l h =
        let f = floats_same (g + s) xs in
        λ z. record {
          rests = slot-rests g n s xs xs us (emptied_marks us g s k) f emptied-marks none l (emptied-rest xs) z;
          splits = slot-splits g n s xs xs us (emptied_marks us g s k) f emptied-marks k l emptied-split z;
          content = slot-content g n s xs xs us (emptied_marks us g s k) f emptied-marks z;
          items = slot-items g n s xs xs us (emptied_marks us g s k) f emptied-marks i h z;
          swaps = t.swaps;
          tried = t.tried;
          angled = t.angled;
        }

-- ---- a slot lengthened, and a promise counted down

module _ (xs : List Float) (us : List ℕ) (g n s i : ℕ) (t : Tally) (l : s < n) (h : i ≤ g) (floats : FloatsAt xs (g + s)) (marks : MarksAt us (g + s)) where
  pub lengthened-state : (m x : Mat2) → x ≡ mul2_of m (opened (rest_at xs us g s))
      → resolved_at (put_matrix2_of xs (g + s) x) (put_mark us (g + s) kind_column one_item) g n i t ≡ lengthened s m (resolved_at xs us g n i t)
  unfolding resolved_at
  lengthened-state m x e =
      let ys = put_matrix2_of xs (g + s) x in
      let vs = put_mark us (g + s) kind_column one_item in
      let f = floats-put2 (g + s) xs x in
      let o = marks-put (g + s) us us 0 4 (omega arith) (marks-same (g + s) us) in
      let was : get_or (list_of n (rest_at xs us g)) s none ≡ rest_at xs us g s = get_or-list_of n (rest_at xs us g) s none l in
      λ z. record {
        rests = slot-rests g n s xs ys us vs f o (longer m (get_or (list_of n (rest_at xs us g)) s none)) l (put_rest x ∙ ap rest (e ∙ sym (ap (λ r. mul2_of m (opened r)) was))) z;
        splits = slot-splits-kept g n s xs ys us vs f o (put-column us (g + s) 0 4 (g + s) 3 (omega arith) (omega arith) (λ e. omega arith)) z;
        content = slot-content g n s xs ys us vs f o z;
        items = slot-items g n s xs ys us vs f o i h z;
        swaps = t.swaps;
        tried = t.tried;
        angled = t.angled;
      }
    where
      put_rest : (x : Mat2) → rest_at (put_matrix2_of xs (g + s) x) (put_mark us (g + s) kind_column one_item) g s ≡ rest x
      put_rest x = rest_back xs us g s x floats marks

  pub promised-state : (k : ℕ) → resolved_at xs (put_mark us (g + s) c_column k) g n i t ≡ promised s k (resolved_at xs us g n i t)
  unfolding resolved_at
  promised-state k =
      let vs = put_mark us (g + s) c_column k in
      let f = floats_same (g + s) xs in
      let o = marks-put (g + s) us us 3 k (omega arith) (marks-same (g + s) us) in
      λ z. record {
        rests = slot-rests-kept g n s xs xs us vs f o (rest-alike xs xs us vs g s (put-column us (g + s) 3 k (g + s) 0 (omega arith) (omega arith) (λ e. omega arith)) (λ q a b. refl)) z;
        splits = slot-splits g n s xs xs us vs f o k l (put-here us (g + s) 3 k (omega arith)) z;
        content = slot-content g n s xs xs us vs f o z;
        items = slot-items g n s xs xs us vs f o i h z;
        swaps = t.swaps;
        tried = t.tried;
        angled = t.angled;
      }

-- ---- wires renamed

module _ (us : List ℕ) (a b : ℕ) where
  pub traded-size : length (traded_marks us a b) ≡ length us
  unfolding exchanged_marks
  traded-size = put-size (put_mark us a 5 (mark_at us b 5)) b 5 (mark_at us a 5) ∙ put-size us a 5 (mark_at us b 5)

  -- another column
  traded-column : (j d : ℕ) → d < record_marks → d ≢ content_column → mark_at (traded_marks us a b) j d ≡ mark_at us j d
  unfolding exchanged_marks
  traded-column j d h ne =
      put-column (put_mark us a 5 (mark_at us b 5)) b 5 (mark_at us a 5) j d (omega arith) h (λ e. ne (sym e))
      ∙ put-column us a 5 (mark_at us b 5) j d (omega arith) h (λ e. ne (sym e))

  pub traded-lab : (j : ℕ) → mark_at (traded_marks us a b) j lab_column ≡ mark_at us j lab_column
  traded-lab j = traded-column j 4 (omega arith) (λ e. omega arith)

  pub traded-event : (xs : List Float) (j : ℕ) → event_at xs (traded_marks us a b) j ≡ event_at xs us j
  traded-event xs j =
      event-alike xs xs us (traded_marks us a b) j (traded-column j 0 (omega arith) (λ e. omega arith)) (traded-column j 1 (omega arith) (λ e. omega arith))
      (traded-column j 2 (omega arith) (λ e. omega arith)) (traded-column j 3 (omega arith) (λ e. omega arith)) (λ q x y. refl)

  pub traded-within : (i g n : ℕ) → Within us i g n → Within (traded_marks us a b) i g n
  traded-within i g n w = record {
    a = λ j l b. rw (traded-column j 1 (omega arith) (λ e. omega arith)) (w.a j l b);
    b = λ j l b. rw (traded-column j 2 (omega arith) (λ e. omega arith)) (w.b j l b);
    c = λ j l b. rw (traded-column j 3 (omega arith) (λ e. omega arith)) (w.c j l b);
  }

  module _ (ra : MarksAt us a) (rb : MarksAt us b) where
    abbrev wire : ℕ → ℕ
    wire j = mark_at (traded_marks us a b) j content_column

    wire-b : wire b ≡ mark_at us a content_column
    unfolding exchanged_marks
    wire-b = put-here (put_mark us a 5 (mark_at us b 5)) b 5 (mark_at us a 5) (omega (arith, put-size us a 5 (mark_at us b 5)))

    wire-a : wire a ≡ mark_at us b content_column
    unfolding exchanged_marks
    wire-a = ⊎_elim (λ e. ap wire e ∙ wire-b ∙ ap (λ j. mark_at us j content_column) e) (λ ne. put_record (put_mark us a 5 (mark_at us b 5)) b 5 (mark_at us a 5) a ne ∙ put-here us a 5 (mark_at us b 5) (omega arith)) (cases_eq a b)

    wire-other : (j : ℕ) → j ≢ a → j ≢ b → wire j ≡ mark_at us j content_column
    unfolding exchanged_marks
    wire-other j na nb = put_record (put_mark us a 5 (mark_at us b 5)) b 5 (mark_at us a 5) j nb ∙ put_record us a 5 (mark_at us b 5) j na

    pub renamed-state : (xs : List Float) (g n i : ℕ) (t : Tally) → a < n → b < n → resolved_at xs (traded_marks us a b) g n i t ≡ renamed a b (resolved_at xs us g n i t)
    unfolding resolved_at
    renamed-state xs g n i t la lb =
        let vs = traded_marks us a b in
        λ z. record {
          rests = listed_same none n (rest_at xs us g) (rest_at xs vs g) (λ s l. rest-alike xs xs us vs g s (traded-column (g + s) 0 (omega arith) (λ e. omega arith)) (λ q x y. refl)) z;
          splits = listed_same 0 n (split_at us g) (split_at vs g) (λ s l. traded-column (g + s) 3 (omega arith) (λ e. omega arith)) z;
          content = listed-traded 0 n (λ s. mark_at us s content_column) wire a b la lb wire-a wire-b (λ x na nb l. wire-other x na nb) z;
          items = newest-same (item_at xs us) (item_at xs vs) i (λ j l.
              item-alike xs xs us vs j (traded-column j 0 (omega arith) (λ e. omega arith)) (traded-column j 1 (omega arith) (λ e. omega arith)) (traded-column j 2 (omega arith) (λ e. omega arith)) (λ q x y. refl)) z;
          swaps = t.swaps;
          tried = t.tried;
          angled = t.angled;
        }

-- ---- the record of the event in hand

module _ (g n i : ℕ) (xs ys : List Float) (us vs : List ℕ) (f : FloatsOf i xs ys) (m : MarksOf i us vs) (h : i < g) where
  -- all of the state but the item
  parts : (new : List Item) (swaps tried : ℕ) (angled : Bool) (t t' : Tally) → item_at ys vs i ≡ new → t'.swaps ≡ swaps → t'.tried ≡ tried → t'.angled ≡ angled
      → resolved_at ys vs g n (i + 1) t'
      ≡ record {
        rests = (resolved_at xs us g n i t).rests;
        splits = (resolved_at xs us g n i t).splits;
        content = (resolved_at xs us g n i t).content;
        items = new ++ (resolved_at xs us g n i t).items;
        swaps = swaps;
        tried = tried;
        angled = angled;
      }
  unfolding resolved_at
  parts new swaps tried angled t t' e es et ea = λ z. record {
    rests = listed_same none n (rest_at xs us g) (rest_at ys vs g) (λ s l. other-rest i xs ys us vs f m g s (λ e. omega arith)) z;
    splits = listed_same 0 n (split_at us g) (split_at vs g) (λ s l. other-split i xs ys us vs f m g s (λ e. omega arith)) z;
    content = listed_same 0 n (λ s. mark_at us s content_column) (λ s. mark_at vs s content_column) (λ s l. m.wire s) z;
    items = (newest-more (item_at ys vs) i ∙ ap₂ ◌++◌ e (newest-same (item_at xs us) (item_at ys vs) i (λ j l. other_item i xs ys us vs f m j (λ e. omega arith)))) z;
    swaps = es z;
    tried = et z;
    angled = ea z;
  }

  -- the event has left an item, and its part of the counts
  pub own-added : (x : Item) (swaps tried : ℕ) (angled : Bool) (t t' : Tally) → item_at ys vs i ≡ x ∷ [] → t'.swaps ≡ t.swaps + swaps → t'.tried ≡ t.tried + tried
      → t'.angled ≡ (t.angled || angled) → resolved_at ys vs g n (i + 1) t' ≡ added x swaps tried angled (resolved_at xs us g n i t)
  unfolding resolved_at
  own-added x swaps tried angled t t' e es et ea = parts (x ∷ []) (t.swaps + swaps) (t.tried + tried) (t.angled || angled) t t' e es et ea

  -- it has left none
  pub own-none : (t : Tally) → item_at ys vs i ≡ [] → resolved_at ys vs g n (i + 1) t ≡ resolved_at xs us g n i t
  unfolding resolved_at
  own-none t e = parts [] t.swaps t.tried t.angled t t e refl refl refl

  pub own-event : (j : ℕ) → i < j → event_at ys vs j ≡ event_at xs us j
  own-event j l = other-event i xs ys us vs f m j (λ e. omega arith)

  pub own-within : Within us i g n → Within vs (i + 1) g n
  own-within w = other-within i xs ys us vs f m i (i + 1) g n (omega arith) (λ j l b e. omega arith) w

-- ---- the item of a block

module _ (us : List ℕ) (i k a b : ℕ) where
  pub item-marks : MarksOf i us (item_marks us i k a b)
  unfolding item_marks
  item-marks =
      marks-put i us (put_mark (put_mark us i 0 k) i 1 a) 2 b (omega arith)
      (marks-put i us (put_mark us i 0 k) 1 a (omega arith) (marks-put i us us 0 k (omega arith) (marks-same i us)))

  module _ (room : MarksAt us i) where
    item-kind : mark_at (item_marks us i k a b) i kind_column ≡ k
    unfolding item_marks
    item-kind =
        put-column (put_mark (put_mark us i 0 k) i 1 a) i 2 b i 0 (omega arith) (omega arith) (λ e. omega arith)
        ∙ put-column (put_mark us i 0 k) i 1 a i 0 (omega arith) (omega arith) (λ e. omega arith) ∙ put-here us i 0 k (omega arith)

    item-a : mark_at (item_marks us i k a b) i a_column ≡ a
    unfolding item_marks
    item-a =
        put-column (put_mark (put_mark us i 0 k) i 1 a) i 2 b i 1 (omega arith) (omega arith) (λ e. omega arith)
        ∙ put-here (put_mark us i 0 k) i 1 a (omega (arith, put-size us i 0 k))

    item-b : mark_at (item_marks us i k a b) i b_column ≡ b
    unfolding item_marks
    item-b = put-here (put_mark (put_mark us i 0 k) i 1 a) i 2 b (omega (arith, put-size (put_mark us i 0 k) i 1 a, put-size us i 0 k))

-- the mark of a kind stands for it
mark-kind : (k : ItemKind) → kind_at (kind_mark k) ≡ k
unfolding kind_at
mark-kind matchgate = refl
mark-kind phaseless = refl
mark-kind interacting = refl
mark-kind neither = refl

pub opaque-item : (xs : List Float) (us : List ℕ) (i a b : ℕ) → MarksAt us i → item_at xs (item_marks us i opaque_item a b) i ≡ Items.opaque ∷ []
unfolding item_at
opaque-item xs us i a b room = rw (item-kind us i 9 a b room)

module _ (xs : List Float) (i : ℕ) (c : Class2) where
  pub item-floats : FloatsOf i xs (item_floats xs i c)
  unfolding item_floats
  item-floats = floats-set i xs (put_matrix4_of xs i c.v) residual_place (residual_of c.kind) (omega arith) (floats-put4 i xs c.v)

  module _ (room : FloatsAt xs i) where
    item-residual : residual_at (item_floats xs i c) i ≡ residual_of c.kind
    unfolding item_floats
    item-residual = get_or-set_same (put_matrix4_of xs i c.v) (float_place i residual_place) (residual_of c.kind) nan
        (omega (arith, length4 xs (record_at i) c.v))

    item-matrix : matrix4_of (item_floats xs i c) i ≡ c.v
    unfolding item_floats
    item-matrix =
        mat4-alike (put_matrix4_of xs i c.v) (set (put_matrix4_of xs i c.v) (float_place i residual_place) (residual_of c.kind)) (record_at i)
        (λ q a b. get_or-set_other (put_matrix4_of xs i c.v) (float_place i residual_place) q (residual_of c.kind) nan (λ e. omega arith))
        ∙ mat4-back xs (record_at i) c.v (omega arith)

    pub block-item : (us : List ℕ) (a b : ℕ) → MarksAt us i
        → item_at (item_floats xs i c) (item_marks us i (kind_mark (kind_of c.kind)) a b) i
        ≡ Items.two (kind_of c.kind) a b (residual_of c.kind) c.v ∷ []
    unfolding item_at
    block-item us a b marks =
        let k = kind_mark (kind_of c.kind) in
        rw (item-kind us i k a b marks, item-a us i k a b marks, item-b us i k a b marks, item-residual, item-matrix, mark-kind (kind_of c.kind))
        (by c.kind (matrix2_of (item_floats xs i c) i) (Items.two (kind_of c.kind) a b (residual_of c.kind) c.v))
      where
        by : (k : Kind2) (m : Mat2) (x : Item) → item (kind_mark (kind_of k)) a b m x ≡ x ∷ []
        by Diag m x = refl
        by Interaction m x = refl
        by (Match r) m x = refl
        by (NonGaussian r) m x = refl

-- ---- scratch

pub scratch-state : (row : ℕ) (xs ys : List Float) (us : List ℕ) (g n i : ℕ) (t : Tally)
    → item_end ≤ row → RowOnly row xs ys → resolved_at ys us g n i t ≡ resolved_at xs us g n i t
unfolding resolved_at
scratch-state row xs ys us g n i t h o = λ z. record {
  rests = listed_same none n (rest_at xs us g) (rest_at ys us g) (λ s l. rest-alike xs ys us us g s refl (λ q a b. at (g + s) q a (omega arith))) z;
  splits = list_of n (split_at us g);
  content = list_of n (λ s. mark_at us s content_column);
  items = newest-same (item_at xs us) (item_at ys us) i (λ j l. item-alike xs ys us us j refl refl refl (λ q a b. at j q a b)) z;
  swaps = t.swaps;
  tried = t.tried;
  angled = t.angled;
}
  where
    at : (j q : ℕ) → record_at j ≤ q → q < float_place j item_end → get_or ys q nan ≡ get_or xs q nan
    at j q a b =
        let e : q ≡ record_at j + (q - record_at j) = omega arith in
        ap (λ p. get_or ys p nan) e ∙ o.same j (q - record_at j) (omega arith) (inl (omega arith)) ∙ ap (λ p. get_or xs p nan) (sym e)
