-- One event dealt with: what the code leaves on each of its ways out is the definition's step. The writes are taken one after the other, each by its law
-- in `States`. Assumes nothing.
use mathlib.Core.Path.{◌≡◌, refl, sym, ap, ap₂, ◌∙◌}
use mathlib.Core.Logic.{◌≢◌}
use mathlib.Core.Bool.{Bool, true, false, cond, ◌||◌, or-false}
use mathlib.Core.List.{List, [], ◌∷◌}
use Prim.Native.Nat.{ℕ, ◌+◌, ◌-◌, ◌<◌}
use native.Mathlib.Nat.{add-zero}
use native.Mathlib.Omega.{arith}
use lib.Dec.{eqb}
use lib.ListN.{length, get_or}
use lib.Ieee.{Float}
use borrow.Author.Tests.{eq-eqb, ne_eqb}
use Rattle.std.specs.Int.{from_bool}
use Rattle.laws.proofs.Views.{get_or-list_of}
use Rattle.gate.specs.Matrix.{mul2_of}
use Rattle.gate.specs.declared.matrix.Mat2.{Mat2}
use Rattle.work.specs.Marks.{mark_at, put_mark}
use Rattle.work.specs.Columns.{kind_column, a_column, b_column, c_column, lab_column, content_column, one_kind, one_item, opaque_item}
use Rattle.fuse.specs.Layout.{matrix2_of, put_matrix2_of, event_at, Within}
use Rattle.work.specs.Lent.{Lent, Space, Whole}
use Rattle.fuse.specs.Lent.{SlotsFrom}
use Rattle.classify.specs.Classify.{residual_of}
use Rattle.resolve.specs.Choose.{Choice}
use Rattle.resolve.specs.declared.settle.Tally.{Tally}
use Rattle.resolve.specs.Items as Items
use Rattle.resolve.specs.Items.{kind_of}
use Rattle.resolve.specs.Resolve.{Resolved, opened, lengthened, promised, emptied, renamed, added, passed, item_of, settled, closed}
use Rattle.resolve.specs.Slots.{rest_at, split_at, kind_mark, item_at, resolved_at, emptied_marks, traded_marks, item_marks, item_floats, Moved, counted}
use Rattle.resolve.specs.Lent.{SettlesTwo}
use Rattle.resolve.proofs.Records.{marks-same, marks-put, floats_same, floats-put2}
use Rattle.resolve.proofs.States.{slot-event, slot-within, emptied-marks, emptied-state, lengthened-state, promised-state, traded-size, traded-lab, traded-event, traded-within, renamed-state, own-added, own-none, own-event, own-within, item-marks, opaque-item, item-floats, block-item}

-- what the state says of a slot
pub split-is : (xs : List Float) (us : List ℕ) (g n i s : ℕ) (t : Tally) → s < n → get_or (resolved_at xs us g n i t).splits s 0 ≡ split_at us g s
unfolding resolved_at
split-is xs us g n i s t l = get_or-list_of n (split_at us g) s 0 l

pub wire-is : (xs : List Float) (us : List ℕ) (g n i s : ℕ) (t : Tally) → s < n → get_or (resolved_at xs us g n i t).content s 0 ≡ mark_at us s content_column
unfolding resolved_at
wire-is xs us g n i s t l = get_or-list_of n (λ s. mark_at us s content_column) s 0 l

module _ (xs : List Float) (us : List ℕ) (g n i : ℕ) (room : Space xs us g n) (h : i < g) (w : Within us i g n) where
  -- ---- a one-qubit gate

  module _ (one : mark_at us i kind_column ≡ one_kind) where
    abbrev s : ℕ
    s = mark_at us i a_column

    abbrev m : Mat2
    m = matrix2_of xs i

    slot : s < n
    slot = w.a i (omega arith) h

    no_item : item_at xs us i ≡ []
    unfolding item_at
    no_item = rw one

    next : (t : Tally) → resolved_at xs us g n (i + 1) t ≡ resolved_at xs us g n i t
    next t = own-none g n i xs xs us us (floats_same i xs) (marks-same i us) h t no_item

    pub pass-longer : (x : Mat2) (t : Tally) → split_at us g s ≡ 0 → x ≡ mul2_of m (opened (rest_at xs us g s))
        → Moved (passed s m) xs (put_matrix2_of xs (g + s) x) us (put_mark us (g + s) kind_column one_item) g n i t t
    pass-longer x t z e =
        let f = floats-put2 (g + s) xs x in
        let o = marks-put (g + s) us us 0 4 (omega arith) (marks-same (g + s) us) in
        let ys = put_matrix2_of xs (g + s) x in
        let vs = put_mark us (g + s) 0 4 in
        let tests : eqb (get_or (resolved_at xs us g n i t).splits s 0) 0 ≡ true = eq-eqb _ _ (split-is xs us g n i s t slot ∙ z) in
        record {
          size = f.size;
          marks = o.size;
          state = lengthened-state xs us g n s (i + 1) t slot (omega arith) (omega (arith, room.floats, slot)) (omega (arith, room.marks, slot)) m x e
              ∙ ap (lengthened s m) (next t) ∙ sym (ap (λ b. cond b (lengthened s m (resolved_at xs us g n i t)) (promised s (get_or (resolved_at xs us g n i t).splits s 0 - 1) (resolved_at xs us g n i t))) tests);
          later = λ j a b. slot-event g n s xs ys us vs f o j b;
          lab = o.lab;
          within = slot-within g n s xs ys us vs f o i (i + 1) (omega arith) w;
        }

    pub pass-taken : (t : Tally) → split_at us g s ≢ 0 → Moved (passed s m) xs xs us (put_mark us (g + s) c_column (split_at us g s - 1)) g n i t t
    pass-taken t z =
        let k = split_at us g s - 1 in
        let f = floats_same (g + s) xs in
        let o = marks-put (g + s) us us 3 k (omega arith) (marks-same (g + s) us) in
        let vs = put_mark us (g + s) 3 k in
        let is = split-is xs us g n i s t slot in
        let tests : eqb (get_or (resolved_at xs us g n i t).splits s 0) 0 ≡ false = ne_eqb _ _ (λ e. z (sym is ∙ e)) in
        record {
          size = refl;
          marks = o.size;
          state = promised-state xs us g n s (i + 1) t slot (omega arith) (omega (arith, room.floats, slot)) (omega (arith, room.marks, slot)) k
              ∙ ap (promised s k) (next t)
              ∙ ap (λ j. promised s (j - 1) (resolved_at xs us g n i t)) (sym is)
              ∙ sym (ap (λ b. cond b (lengthened s m (resolved_at xs us g n i t)) (promised s (get_or (resolved_at xs us g n i t).splits s 0 - 1) (resolved_at xs us g n i t))) tests);
          later = λ j a b. slot-event g n s xs xs us vs f o j b;
          lab = o.lab;
          within = slot-within g n s xs xs us vs f o i (i + 1) (omega arith) w;
        }

  -- ---- a slot emptied, before the event's item

  pub record Emptied (f : Resolved → Resolved) (vs : List ℕ) : Type 0 where
    pub size : length vs ≡ length us
    pub state : (t : Tally) → resolved_at xs vs g n i t ≡ f (resolved_at xs us g n i t)
    pub events : (j : ℕ) → j < g → event_at xs vs j ≡ event_at xs us j
    pub lab : (q : ℕ) → mark_at vs q lab_column ≡ mark_at us q lab_column
    pub within : Within vs i g n

  none-emptied : Emptied (λ r. r) us
  none-emptied = record { size = refl; state = λ t. refl; events = λ j b. refl; lab = λ q. refl; within = w }

  pub more-emptied : (f : Resolved → Resolved) (vs : List ℕ) (s k : ℕ) → s < n → Emptied f vs → Emptied (λ r. emptied s k (f r)) (emptied_marks vs g s k)
  more-emptied f vs s k l e =
      let o = emptied-marks vs g s k in
      let x = floats_same (g + s) xs in
      record {
        size = o.size ∙ e.size;
        state = λ t. emptied-state vs g s k (omega (arith, room.marks, e.size)) xs n i t l (omega arith) ∙ ap (emptied s k) (e.state t);
        events = λ j b. slot-event g n s xs xs vs (emptied_marks vs g s k) x o j b ∙ e.events j b;
        lab = λ q. o.lab q ∙ e.lab q;
        within = slot-within g n s xs xs vs (emptied_marks vs g s k) x o i i (omega arith) e.within;
      }

  -- two slots emptied
  pub two-emptied : (a k b l : ℕ) → a < n → b < n → Emptied (λ r. emptied b l (emptied a k r)) (emptied_marks (emptied_marks us g a k) g b l)
  two-emptied a k b l la lb = more-emptied (λ r. emptied a k r) (emptied_marks us g a k) b l lb (more-emptied (λ r. r) us a k la none-emptied)

  -- ---- an opaque block

  pub closed-moved : (a b c : ℕ) (vs : List ℕ) (t : Tally) → Emptied (λ r. emptied c 0 (emptied b 0 (emptied a 0 r))) vs → Moved (closed a b c) xs xs us (item_marks vs i opaque_item 0 0) g n i t t
  closed-moved a b c vs t e =
      let o = item-marks vs i opaque_item 0 0 in
      let x = floats_same i xs in
      let ws = item_marks vs i opaque_item 0 0 in
      record {
        size = refl;
        marks = o.size ∙ e.size;
        state = own-added g n i xs xs vs ws x o h Items.opaque 0 0 false t t (opaque-item xs vs i 0 0 (omega (arith, room.marks, e.size))) (sym (add-zero t.swaps)) (sym (add-zero t.tried)) (sym (or-false t.angled))
            ∙ ap (added Items.opaque 0 0 false) (e.state t);
        later = λ j p b. own-event g n i xs xs vs ws x o h j p ∙ e.events j b;
        lab = λ q. o.lab q ∙ e.lab q;
        within = own-within g n i xs xs vs ws x o h e.within;
      }

  -- ---- a two-qubit block

  module _ (a b tried : ℕ) (x : Choice) (angled : Bool) (vs : List ℕ) (wa wb : ℕ) (t t' : Tally)
      (e : Emptied (λ r. emptied b x.kb (emptied a x.ka r)) vs)
      (la : a < n) (lb : b < n) (ea : wa ≡ mark_at us a content_column) (eb : wb ≡ mark_at us b content_column)
      (et : t'.tried ≡ t.tried + tried) (en : t'.angled ≡ (t.angled || angled)) where
    abbrev ys : List Float
    ys = item_floats xs i x.class

    abbrev ws : List ℕ
    ws = item_marks vs i (kind_mark (kind_of x.class.kind)) wa wb

    abbrev r : Resolved
    r = resolved_at xs us g n i t

    the-item : item_at ys ws i ≡ item_of a b x r ∷ []
    the-item =
        block-item xs i x.class (omega (arith, room.floats)) vs wa wb (omega (arith, room.marks, e.size))
        ∙ ap₂ (λ p q. Items.two (kind_of x.class.kind) p q (residual_of x.class.kind) x.class.v ∷ []) (ea ∙ sym (wire-is xs us g n i a t la)) (eb ∙ sym (wire-is xs us g n i b t lb))

    with_item : (swaps : ℕ) → t'.swaps ≡ t.swaps + swaps
        → resolved_at ys ws g n (i + 1) t' ≡ added (item_of a b x r) swaps tried angled (emptied b x.kb (emptied a x.ka r))
    with_item swaps es =
        own-added g n i xs ys vs ws (item-floats xs i x.class) (item-marks vs i (kind_mark (kind_of x.class.kind)) wa wb) h (item_of a b x r) swaps tried
        angled t t' the-item es et en
        ∙ ap (added (item_of a b x r) swaps tried angled) (e.state t)

    events : (j : ℕ) → i < j → j < g → event_at ys ws j ≡ event_at xs us j
    events j p b = own-event g n i xs ys vs ws (item-floats xs i x.class) (item-marks vs i (kind_mark (kind_of x.class.kind)) wa wb) h j p ∙ e.events j b

    labs : (q : ℕ) → mark_at ws q lab_column ≡ mark_at us q lab_column
    labs q = (item-marks vs i (kind_mark (kind_of x.class.kind)) wa wb).lab q ∙ e.lab q

    slots : Within ws (i + 1) g n
    slots = own-within g n i xs ys vs ws (item-floats xs i x.class) (item-marks vs i (kind_mark (kind_of x.class.kind)) wa wb) h e.within

    settled_plain : x.class.swap ≡ false → t'.swaps ≡ t.swaps → Moved (settled a b tried x angled) xs ys us ws g n i t t'
    settled_plain p es = record {
      size = (item-floats xs i x.class).size;
      marks = (item-marks vs i (kind_mark (kind_of x.class.kind)) wa wb).size ∙ e.size;
      state = with_item 0 (es ∙ sym (add-zero t.swaps)) ∙ sym (rw p);
      later = events;
      lab = labs;
      within = slots;
    }

    settled-swapped : x.class.swap ≡ true → t'.swaps ≡ t.swaps + 1 → Moved (settled a b tried x angled) xs ys us (traded_marks ws a b) g n i t t'
    settled-swapped p es =
        let size = (item-marks vs i (kind_mark (kind_of x.class.kind)) wa wb).size ∙ e.size in
        record {
          size = (item-floats xs i x.class).size;
          marks = traded-size ws a b ∙ size;
          state = renamed-state ws a b (omega (arith, room.marks, size)) (omega (arith, room.marks, size)) ys g n (i + 1) t' la lb
              ∙ ap (renamed a b) (with_item 1 es) ∙ sym (rw p);
          later = λ j q l. traded-event ws a b ys j ∙ events j q l;
          lab = λ q. traded-lab ws a b q ∙ labs q;
          within = traded-within ws a b (i + 1) g n slots;
        }

-- ---- a two-qubit block of the lent work

module _ (w v : Lent) (i : ℕ) (x : Choice) (whole : Whole w) (h : i < w.gates) (inside : SlotsFrom w i) where
  abbrev a : ℕ
  a = mark_at w.marks i a_column

  abbrev b : ℕ
  b = mark_at w.marks i b_column

  -- what the code leaves in the slots, and in the block's record
  abbrev left : List ℕ
  left = emptied_marks (emptied_marks w.marks w.gates a x.ka) w.gates b x.kb

  abbrev item : List ℕ
  item = item_marks left i (kind_mark (kind_of x.class.kind)) (mark_at w.marks a content_column) (mark_at w.marks b content_column)

  in-a : a < w.slots
  in-a = inside.a i (omega arith) h

  in-b : b < w.slots
  in-b = inside.b i (omega arith) h

  emptied-both : Emptied w.floats w.marks w.gates w.slots i whole h inside (λ r. emptied b x.kb (emptied a x.ka r)) left
  emptied-both = two-emptied w.floats w.marks w.gates w.slots i whole h inside a x.ka b x.kb in-a in-b

  pub settles_plain : x.class.swap ≡ false → v ≡ record { floats = item_floats w.floats i x.class; marks = item; gates = w.gates; slots = w.slots }
      → SettlesTwo x w v i
  settles_plain p e =
      rw e
      (record {
        sizes = record { gates = refl; slots = refl };
        settled = λ tried angled t.
            settled_plain w.floats w.marks w.gates w.slots i whole h inside a b tried x angled left
            (mark_at w.marks a content_column) (mark_at w.marks b content_column) t (counted x.class.swap tried angled t) emptied-both in-a in-b refl refl refl refl p (ap (λ s. t.swaps + from_bool s) p ∙ add-zero t.swaps);
      })

  pub settles-swapped : x.class.swap ≡ true
      → v ≡ record { floats = item_floats w.floats i x.class; marks = traded_marks item a b; gates = w.gates; slots = w.slots } → SettlesTwo x w v i
  settles-swapped p e =
      rw e
      (record {
        sizes = record { gates = refl; slots = refl };
        settled = λ tried angled t.
            settled-swapped w.floats w.marks w.gates w.slots i whole h inside a b tried x angled left
            (mark_at w.marks a content_column) (mark_at w.marks b content_column) t (counted x.class.swap tried angled t) emptied-both in-a in-b refl refl refl refl p (ap (λ s. t.swaps + from_bool s) p);
      })
