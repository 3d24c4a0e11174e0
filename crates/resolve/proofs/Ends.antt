-- The slots before the first event and after the last: what the loops over them have made of the first s slots. Assumes nothing.
use mathlib.Core.Path.{◌≡◌, refl, sym, ap, ap₂, ◌∙◌}
use mathlib.Core.Logic.{◌≢◌}
use mathlib.Core.Bool.{false}
use mathlib.Core.List.{List, [], ◌++◌}
use Prim.Native.Nat.{ℕ, zero, suc, ◌+◌, ◌≤◌, ◌<◌}
use native.Mathlib.Nat.{add-zero, add-suc}
use native.Mathlib.Omega.{arith}
use native.Mathlib.Numerals.{add-one}
use lib.ListN.{length, get_or}
use lib.Ieee.{Float}
use borrow.Author.Count.{below_more}
use borrow.Author.Tests.{ne_eqb}
use Rattle.laws.proofs.Views.{get_or-list_of}
use Rattle.work.specs.Sizes.{record_marks}
use Rattle.work.specs.Marks.{mark_at, put_mark, MarksAt}
use Rattle.work.specs.Columns.{kind_column, a_column, c_column, lab_column, content_column, gone_kind, one_item}
use Rattle.work.proofs.Records.{put-size, put-here, put-column, put_record}
use Rattle.fuse.proofs.Places.{event-alike}
use Rattle.fuse.proofs.Listed.{listed_same}
use Rattle.resolve.specs.declared.settle.Tally.{Tally}
use Rattle.resolve.specs.Items.{newest_first}
use Rattle.resolve.specs.Resolve.{none, Resolved, rest_item, with_rests, start_of}
use Rattle.resolve.specs.Slots.{rest_at, split_at, item_at, resolved_at, emptied_marks, Begun, Finished}
use Rattle.resolve.proofs.Records.{newest-same, newest-more, MarksOf, marks-same, marks-put, item-alike}
use Rattle.resolve.proofs.States.{emptied-marks, emptied-kind, emptied-split}

-- ---- before the first event

pub record Beginning (us vs : List ℕ) (g s : ℕ) : Type 0 where
  pub size : length vs ≡ length us
  pub kinds : (x : ℕ) → x < s → mark_at vs (g + x) kind_column ≡ gone_kind
  pub splits : (x : ℕ) → x < s → mark_at vs (g + x) c_column ≡ 0
  pub wires : (x : ℕ) → x < s → mark_at vs x content_column ≡ x
  pub gates : (j d : ℕ) → j < g → d < 4 → mark_at vs j d ≡ mark_at us j d
  pub lab : (q : ℕ) → mark_at vs q lab_column ≡ mark_at us q lab_column

pub begin-none : (us : List ℕ) (g : ℕ) → Beginning us us g 0
begin-none us g = record {
  size = refl;
  kinds = λ x l. absurd (omega arith);
  splits = λ x l. absurd (omega arith);
  wires = λ x l. absurd (omega arith);
  gates = λ j d l h. refl;
  lab = λ q. refl;
}

module _ (us vs : List ℕ) (g s : ℕ) (b : Beginning us vs g s) where
  abbrev ws : List ℕ
  ws = put_mark (emptied_marks vs g s 0) s content_column s

  -- the columns of events and slots
  column : (j d : ℕ) → d < 4 → mark_at ws j d ≡ mark_at (emptied_marks vs g s 0) j d
  column j d l = put-column (emptied_marks vs g s 0) s 5 s j d (omega arith) (omega arith) (λ e. omega arith)

  pub begin-more : MarksAt vs (g + s) → Beginning us ws g (s + 1)
  begin-more room =
      let o = emptied-marks vs g s 0 in
      record {
        size = put-size (emptied_marks vs g s 0) s 5 s ∙ o.size ∙ b.size;
        kinds = below_more (λ x. mark_at ws (g + x) kind_column ≡ gone_kind) s
            (λ x l. column (g + x) 0 (omega arith) ∙ o.away (g + x) 0 (λ e. omega arith) (omega arith) ∙ b.kinds x l)
            (column (g + s) 0 (omega arith) ∙ emptied-kind vs g s 0 room);
        splits = below_more (λ x. mark_at ws (g + x) c_column ≡ 0) s
            (λ x l. column (g + x) 3 (omega arith) ∙ o.away (g + x) 3 (λ e. omega arith) (omega arith) ∙ b.splits x l)
            (column (g + s) 3 (omega arith) ∙ emptied-split vs g s 0 room);
        wires = below_more (λ x. mark_at ws x content_column ≡ x) s
            (λ x l. put_record (emptied_marks vs g s 0) s 5 s x (λ e. omega arith) ∙ o.wire x ∙ b.wires x l)
            (put-here (emptied_marks vs g s 0) s 5 s (omega (arith, o.size)));
        lab = λ q. put-column (emptied_marks vs g s 0) s 5 s q 4 (omega arith) (omega arith) (λ e. omega arith) ∙ o.lab q ∙ b.lab q;
        gates = λ j d l h. column j d h ∙ o.away j d (λ e. omega arith) (omega arith) ∙ b.gates j d l h;
      }

pub begin-end : (xs : List Float) (us vs : List ℕ) (g n s : ℕ) → n ≤ s → Beginning us vs g s → Begun xs us vs g n
unfolding resolved_at start_of newest_first rest_at
begin-end xs us vs g n s h b = record {
  size = b.size;
  lab = b.lab;
  state = λ swaps z. record {
    rests = listed_same none n (λ x. none) (rest_at xs vs g) (λ x l. rw (b.kinds x (omega arith))) z;
    splits = listed_same 0 n (λ x. 0) (split_at vs g) (λ x l. b.splits x (omega arith)) z;
    content = listed_same 0 n (λ x. x) (λ x. mark_at vs x content_column) (λ x l. b.wires x (omega arith)) z;
    items = [];
    swaps = swaps;
    tried = 0;
    angled = false;
  };
  events = λ j l.
      event-alike xs xs us vs j (b.gates j 0 l (omega arith)) (b.gates j 1 l (omega arith)) (b.gates j 2 l (omega arith)) (b.gates j 3 l (omega arith)) (λ q p r. refl);
  within = λ w. record {
    a = λ j l k. rw (b.gates j 1 k (omega arith)) (w.a j l k);
    b = λ j l k. rw (b.gates j 2 k (omega arith)) (w.b j l k);
    c = λ j l k. rw (b.gates j 3 k (omega arith)) (w.c j l k);
  };
}

-- ---- after the last

-- the item of a slot's record with a remainder, and without
put_item : (xs : List Float) (us vs : List ℕ) (g s wire : ℕ) → MarksAt vs (g + s) → mark_at vs (g + s) kind_column ≡ one_item
    → mark_at us (g + s) kind_column ≡ one_item → wire ≡ mark_at us s content_column
    → item_at xs (put_mark vs (g + s) a_column wire) (g + s) ≡ rest_item (mark_at us s content_column) (rest_at xs us g s)
unfolding item_at rest_at
put_item xs us vs g s wire room k k₀ e =
    rw (put-column vs (g + s) 1 wire (g + s) 0 (omega arith) (omega arith) (λ e. omega arith), k, put-here vs (g + s) 1 wire (omega arith), k₀, e)

no_item : (xs : List Float) (us vs : List ℕ) (g s : ℕ) → MarksAt vs (g + s) → mark_at us (g + s) kind_column ≢ one_item
    → item_at xs (put_mark vs (g + s) kind_column gone_kind) (g + s) ≡ rest_item (mark_at us s content_column) (rest_at xs us g s)
unfolding item_at rest_at
no_item xs us vs g s room k = rw (put-here vs (g + s) 0 0 (omega arith), ne_eqb _ _ k)

with-more : (r : Resolved) (k : ℕ) → with_rests r (suc k) ≡ rest_item (get_or r.content k 0) (get_or r.rests k none) ++ with_rests r k
unfolding with_rests
with-more r k = refl

-- what the state says of slot k
read : (xs : List Float) (us : List ℕ) (g n k : ℕ) (t : Tally) → k < n
    → rest_item (get_or (resolved_at xs us g n g t).content k 0) (get_or (resolved_at xs us g n g t).rests k none) ≡ rest_item (mark_at us k content_column) (rest_at xs us g k)
unfolding resolved_at
read xs us g n k t l = ap₂ rest_item (get_or-list_of n (λ s. mark_at us s content_column) k 0 l) (get_or-list_of n (rest_at xs us g) k none l)

pub record Finishing (xs : List Float) (us vs : List ℕ) (g s : ℕ) : Type 0 where
  pub size : length vs ≡ length us
  pub wires : (j : ℕ) → mark_at vs j content_column ≡ mark_at us j content_column
  pub lab : (j : ℕ) → mark_at vs j lab_column ≡ mark_at us j lab_column
  pub gates : (j d : ℕ) → j < g → d < record_marks → mark_at vs j d ≡ mark_at us j d
  pub made : (x : ℕ) → x < s → item_at xs vs (g + x) ≡ rest_item (mark_at us x content_column) (rest_at xs us g x)
  pub left : (x d : ℕ) → s ≤ x → d < record_marks → mark_at vs (g + x) d ≡ mark_at us (g + x) d

pub finish-none : (xs : List Float) (us : List ℕ) (g : ℕ) → Finishing xs us us g 0
finish-none xs us g = record {
  size = refl;
  wires = λ j. refl;
  lab = λ j. refl;
  gates = λ j d l h. refl;
  made = λ x l. absurd (omega arith);
  left = λ x d l h. refl;
}

module _ (xs : List Float) (us vs : List ℕ) (g s : ℕ) (f : Finishing xs us vs g s) where
  -- one of the marks of slot s is put, and its item is then that of its remainder
  more : (ws : List ℕ) → MarksOf (g + s) vs ws → item_at xs ws (g + s) ≡ rest_item (mark_at us s content_column) (rest_at xs us g s) → Finishing xs us ws g (s + 1)
  more ws o e = record {
    size = o.size ∙ f.size;
    wires = λ j. o.wire j ∙ f.wires j;
    lab = λ j. o.lab j ∙ f.lab j;
    gates = λ j d l h. o.away j d (λ e. omega arith) h ∙ f.gates j d l h;
    made = below_more (λ x. item_at xs ws (g + x) ≡ rest_item (mark_at us x content_column) (rest_at xs us g x)) s
        (λ x l.
        item-alike xs xs vs ws (g + x) (o.away (g + x) 0 (λ e. omega arith) (omega arith)) (o.away (g + x) 1 (λ e. omega arith) (omega arith)) (o.away (g + x) 2 (λ e. omega arith) (omega arith)) (λ q a b. refl)
        ∙ f.made x l)
        e;
    left = λ x d l h. o.away (g + x) d (λ e. omega arith) h ∙ f.left x d (omega arith) h;
  }

  -- there is a remainder
  pub finish-item : (wire : ℕ) → MarksAt vs (g + s) → mark_at vs (g + s) kind_column ≡ one_item → wire ≡ mark_at vs s content_column
      → Finishing xs us (put_mark vs (g + s) a_column wire) g (s + 1)
  finish-item wire room k e = more (put_mark vs (g + s) 1 wire) (marks-put (g + s) vs vs 1 wire (omega arith) (marks-same (g + s) vs)) (put_item xs us vs g s wire room k (sym (f.left s 0 (omega arith) (omega arith)) ∙ k) (e ∙ f.wires s))

  -- there is none
  pub finish-gone : MarksAt vs (g + s) → mark_at vs (g + s) kind_column ≢ one_item → Finishing xs us (put_mark vs (g + s) kind_column gone_kind) g (s + 1)
  finish-gone room k =
      more (put_mark vs (g + s) 0 0) (marks-put (g + s) vs vs 0 0 (omega arith) (marks-same (g + s) vs))
      (no_item xs us vs g s room (λ e. k (f.left s 0 (omega arith) (omega arith) ∙ e)))

-- the items of the gates' records
below : (xs : List Float) (us vs : List ℕ) (g n s : ℕ) (t : Tally) → Finishing xs us vs g s → newest_first (item_at xs vs) g ≡ with_rests (resolved_at xs us g n g t) 0
unfolding resolved_at with_rests
below xs us vs g n s t f =
    newest-same (item_at xs us) (item_at xs vs) g
    (λ j l. item-alike xs xs us vs j (f.gates j 0 l (omega arith)) (f.gates j 1 l (omega arith)) (f.gates j 2 l (omega arith)) (λ q a b. refl))

pub finish-end : (xs : List Float) (us vs : List ℕ) (g n s : ℕ) (t : Tally) → n ≤ s → Finishing xs us vs g s → Finished xs us vs g n t
finish-end xs us vs g n s t h f = record { size = f.size; items = up_to n (omega arith); content = f.wires; lab = f.lab }
  where
    up_to : (k : ℕ) → k ≤ n → newest_first (item_at xs vs) (g + k) ≡ with_rests (resolved_at xs us g n g t) k
    up_to zero l = ap (newest_first (item_at xs vs)) (add-zero g) ∙ below xs us vs g n s t f
    up_to (suc k) l = ap (newest_first (item_at xs vs)) (add-suc g k ∙ sym (add-one (g + k))) ∙ newest-more (item_at xs vs) (g + k) ∙ ap₂ ◌++◌ (f.made k (omega arith) ∙ sym (read xs us g n k t (omega arith))) (up_to k (omega arith)) ∙ sym (with-more (resolved_at xs us g n g t) k)
