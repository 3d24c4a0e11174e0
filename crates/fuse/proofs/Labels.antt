-- One gate more made an event: the ways out of the code, each against the definition; and gate after gate. Assumes nothing.
use mathlib.Core.Path.{◌≡◌, refl, sym, ap, ap₂, subst, ◌∙◌}
use mathlib.Core.Logic.{◌≢◌}
use mathlib.Core.Bool.{Bool, true, false, ◌&&◌}
use mathlib.Core.List.{List, [], ◌∷◌, Memᴰ}
use Prim.Native.Nat.{ℕ, zero, suc, ◌+◌, ◌≤◌, ◌<◌}
use native.Mathlib.Nat.{add-zero}
use native.Mathlib.Omega.{arith}
use lib.Dec.{eqb}
use lib.ListN.{length, drop}
use lib.Seq.{drop-length, drop-nil}
use lib.Ieee.{Float}
use borrow.Author.Count.{below_more}
use Rattle.work.specs.Marks.{exchanged_marks}
use Rattle.laws.specs.Slices.{traded}
use Rattle.laws.specs.Views.{down_to}
use Rattle.laws.proofs.Views.{down-more, down-same, get_or-list_of}
use Rattle.gate.specs.declared.matrix.Mat2.{Mat2}
use Rattle.gate.specs.declared.matrix.Mat4.{Mat4}
use Rattle.gate.specs.Lent.{flat}
use Rattle.gate.proofs.Stored.{length-row, length4}
use Rattle.work.specs.Sizes.{record_marks}
use Rattle.work.specs.Rows.{record_at, FloatsAt}
use Rattle.work.specs.Marks.{mark_at, put_mark, MarksAt}
use Rattle.work.specs.Columns.{kind_column, a_column, b_column, c_column, lab_column, gone_kind, one_kind, two_kind, three_kind}
use Rattle.work.proofs.Records.{put-size, put-here, put-column, put_record}
use Rattle.tape.specs.Bounds.{header_length}
use Rattle.tape.specs.Gates.{gate_at}
use Rattle.tape.specs.Parse.{gates_of}
use Rattle.tape.specs.Cursor.{Cursor, Stands}
use Rattle.tape.specs.declared.gates.Gate.{Gate}
use Rattle.tape.specs.declared.gates.Gate.TheVariants.{One, Two, Three}
use Rattle.fuse.specs.Events.{Event, gone, one, two, three}
use Rattle.fuse.specs.Relabel.{label, swap_code, put, swapped, slot_of, labelled, unlabelled}
use Rattle.fuse.specs.Layout.{Within, event_at, put_matrix2_of, put_matrix4_of}
use Rattle.work.specs.Lent.{Lent, Whole, SameSizes, Has, marked, with_marks, with_floats}
use Rattle.fuse.specs.Slotted.{labelled_at, Labels, event_marks, swapped_marks, Labelling, Identity}
use Rattle.fuse.specs.Lent.{Next, LabelsGate, Identifies, Relabels}
use Rattle.fuse.proofs.Listed.{listed_same, listed-traded}
use Rattle.fuse.proofs.Places.{three-at, event-same, put2-other, put2-same, put4-other, put4-same}

-- ---- the marks of an event

module _ (us : List ℕ) (k kind a b c : ℕ) where
  pub event-size : length (event_marks us k kind a b c) ≡ length us
  unfolding event_marks
  event-size = simp put-size

  -- another column stays
  event-column : (j d : ℕ) → 3 < d → d < record_marks → mark_at (event_marks us k kind a b c) j d ≡ mark_at us j d
  unfolding event_marks
  event-column j d l h = grind (arith, put-column)

  -- another record stays
  event-record : (j d : ℕ) → j ≢ k → d < 4 → mark_at (event_marks us k kind a b c) j d ≡ mark_at us j d
  unfolding event_marks
  event-record j d n h = grind (arith, put-column, put_record)

  module _ (room : MarksAt us k) where
    event-kind : mark_at (event_marks us k kind a b c) k kind_column ≡ kind
    unfolding event_marks
    event-kind = grind (arith, put-column, put-here, put-size)

    event-a : mark_at (event_marks us k kind a b c) k a_column ≡ a
    unfolding event_marks
    event-a = grind (arith, put-column, put-here, put-size)

    event-b : mark_at (event_marks us k kind a b c) k b_column ≡ b
    unfolding event_marks
    event-b = grind (arith, put-column, put-here, put-size)

    event-c : mark_at (event_marks us k kind a b c) k c_column ≡ c
    unfolding event_marks
    event-c = grind (arith, put-here, put-size)

    -- the slots of the events up to k
    event-within : (n : ℕ) → a < n → b < n → c < n → Within us 0 k n → Within (event_marks us k kind a b c) 0 (k + 1) n
    event-within n la lb lc w = record {
      a = λ j z l. grind (arith, event-record, event-a, w.a);
      b = λ j z l. grind (arith, event-record, event-b, w.b);
      c = λ j z l. grind (arith, event-record, event-c, w.c);
    }

-- ---- the state with one event more

module _ (xs ys : List Float) (us : List ℕ) (n k kind a b c : ℕ) (room : MarksAt us k) where
  abbrev vs : List ℕ
  vs = event_marks us k kind a b c

  put-state : (e : Event) (swaps : ℕ) → event_at ys vs k ≡ e → ((j : ℕ) → j ≢ k → event_at ys vs j ≡ event_at xs vs j)
      → labelled_at ys vs n (k + 1) swaps ≡ put e (labelled_at xs us n k swaps)
  unfolding labelled_at
  put-state e swaps h other = λ z. record {
    lab = listed_same 0 n (λ q. mark_at us q lab_column) (λ q. mark_at vs q lab_column) (λ q l. event-column us k kind a b c q 4 (omega arith) (omega arith)) z;
    events = (down-more (event_at ys vs) k ∙ ap₂ ◌∷◌ h (down-same (event_at xs us) (event_at ys vs) k (λ j l.
        other j (λ e. omega arith) ∙ event-same xs us vs j (λ d h. event-record us k kind a b c j d (λ e. omega arith) h)))) z;
    swaps = swaps;
  }

  put-labels : Labels us n → Labels vs n
  put-labels l = record { below = λ q h. rw (event-column us k kind a b c q 4 (omega arith) (omega arith)) (l.below q h) }

-- the slot of a qubit, as the state has it
slot_is : (xs : List Float) (us : List ℕ) (n k swaps q : ℕ) → q < n → slot_of (labelled_at xs us n k swaps) q ≡ mark_at us q lab_column
unfolding labelled_at
slot_is xs us n k swaps q l = get_or-list_of n (λ q. mark_at us q lab_column) q 0 l

-- ---- two slots exchanged

module _ (us : List ℕ) (a b : ℕ) where
  pub swapped-size : length (swapped_marks us a b) ≡ length us
  unfolding exchanged_marks
  swapped-size = simp put-size

  swapped-column : (j d : ℕ) → d < 4 → mark_at (swapped_marks us a b) j d ≡ mark_at us j d
  unfolding exchanged_marks
  swapped-column j d h = grind (arith, put-column)

  module _ (ra : MarksAt us a) (rb : MarksAt us b) where
    abbrev lab : ℕ → ℕ
    lab j = mark_at (swapped_marks us a b) j lab_column

    lab-b : lab b ≡ mark_at us a lab_column
    unfolding exchanged_marks
    lab-b = grind (arith, put-here, put-size)

    lab-a : lab a ≡ mark_at us b lab_column
    unfolding exchanged_marks
    lab-a = grind (arith, put-here, put_record, put-size)

    lab-other : (j : ℕ) → j ≢ a → j ≢ b → lab j ≡ mark_at us j lab_column
    unfolding exchanged_marks
    lab-other j na nb = grind (arith, put_record)

    swapped-labels : (n : ℕ) → a < n → b < n → Labels us n → Labels (swapped_marks us a b) n
    swapped-labels n la lb l = record { below = λ q h. grind (arith, lab-a, lab-b, lab-other, l.below) }

    swapped-state : (xs : List Float) (n k swaps : ℕ) → a < n → b < n
        → labelled_at xs (swapped_marks us a b) n k swaps
        ≡ record { lab = traded 0 a b (labelled_at xs us n k swaps).lab; events = (labelled_at xs us n k swaps).events; swaps = swaps }
    unfolding labelled_at
    swapped-state xs n k swaps la lb = λ z. record {
      lab = listed-traded 0 n (λ q. mark_at us q lab_column) lab a b la lb lab-a lab-b (λ x na nb l. lab-other x na nb) z;
      events = down-same (event_at xs us) (event_at xs (swapped_marks us a b)) k (λ j l. event-same xs us (swapped_marks us a b) j (swapped-column j)) z;
      swaps = swaps;
    }

gone-event : (xs : List Float) (us : List ℕ) (k : ℕ) → MarksAt us k → event_at xs (event_marks us k gone_kind 0 0 0) k ≡ gone
unfolding event_at
gone-event xs us k room = rw (event-kind us k 0 0 0 0 room)

-- the state of a renaming, part by part
swap-parts : (xs : List Float) (us : List ℕ) (n k swaps a b : ℕ)
    → swapped a b (labelled_at xs us n k swaps)
    ≡ put gone (record { lab = traded 0 a b (labelled_at xs us n k (swaps + 1)).lab; events = (labelled_at xs us n k (swaps + 1)).events; swaps = swaps + 1 })
unfolding labelled_at
swap-parts xs us n k swaps a b = refl

-- ---- one gate, by its kind

module _ (relabel : Bool) {w : Lent} {k : ℕ} (next : Next w k) (whole : Whole w) where
  floats : FloatsAt w.floats k
  floats = omega (arith, whole.floats, next.left)

  marks : MarksAt w.marks k
  marks = omega (arith, whole.marks, next.left)

  labelled_as : (x : Gate) (ys : List Float) (vs : List ℕ) (r : ℕ) → Labelling relabel x w.floats ys w.marks vs w.slots k r
      → LabelsGate relabel x w (with_floats (with_marks w vs) ys) k r
  labelled_as x ys ws r l = record { sizes = record { gates = refl; slots = refl }; labelling = l }

  -- a gate that becomes the event e
  put-labelled : (x : Gate) (kind s t v : ℕ) (ys : List Float) (e : Event) → s < w.slots → t < w.slots → v < w.slots → length ys ≡ length w.floats
      → event_at ys (event_marks w.marks k kind s t v) k ≡ e
      → ((j : ℕ) → j ≢ k → event_at ys (event_marks w.marks k kind s t v) j ≡ event_at w.floats (event_marks w.marks k kind s t v) j)
      → ((swaps : ℕ) → label relabel x (labelled_at w.floats w.marks w.slots k swaps) ≡ put e (labelled_at w.floats w.marks w.slots k swaps))
      → LabelsGate relabel x w (with_floats (with_marks w (event_marks w.marks k kind s t v)) ys) k 0
  put-labelled x kind s t v ys e ls lt lv size here other is =
      let us = w.marks in
      labelled_as x ys (event_marks us k kind s t v) 0 (record {
        size = size;
        marks = event-size us k kind s t v;
        state = λ swaps. rw (add-zero, is swaps, put-state w.floats ys us w.slots k kind s t v marks e swaps here other);
        within = event-within us k kind s t v marks w.slots ls lt lv next.within;
        labels = put-labels w.floats ys us w.slots k kind s t v marks next.labels;
        few = omega arith;
      })

  pub one-labelled : (code q : ℕ) (m : Mat2) → q < w.slots
      → LabelsGate relabel (One code q m) w
      (with_floats (with_marks w (event_marks w.marks k one_kind (mark_at w.marks q lab_column) 0 0)) (put_matrix2_of w.floats k m)) k 0
  one-labelled code q m l =
      let us = w.marks in
      let s = mark_at us q lab_column in
      let vs = event_marks us k 1 s 0 0 in
      put-labelled (One code q m) 1 s 0 0 (put_matrix2_of w.floats k m) (one s m) (next.labels.below q l) (omega arith) (omega arith)
      (length-row w.floats (record_at k) (flat m))
      (rw (put2-same w.floats vs k m floats (event-kind us k 1 s 0 0 marks), event-a us k 1 s 0 0 marks))
      (put2-other w.floats vs k m)
      (λ swaps. grind (arith, slot_is w.floats us w.slots k swaps))

  pub two-labelled : (code a b : ℕ) (m : Mat4) → a < w.slots → b < w.slots → (relabel && eqb code swap_code) ≡ false
      → LabelsGate relabel (Two code a b m) w
      (with_floats (with_marks w (event_marks w.marks k two_kind (mark_at w.marks a lab_column) (mark_at w.marks b lab_column) 0))
      (put_matrix4_of w.floats k m)) k 0
  two-labelled code a b m la lb h =
      let us = w.marks in
      let s = mark_at us a lab_column in
      let t = mark_at us b lab_column in
      let vs = event_marks us k 2 s t 0 in
      put-labelled (Two code a b m) 2 s t 0 (put_matrix4_of w.floats k m) (two s t m) (next.labels.below a la) (next.labels.below b lb) (omega arith)
      (length4 w.floats (record_at k) m)
      (rw (put4-same w.floats vs k m floats (event-kind us k 2 s t 0 marks), event-a us k 2 s t 0 marks, event-b us k 2 s t 0 marks))
      (put4-other w.floats vs k m)
      (λ swaps. grind (arith, slot_is w.floats us w.slots k swaps))

  pub three-labelled : (a b c : ℕ) → a < w.slots → b < w.slots → c < w.slots
      → LabelsGate relabel (Three a b c) w
      (with_marks w (event_marks w.marks k three_kind (mark_at w.marks a lab_column) (mark_at w.marks b lab_column) (mark_at w.marks c lab_column))) k 0
  three-labelled a b c la lb lc =
      let us = w.marks in
      let s = mark_at us a lab_column in
      let t = mark_at us b lab_column in
      let v = mark_at us c lab_column in
      let vs = event_marks us k 3 s t v in
      put-labelled (Three a b c) 3 s t v w.floats (three s t v) (next.labels.below a la) (next.labels.below b lb) (next.labels.below c lc) refl
      (rw (three-at w.floats vs k (event-kind us k 3 s t v marks), event-a us k 3 s t v marks, event-b us k 3 s t v marks, event-c us k 3 s t v marks))
      (λ j ne. refl)
      (λ swaps. grind (arith, slot_is w.floats us w.slots k swaps))

  pub swap-labelled : (code a b : ℕ) (m : Mat4) → a < w.slots → b < w.slots → (relabel && eqb code swap_code) ≡ true
      → LabelsGate relabel (Two code a b m) w (with_marks w (event_marks (swapped_marks w.marks a b) k gone_kind 0 0 0)) k 1
  swap-labelled code a b m la lb h =
      let xs = w.floats in
      let us = w.marks in
      let n = w.slots in
      let ws = swapped_marks us a b in
      let room : MarksAt ws k = omega (arith, marks, swapped-size us a b) in
      let ra : MarksAt us a = omega (arith, whole.marks, la) in
      let rb : MarksAt us b = omega (arith, whole.marks, lb) in
      let within = next.within in
      labelled_as (Two code a b m) xs (event_marks ws k gone_kind 0 0 0) 1 (record {
        size = refl;
        marks = event-size ws k 0 0 0 0 ∙ swapped-size us a b;
        state = λ swaps.
            let e = put-state xs xs ws n k 0 0 0 0 room gone (swaps + 1) (gone-event xs ws k room) (λ j ne. refl) in
            grind (arith, e, swapped-state us a b ra rb xs n k (swaps + 1) la lb, swap-parts xs us n k swaps a b);
        within = event-within ws k 0 0 0 0 room n (omega arith) (omega arith) (omega arith) (record {
          a = λ j z l. rw (swapped-column us a b j 1 (omega arith)) (within.a j z l);
          b = λ j z l. rw (swapped-column us a b j 2 (omega arith)) (within.b j z l);
          c = λ j z l. rw (swapped-column us a b j 3 (omega arith)) (within.c j z l);
        });
        labels = put-labels xs xs ws n k 0 0 0 0 room (swapped-labels us a b ra rb n la lb next.labels);
        few = omega arith;
      })

-- ---- the first labels

pub identifies_more : {w v : Lent} {q : ℕ} → Identifies w v q → Whole v → Has v q → Identifies w (marked v q lab_column q) (q + 1)
identifies_more {w} {v} {q} was whole there =
    let i = was.identity in
    let vs = v.marks in
    record {
      rest = record { floats = was.rest.floats; gates = was.rest.gates; slots = was.rest.slots };
      identity = record {
        size = put-size vs q 4 q ∙ i.size;
        each = below_more (λ x. mark_at (put_mark vs q lab_column q) x lab_column ≡ x) q
            (λ x l. put_record vs q 4 q x (λ e. omega arith) ∙ i.each x l) (put-here vs q 4 q (omega (arith, whole.marks, there)));
      };
    }

module _ (us vs : List ℕ) (n : ℕ) (i : Identity us vs n) where
  identity-labels : Labels vs n
  identity-labels = record { below = λ q l. rw (i.each q l) l }

  identity-state : (xs : List Float) → labelled_at xs vs n 0 0 ≡ unlabelled n
  unfolding labelled_at unlabelled down_to
  identity-state xs = λ z. record {
    lab = listed_same 0 n (λ q. q) (λ q. mark_at vs q lab_column) (λ q l. i.each q l) z;
    events = [];
    swaps = 0;
  }

-- ---- gate after gate

-- what heads the gates from k on is one of them
pub heads : {A : Type 0} (k : ℕ) (l r : List A) (x : A) → drop k l ≡ x ∷ r → Memᴰ x l
heads {A} k [] r x e = absurd (cc (drop-nil {A = A} k))
heads zero (y ∷ l) r x e = Memᴰ.head (cc)
heads (suc k) (y ∷ l) r x e = Memᴰ.tail (heads k l r x e)

-- the gates up to k are events, and what the definition makes of the others gives the whole
pub record Relabelling (relabel : Bool) (t : List ℕ) (w₀ w : Lent) (swaps at k : ℕ) : Type 0 where
  pub sizes : SameSizes w₀ w
  pub size : length w.floats ≡ length w₀.floats
  pub marks : length w.marks ≡ length w₀.marks
  pub labels : Labels w.marks w.slots
  pub within : Within w.marks 0 k w.slots
  pub few : swaps ≤ k
  pub cursor : Cursor t k at
  pub rest : labelled relabel (drop k (gates_of t)) (labelled_at w.floats w.marks w₀.slots k swaps) ≡ labelled relabel (gates_of t) (unlabelled w₀.slots)

module _ {relabel : Bool} {t : List ℕ} {w₀ w : Lent} where
  pub relabelling-none : Identifies w₀ w w₀.slots → Cursor t 0 header_length → Relabelling relabel t w₀ w 0 header_length 0
  relabelling-none i c =
      let start = i.identity in
      record {
        sizes = record { gates = i.rest.gates; slots = i.rest.slots };
        size = ap length i.rest.floats;
        marks = start.size;
        labels = subst (Labels w.marks) (sym i.rest.slots) (identity-labels w₀.marks w.marks w₀.slots start);
        within = record { a = λ j a b. absurd (omega arith); b = λ j a b. absurd (omega arith); c = λ j a b. absurd (omega arith) };
        few = omega arith;
        cursor = c;
        rest = ap (labelled relabel (gates_of t)) (identity-state w₀.marks w.marks w₀.slots start w.floats);
      }

  pub relabelling-more : {x : Gate} {v : Lent} {swaps at k r i next : ℕ} → Relabelling relabel t w₀ w swaps at k → Stands t k i next → x ≡ gate_at t i
      → LabelsGate relabel x w v k r → Relabelling relabel t w₀ v (swaps + r) next (k + 1)
  unfolding labelled
  relabelling-more {x} {v} {swaps} {at} {k} d s e g =
      let l = g.labelling in
      let n : w.slots ≡ w₀.slots = d.sizes.slots in
      record {
        sizes = record { gates = g.sizes.gates ∙ d.sizes.gates; slots = g.sizes.slots ∙ d.sizes.slots };
        size = l.size ∙ d.size;
        marks = l.marks ∙ d.marks;
        labels = subst (Labels v.marks) (sym g.sizes.slots) l.labels;
        within = subst (Within v.marks 0 (k + 1)) (sym g.sizes.slots) l.within;
        few = omega (arith, d.few, l.few);
        cursor = s.after;
        rest = ap (labelled relabel (drop (k + 1) (gates_of t))) (rw n at (l.state swaps))
            ∙ sym (ap (λ gs. labelled relabel gs (labelled_at w.floats w.marks w₀.slots k swaps))
            (s.gate ∙ ap (λ y. y ∷ drop (k + 1) (gates_of t)) (sym e))) ∙ d.rest;
      }

  pub relabelling-end : {swaps at k : ℕ} → Relabelling relabel t w₀ w swaps at k → k ≡ w₀.gates → w₀.gates ≡ length (gates_of t) → Relabels relabel t w₀ w swaps
  unfolding labelled
  relabelling-end {swaps} {at} {k} d e c = record {
    sizes = d.sizes;
    relabelled = record {
      size = d.size;
      marks = d.marks;
      state = ap (λ k. labelled_at w.floats w.marks w₀.slots k swaps) (sym e)
          ∙ sym (ap (λ gs. labelled relabel gs (labelled_at w.floats w.marks w₀.slots k swaps))
          (ap (λ k. drop k (gates_of t)) (e ∙ c) ∙ drop-length (gates_of t))) ∙ d.rest;
      within = rw (e, d.sizes.slots) at d.within;
      few = omega (arith, d.few, e);
    };
  }

-- to begin, and the gate that heads the rest
pub ruleset relabellings = (heads, relabelling-none)
