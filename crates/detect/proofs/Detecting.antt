-- After relabelling, fusing and the choice of the order the lent work holds what the definitions say: items, modes, slots and content. Assumes nothing.
use mathlib.Core.Path.{◌≡◌, refl, sym, ap, ap₂, ◌∙◌}
use mathlib.Core.Logic.{◌⊎◌, inl, inr, ◌≢◌}
use mathlib.Core.Bool.{Bool, true, false, cond, ◌&&◌}
use mathlib.Core.List.{List, [], ◌∷◌, ◌++◌, append-nil, Memᴰ}
use Prim.Native.Nat.{ℕ, zero, suc, ◌+◌, ◌≤◌, ◌<◌}
use native.Mathlib.Nat.{zero-add}
use native.Mathlib.Numerals.{add-one}
use native.Mathlib.Omega.{arith}
use lib.Dec.{eqb, ltb}
use lib.ListN.{get_or}
use lib.Ieee.{Float}
use borrow.Author.Tests.{ne_eqb}
use Rattle.laws.specs.Views.{up_from, list_of}
use Rattle.std.proofs.lemmas.Bool.{cases_eq}
use Rattle.laws.proofs.Views.{up-join, get_or-list_of}
use Rattle.laws.specs.Lists.{All}
use Rattle.laws.proofs.Lists.{all_append}
use Rattle.work.specs.Marks.{mark_at, Only, column}
use Rattle.work.specs.Columns.{kind_column, a_column, b_column, lab_column, content_column, order_column, pos_column, start_column, match_item}
use Rattle.tape.specs.Good.{GoodGate}
use Rattle.tape.specs.Parse.{gates_of}
use Rattle.tape.specs.declared.header.Header.{Header}
use Rattle.tape.specs.declared.gates.Gate.{Gate}
use Rattle.work.specs.Lent.{Lent}
use Rattle.fuse.specs.Slotted.{labelled_at, Relabelled}
use Rattle.fuse.specs.Lent.{Relabels}
use Rattle.order.specs.Lent.{WiresInSlots, pairs_of_work, Orders}
use Rattle.resolve.specs.Lent.{Fuses}
use Rattle.detect.specs.declared.count.Counts.{Counts}
use Rattle.detect.specs.declared.report.Report.{Report}
use Rattle.detect.specs.Kept.{Counted}
use Rattle.detect.specs.Lent.{WorkFor, Held, TablesThere, CountsAll, Detects, all_items}
use Rattle.detect.proofs.Keeping.{items_keep, below-counted}
use Rattle.order.specs.declared.edges.Pair.{Pair}
use Rattle.order.specs.declared.choice.Ordering.{Ordering}
use Rattle.order.specs.Weights.{pair_of, weighs_of, edges_of}
use Rattle.order.specs.Cover.{wires, cover_of}
use Rattle.order.specs.Arrangement.{arranged, zeros, marked, marks, find}
use Rattle.order.specs.Choice.{covered_of, identity_of, path_order_of, arrange_of, choose_order_of}
use Rattle.order.specs.Pairs as Pairs
use Rattle.order.specs.Pairs.{pairs_of, pairs_in, WiresBelow}
use Rattle.order.specs.Slice.{columns, Arranges}
use Rattle.order.proofs.Permutation.{order-permutes}
use Rattle.resolve.specs.declared.settle.Tally.{Tally}
use Rattle.resolve.specs.Items.{Item, matchgate, phaseless, interacting, neither, is_matchgate, newest_first, ItemsBelow}
use Rattle.resolve.specs.Slots.{kind_at, item_at}
use Rattle.resolve.specs.Whole.{fused_at, Whole}
use Rattle.resolve.proofs.Wholes.{gates-fused}
use Rattle.detect.specs.Counts.{counts_of}
use Rattle.detect.specs.Report.{table}
use Rattle.work.specs.Kinds.{is_item_of}
use Rattle.detect.specs.Records.{record_item, items_in, modes_in, qubit_mode, ColumnBelow, tables_of}
use Rattle.detect.specs.Compile.{relabels_of, reorders_of, match_pairs, labels_of, items_of, order_of, mode_of_wire, mode_of_qubit, tape_counts, reported_of}
use Rattle.detect.proofs.Items.{items_more, items-same, below_at, wires-below}
use Rattle.detect.proofs.Emitting.{counts_same}
use Rattle.detect.proofs.Entries.{table_same}
use Rattle.detect.proofs.Wires.{slots-permute, content-permutes, wires-items}

-- ---- the pairs

pairs-append : (a b : List Pairs.ItemRow) → pairs_of (a ++ b) ≡ pairs_of a ++ pairs_of b
unfolding pairs_of
pairs-append [] b = refl
pairs-append (x ∷ a) b = go (eqb x.kind match_item) (pairs-append a b)
  where
    go : (t : Bool) → pairs_of (a ++ b) ≡ pairs_of a ++ pairs_of b
        → cond t (pair_of x.a x.b ∷ pairs_of (a ++ b)) (pairs_of (a ++ b)) ≡ cond t (pair_of x.a x.b ∷ pairs_of a) (pairs_of a) ++ pairs_of b
    go true e = ap (λ l. pair_of x.a x.b ∷ l) e
    go false e = e

-- the mark says whether the item is a matchgate
kind-match : (k : ℕ) → is_matchgate (kind_at k) ≡ eqb k match_item
unfolding kind_at
kind-match k = by (eqb k 5) (eqb k 6) (eqb k 7)
  where
    by : (a b c : Bool) → is_matchgate (cond a matchgate (cond b phaseless (cond c interacting neither))) ≡ a
    by true b c = refl
    by false true c = refl
    by false false true = refl
    by false false false = refl

module _ (xs : List Float) (us : List ℕ) where
  abbrev last : ℕ → List Pair
  last i = cond (eqb (mark_at us i kind_column) match_item) (pair_of (mark_at us i a_column) (mark_at us i b_column) ∷ []) []

  pairs-more : (m : ℕ) → pairs_in us (suc m) ≡ pairs_in us m ++ last m
  unfolding pairs_of up_from
  pairs-more m =
      let split : list_of (suc m) (Pairs.item_row us) ≡ list_of m (Pairs.item_row us) ++ (Pairs.item_row us m ∷ []) =
      ap (up_from (Pairs.item_row us) 0) (sym (add-one m)) ∙ up-join (Pairs.item_row us) 0 m 1
      ∙ ap (λ k. up_from (Pairs.item_row us) 0 m ++ (Pairs.item_row us k ∷ [])) (zero-add m) in
      ap pairs_of split ∙ pairs-append (list_of m (Pairs.item_row us)) (Pairs.item_row us m ∷ [])

  -- what the item of a record adds
  match-more : (i : ℕ) (l : List Item) → is_item_of (mark_at us i kind_column) ≡ true → match_pairs (record_item xs us i ∷ l) ≡ match_pairs l ++ last i
  unfolding match_pairs
  match-more i l e = go (cases_eq (mark_at us i kind_column) 4) (cases_eq (mark_at us i kind_column) 9)
    where
      go : (mark_at us i kind_column ≡ 4) ⊎ (mark_at us i kind_column ≢ 4) → (mark_at us i kind_column ≡ 9) ⊎ (mark_at us i kind_column ≢ 9)
          → match_pairs (record_item xs us i ∷ l) ≡ match_pairs l ++ last i
      go (inl q) r = rw q (sym (append-nil (match_pairs l)))
      go (inr p) (inl q) = rw q (sym (append-nil (match_pairs l)))
      go (inr p) (inr q) = rw (ne_eqb (mark_at us i kind_column) 4 p, ne_eqb (mark_at us i kind_column) 9 q, kind-match (mark_at us i kind_column))

  -- a record without an item is no matchgate
  no-match : (i : ℕ) → is_item_of (mark_at us i kind_column) ≡ false → last i ≡ []
  no-match i e = go (cases_eq (mark_at us i kind_column) 5)
    where
      go : (mark_at us i kind_column ≡ 5) ⊎ (mark_at us i kind_column ≢ 5) → last i ≡ []
      go (inl q) = absurd (omega (arith, let z : ◌≡◌ {A = ℕ} 0 1 = let f : true ≡ false = sym (ap is_item_of q) ∙ e in cc in z))
      go (inr p) = rw (ne_eqb (mark_at us i kind_column) 5 p)

  pub pairs-items : (m : ℕ) → pairs_in us m ≡ match_pairs (items_in xs us m)
  unfolding match_pairs pairs_of up_from newest_first
  pairs-items zero = refl
  pairs-items (suc m) = pairs-more m ∙ go (is_item_of (mark_at us m kind_column)) refl (pairs-items m)
    where
      go : (t : Bool) → is_item_of (mark_at us m kind_column) ≡ t → pairs_in us m ≡ match_pairs (items_in xs us m)
          → pairs_in us m ++ last m ≡ match_pairs (items_in xs us (suc m))
      go true e ih = ap (λ l. l ++ last m) ih ∙ sym (match-more m (items_in xs us m) e) ∙ ap match_pairs (sym (rw add-one at (items_more xs us m e)))
      go false e ih = ap₂ ◌++◌ ih (no-match m e) ∙ append-nil (match_pairs (items_in xs us m)) ∙ ap match_pairs (sym (rw add-one at (items-same xs us m e)))

  pub match-wires : (m n : ℕ) → ItemsBelow n (items_in xs us m) → WiresBelow us m n
  match-wires m n h i l e =
      let is : is_item_of (mark_at us i kind_column) ≡ true = rw e refl in
      wires-below xs us n i (λ q. omega (arith, e, q)) (λ q. omega (arith, e, q)) (below_at xs us n m i h l is)

-- ---- the items stay when the order is written

pub items_stay : (p : ℕ → Bool) (xs : List Float) (us vs : List ℕ) → p 0 ≡ false → p 1 ≡ false → p 2 ≡ false → Only p us vs → (m : ℕ)
    → items_in xs vs m ≡ items_in xs us m
unfolding newest_first item_at
items_stay p xs us vs a b c o zero = refl
items_stay p xs us vs a b c o (suc m) =
    rw (o.same m 0 (omega arith) a, o.same m 1 (omega arith) b, o.same m 2 (omega arith) c, items_stay p xs us vs a b c o m)

-- ---- path starts are 0 or 1

abbrev Small : List ℕ → Type 0
Small = All (λ x. x ≤ 1)

small_at : (l : List ℕ) (k : ℕ) → Small l → get_or l k 0 ≤ 1
small_at [] k h = omega arith
small_at (x ∷ l) zero h = h.0
small_at (x ∷ l) (suc k) h = small_at l k h.1

zeros-small : (l : List ℕ) → Small (zeros l)
unfolding zeros
zeros-small [] = tt
zeros-small (x ∷ l) = (omega arith, zeros-small l)

marked-small : (l : List ℕ) → Small (marked l)
marked-small [] = tt
marked-small (x ∷ l) = (omega arith, zeros-small l)

marks-small : (ps : List (List ℕ)) → Small (marks ps)
unfolding marks
marks-small [] = tt
marks-small (p ∷ ps) = all_append (λ x. x ≤ 1) (marked p) (marks ps) (marked-small p) (marks-small ps)

pub starts-small : (r : Bool) (n : ℕ) (ps : List Pair) (k : ℕ) → get_or (choose_order_of r n ps).starts k 0 ≤ 1
unfolding choose_order_of arrange_of path_order_of
starts-small r n ps k =
    let es = edges_of ps in
    small_at (arrange_of r n es).starts k
    (go (r && ltb (covered_of es (wires n)) (weighs_of es)) (ltb (covered_of es (wires n)) (covered_of es (path_order_of n es).order)))
  where
    go : (s t : Bool) → Small (cond s (cond t (path_order_of n (edges_of ps)) (identity_of n)) (identity_of n)).starts
    go true true = marks-small (arranged (cover_of n (edges_of ps)).paths)
    go true false = marked-small (wires n)
    go false t = marked-small (wires n)

-- ---- the whole

-- what the floats ys and the marks vs hold, with the answers tl and o of the two passes
pub record Told (t : List ℕ) (h : Header) (g : ℕ) (ys : List Float) (vs : List ℕ) (tl : Tally) (o : Ordering) : Type 0 where
  pub swaps : tl.swaps ≡ (items_of h (gates_of t)).swaps
  pub angled : tl.angled ≡ (items_of h (gates_of t)).angled
  pub name : o ≡ (order_of h (gates_of t)).name
  pub items : items_in ys vs (g + h.n) ≡ (items_of h (gates_of t)).items
  pub modes : (v : ℕ) → v < h.n → modes_in vs v ≡ mode_of_wire h (gates_of t) v
  pub below : ItemsBelow h.n (items_in ys vs (g + h.n))
  pub counts : counts_of h.tolerance (modes_in vs) (items_in ys vs (g + h.n)) ≡ tape_counts h (gates_of t)
  pub order : table h.n (column order_column vs) ≡ table h.n (λ k. get_or (order_of h (gates_of t)).order k 0)
  pub starts : table h.n (column start_column vs) ≡ table h.n (λ k. get_or (order_of h (gates_of t)).starts k 0)
  pub qubits : table h.n (qubit_mode vs) ≡ table h.n (mode_of_qubit h (gates_of t))
  pub order_below : ColumnBelow vs order_column h.n h.n
  pub start-below : ColumnBelow vs start_column h.n 65536
  pub lab-below : ColumnBelow vs lab_column h.n h.n
  pub content-below : ColumnBelow vs content_column h.n h.n
  pub pos-below : ColumnBelow vs pos_column h.n h.n

module _ (t : List ℕ) (h : Header) (good : (x : Gate) → Memᴰ x (gates_of t) → GoodGate h.n x) (g swaps : ℕ) (xs xs₁ xs₂ : List Float) (us us₁ us₂ : List ℕ)
    (tl : Tally)
    (r : Relabelled (relabels_of h) t xs xs₁ us us₁ g h.n swaps)
    (w : Whole (relabels_of h) h.tolerance xs₁ xs₂ us₁ us₂ g h.n swaps tl) where
  labelled-is : labelled_at xs₁ us₁ h.n g swaps ≡ labels_of h (gates_of t)
  unfolding labels_of
  labelled-is = r.state

  fused-is : fused_at xs₂ us₂ g h.n tl ≡ items_of h (gates_of t)
  unfolding items_of labels_of
  fused-is = gates-fused (relabels_of h) h.tolerance t xs xs₁ xs₂ us us₁ us₂ g h.n swaps tl r w

  items-are : items_in xs₂ us₂ (g + h.n) ≡ (items_of h (gates_of t)).items
  unfolding fused_at
  items-are = ap (λ f. f.items) fused-is

  swaps-told : tl.swaps ≡ (items_of h (gates_of t)).swaps
  unfolding fused_at
  swaps-told = ap (λ f. f.swaps) fused-is

  angled-told : tl.angled ≡ (items_of h (gates_of t)).angled
  unfolding fused_at
  angled-told = ap (λ f. f.angled) fused-is

  content-at : (s : ℕ) → s < h.n → mark_at us₂ s content_column ≡ get_or (items_of h (gates_of t)).content s 0
  unfolding fused_at
  content-at s l = sym (get_or-list_of h.n (λ s. mark_at us₂ s content_column) s 0 l) ∙ ap (λ f. get_or f.content s 0) fused-is

  lab-at : (q : ℕ) → q < h.n → mark_at us₂ q lab_column ≡ get_or (labels_of h (gates_of t)).lab q 0
  unfolding labelled_at
  lab-at q l = w.lab q ∙ sym (get_or-list_of h.n (λ q. mark_at us₁ q lab_column) q 0 l) ∙ ap (λ s. get_or s.lab q 0) labelled-is

  below₂ : ItemsBelow h.n (items_in xs₂ us₂ (g + h.n))
  below₂ = rw items-are (wires-items h (gates_of t) good)

  pub pairs_below : WiresBelow us₂ (g + h.n) h.n
  pairs_below = match-wires xs₂ us₂ (g + h.n) h.n below₂

  module _ (us₃ : List ℕ) (o : Ordering) (a : Arranges us₂ us₃ h.n (choose_order_of (reorders_of h) h.n (pairs_in us₂ (g + h.n))) o) where
    order_is : choose_order_of (reorders_of h) h.n (pairs_in us₂ (g + h.n)) ≡ order_of h (gates_of t)
    unfolding order_of
    order_is = ap (choose_order_of (reorders_of h) h.n) (pairs-items xs₂ us₂ (g + h.n) ∙ ap match_pairs items-are)

    name-told : o ≡ (order_of h (gates_of t)).name
    name-told = a.name ∙ ap (λ x. x.name) order_is

    items-told : items_in xs₂ us₃ (g + h.n) ≡ (items_of h (gates_of t)).items
    items-told = items_stay (columns 8 18) xs₂ us₂ us₃ refl refl refl a.only (g + h.n) ∙ items-are

    mode-told : (v : ℕ) → v < h.n → modes_in us₃ v ≡ mode_of_wire h (gates_of t) v
    mode-told v l = a.holds.pos v l ∙ ap (λ x. find v x.order) order_is

    order-told : (k : ℕ) → k < h.n → mark_at us₃ k order_column ≡ get_or (order_of h (gates_of t)).order k 0
    order-told k l = a.holds.order k l ∙ ap (λ x. get_or x.order k 0) order_is

    start-told : (k : ℕ) → k < h.n → mark_at us₃ k start_column ≡ get_or (order_of h (gates_of t)).starts k 0
    start-told k l = a.holds.start k l ∙ ap (λ x. get_or x.starts k 0) order_is

    lab-told : (q : ℕ) → q < h.n → mark_at us₃ q lab_column ≡ get_or (labels_of h (gates_of t)).lab q 0
    lab-told q l = a.only.same q 4 (omega arith) refl ∙ lab-at q l

    content-told : (s : ℕ) → s < h.n → mark_at us₃ s content_column ≡ get_or (items_of h (gates_of t)).content s 0
    content-told s l = a.only.same s 5 (omega arith) refl ∙ content-at s l

    lab-below' : ColumnBelow us₃ lab_column h.n h.n
    lab-below' q l = rw (lab-told q l) ((slots-permute h (gates_of t) good).below q l)

    content-below' : ColumnBelow us₃ content_column h.n h.n
    content-below' s l = rw (content-told s l) ((content-permutes h (gates_of t) good).below s l)

    pos-below' : ColumnBelow us₃ pos_column h.n h.n
    pos-below' v l = rw (a.holds.pos v l) ((order-permutes (reorders_of h) h.n (pairs_in us₂ (g + h.n))).there v l)

    order-below' : ColumnBelow us₃ order_column h.n h.n
    order-below' k l = rw (a.holds.order k l) ((order-permutes (reorders_of h) h.n (pairs_in us₂ (g + h.n))).below k l)

    start-below' : ColumnBelow us₃ start_column h.n 65536
    start-below' k l = omega (arith, a.holds.start k l, starts-small (reorders_of h) h.n (pairs_in us₂ (g + h.n)) k)

    qubit-told : (q : ℕ) → q < h.n → qubit_mode us₃ q ≡ mode_of_qubit h (gates_of t) q
    qubit-told q l =
        let s = (slots-permute h (gates_of t) good).below q l in
        let v = (content-permutes h (gates_of t) good).below (get_or (labels_of h (gates_of t)).lab q 0) s in
        ap (λ s. mark_at us₃ (mark_at us₃ s content_column) pos_column) (lab-told q l)
        ∙ ap (λ v. mark_at us₃ v pos_column) (content-told (get_or (labels_of h (gates_of t)).lab q 0) s)
        ∙ mode-told (get_or (items_of h (gates_of t)).content (get_or (labels_of h (gates_of t)).lab q 0) 0) v

    below-told : ItemsBelow h.n (items_in xs₂ us₃ (g + h.n))
    below-told = rw items-told (wires-items h (gates_of t) good)

    counts-told : counts_of h.tolerance (modes_in us₃) (items_in xs₂ us₃ (g + h.n)) ≡ tape_counts h (gates_of t)
    unfolding tape_counts
    counts-told =
        counts_same h.n (modes_in us₃) (mode_of_wire h (gates_of t)) mode-told h.tolerance (items_in xs₂ us₃ (g + h.n)) below-told
        ∙ ap (counts_of h.tolerance (mode_of_wire h (gates_of t))) items-told

    pub told : Told t h g xs₂ us₃ tl o
    told = record {
      swaps = swaps-told;
      angled = angled-told;
      name = name-told;
      items = items-told;
      modes = mode-told;
      below = below-told;
      counts = counts-told;
      order = table_same (λ k. get_or (order_of h (gates_of t)).order k 0) (column order_column us₃) h.n order-told;
      starts = table_same (λ k. get_or (order_of h (gates_of t)).starts k 0) (column start_column us₃) h.n start-told;
      qubits = table_same (mode_of_qubit h (gates_of t)) (qubit_mode us₃) h.n qubit-told;
      order_below = order-below';
      start-below = start-below';
      lab-below = lab-below';
      content-below = content-below';
      pos-below = pos-below';
    }

-- what a report is made of: the count of the items of w, the tables of v, and the answers of the passes
pub record Parts (t : List ℕ) (h : Header) (w v : Lent) (tl : Tally) (o : Ordering) : Type 0 where
  pub counts : counts_of h.tolerance (modes_in w.marks) (all_items w) ≡ tape_counts h (gates_of t)
  pub swaps : tl.swaps ≡ (items_of h (gates_of t)).swaps
  pub angled : tl.angled ≡ (items_of h (gates_of t)).angled
  pub name : o ≡ (order_of h (gates_of t)).name
  pub tables : tables_of v.marks v.slots ≡ record {
    order = table h.n (λ k. get_or (order_of h (gates_of t)).order k 0);
    starts = table h.n (λ k. get_or (order_of h (gates_of t)).starts k 0);
    modes = table h.n (mode_of_qubit h (gates_of t));
  }

-- ---- said of the lent work: w is relabelled as w₁, fused as w₂, ordered as w₃, and its items counted as w₄

module _ {t : List ℕ} {h : Header} {w w₁ w₂ : Lent} {relabel : Bool} {swaps : ℕ} {tl : Tally} (is : WorkFor t h w) (e : relabel ≡ relabels_of h)
    (r : Relabels relabel t w w₁ swaps) (f : Fuses relabel h.tolerance w₁ w₂ swaps tl) where
  relabelled-here : Relabelled (relabels_of h) t w.floats w₁.floats w.marks w₁.marks w.gates h.n swaps
  relabelled-here = rw (e, is.slots) at r.relabelled

  fused-here : Whole (relabels_of h) h.tolerance w₁.floats w₂.floats w₁.marks w₂.marks w.gates h.n swaps tl
  fused-here = rw (e, r.sizes.gates, r.sizes.slots, is.slots) at f.whole

  gates₂ : w₂.gates ≡ w.gates
  gates₂ = f.sizes.gates ∙ r.sizes.gates

  slots₂ : w₂.slots ≡ h.n
  slots₂ = f.sizes.slots ∙ r.sizes.slots ∙ is.slots

  pub wires-there : WiresInSlots w₂
  wires-there =
      rw (gates₂, slots₂)
      (pairs_below t h is.tape.gates.good w.gates swaps w.floats w₁.floats w₂.floats w.marks w₁.marks w₂.marks tl relabelled-here fused-here)

  module _ {w₃ : Lent} {reorder : Bool} {o : Ordering} (q : reorder ≡ reorders_of h)
      (a : Orders w₂ w₃ (choose_order_of reorder w₂.slots (pairs_of_work w₂)) o) where
    arranged-here : Arranges w₂.marks w₃.marks h.n (choose_order_of (reorders_of h) h.n (pairs_in w₂.marks (w.gates + h.n))) o
    arranged-here = rw (q, gates₂, slots₂) at a.arranged

    gates₃ : w₃.gates ≡ w.gates
    gates₃ = a.rest.gates ∙ gates₂

    slots₃ : w₃.slots ≡ h.n
    slots₃ = a.rest.slots ∙ slots₂

    told-here : Told t h w.gates w₃.floats w₃.marks tl o
    told-here =
        rw a.rest.floats
        (told t h is.tape.gates.good w.gates swaps w.floats w₁.floats w₂.floats w.marks w₁.marks w₂.marks tl relabelled-here fused-here
        w₃.marks o arranged-here)

    pub items-held : Held w₃
    items-held = rw (gates₃, slots₃) told-here.below

    module _ {w₄ : Lent} {c : Counts} (k : CountsAll c w₃ w₄) where
      pub tables-there : TablesThere w₄
      tables-there =
          let d = told-here in
          let n = is.tape.qubits in
          rw (k.rest.slots, k.rest.marks, slots₃) (record {
            qubits = record { few = n; slots = d.lab-below; content = d.content-below; modes = d.pos-below };
            order = λ i l. omega (arith, d.order_below i l, n);
            starts = d.start-below;
          })

      counted-here : Counted c w₃.floats w₄.floats w₃.marks (w.gates + h.n)
      counted-here = rw (gates₃, slots₃) at k.counted

      pub parts : Parts t h w₃ w₄ tl o
      parts =
          let d = told-here in
          record {
            counts = rw (gates₃, slots₃) d.counts;
            swaps = d.swaps;
            angled = d.angled;
            name = d.name;
            tables = rw (k.rest.slots, k.rest.marks, slots₃) (λ z. record { order = d.order z; starts = d.starts z; modes = d.qubits z });
          }

      pub detects : {rep : Report} → rep ≡ reported_of h (gates_of t) → (rep.free ≡ true → c.bad ≡ 0) → Detects h (gates_of t) w w₄ rep
      detects is-told free = record {
        sizes = record { gates = k.rest.gates ∙ gates₃; slots = k.rest.slots ∙ slots₃ ∙ sym is.slots };
        detected = rw k.rest.marks (record {
          report = is-told;
          items = items_keep w₃.floats w₄.floats w₃.marks counted-here.same _ ∙ told-here.items;
          modes = told-here.modes;
          below = below-counted w₃.floats w₃.marks c w₄.floats _ counted-here h.n told-here.below;
          kept = λ y. counted-here.kept (free y);
        });
      }
