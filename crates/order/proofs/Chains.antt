-- Chains of the edges with the same smaller wire: a search along the chain of a pair's smaller wire is a search among all edges, an edge that grows
-- stays in its chain, and a new one goes to the head of its chain. By the laws of `seek`. Assumes nothing.
use mathlib.Core.Path.{◌≡◌, refl, sym, ap, ap₂, subst, ◌∙◌}
use mathlib.Core.Bool.{Bool, true, false, cond, ◌&&◌, false≢true}
use mathlib.Core.List.{List}
use mathlib.Core.Logic.{◌⊎◌, inl, inr, ◌≢◌}
use Prim.Native.Nat.{ℕ, zero, suc, ◌+◌, ◌≤◌, ◌<◌}
use native.Mathlib.Nat.{not-suc-le-zero, eq-or-lt_of_le}
use native.Mathlib.Numerals.{add-one}
use native.Mathlib.Omega.{arith}
use lib.Dec.{eqb}
use borrow.Author.Tests.{eq-eqb, ne_eqb, eqb-true}
use Rattle.laws.specs.Views.{seek}
use Rattle.laws.proofs.Views.{seek-none, seek-gap, seek-fails, seek-passes}
use Rattle.std.proofs.lemmas.Bool.{cases_eq, cond_both}
use Rattle.work.specs.Sizes.{record_marks}
use Rattle.work.specs.Marks.{mark_at, put_mark, Only, Records}
use Rattle.work.specs.Columns.{head_column, next_column}
use Rattle.work.proofs.Records.{put-here, put_record, only_same, only-trans, only-put}
use Rattle.order.specs.declared.edges.Edge.{Edge}
use Rattle.order.specs.declared.edges.Pair.{Pair}
use Rattle.order.specs.Weights.{edge, joins_of, heavier_of}
use Rattle.order.specs.Slice.{columns, tally_columns, edge_at, put_edge, on_wire, joins_at, pair_on, Chained, Unchained, put_heavier, put_new}
use Rattle.order.proofs.Triples.{put-away, edge_of, edge_here, edge-away, edge-only, edges-stay, only-columns}

-- ---- the search

module _ (p q : ℕ → Bool) where
  pub seek-same : (n : ℕ) → ((i : ℕ) → i < n → p i ≡ q i) → seek p n ≡ seek q n
  unfolding seek
  seek-same zero h = refl
  seek-same (suc n) h = rw (h n (omega arith), seek-same n (λ i l. h i (omega arith)))

  -- what passes p passes q: nothing is missed by a jump to the last that passes q
  pub seek-within : ((i : ℕ) → q i ≡ false → p i ≡ false) → (n : ℕ) → seek p n ≡ seek p (seek q n)
  unfolding seek
  seek-within h zero = refl
  seek-within h (suc n) = cond_both (q n) _ _ (λ z. cond (p n) (suc n) (seek p n) ≡ seek p z) (λ _. refl) (λ e. rw (h n e) (seek-within h n))

module _ (q : ℕ → Bool) where
  seek-most : (n : ℕ) → seek q n ≤ n
  seek-most n = omega (arith, seek-gap q n)

  -- none passes
  seek-last : (n : ℕ) → q n ≡ true → seek q (n + 1) ≡ n + 1
  unfolding seek
  seek-last n t = rw (add-one n, t)

  seek-before : (n : ℕ) → q n ≡ false → seek q (n + 1) ≡ seek q n
  unfolding seek
  seek-before n t = rw (add-one n, t)

-- ---- along a chain

-- the edge of the pair q is among the first p, and the last of these has its smaller wire
pub record Walks (us : List ℕ) (m : ℕ) (q : Pair) (p : ℕ) : Type 0 where
  pub few : p ≤ m
  pub wire : (i : ℕ) → p ≡ i + 1 → (edge_at us i).lo ≡ q.lo
  pub same : seek (joins_at us q) m ≡ seek (joins_at us q) p

module _ (us : List ℕ) (m n : ℕ) (q : Pair) (c : Chained us m n) where
  -- a jump to the last of the first k that has its smaller wire
  jump : (k p : ℕ) → k ≤ m → seek (joins_at us q) m ≡ seek (joins_at us q) k → p ≡ seek (on_wire us q.lo) k → Walks us m q p
  jump k p f s e = record {
    few = omega (arith, e, seek-most (on_wire us q.lo) k);
    wire = λ i g. eqb-true (edge_at us i).lo q.lo (seek-passes (on_wire us q.lo) k i (omega (arith, e, g)));
    same = s ∙ seek-within (joins_at us q) (on_wire us q.lo) other k ∙ ap (seek (joins_at us q)) (sym e);
  }
    where
      other : (i : ℕ) → on_wire us q.lo i ≡ false → joins_at us q i ≡ false
      other i e = rw e

  pub walk_start : (p : ℕ) → q.lo < n → p ≡ mark_at us q.lo head_column → Walks us m q p
  walk_start p g e = jump m p (omega arith) refl (e ∙ c.head q.lo g)

  -- at edge i
  module _ (i : ℕ) (w : Walks us m q (i + 1)) where
    own : eqb (edge_at us i).lo q.lo ≡ true
    own = eq-eqb (edge_at us i).lo q.lo (w.wire i refl)

    before : mark_at us i next_column ≡ seek (on_wire us q.lo) i
    before = c.next i (omega (arith, w.few)) ∙ ap (λ (l : ℕ). seek (on_wire us l) i) (w.wire i refl)

    pub walk-hits : (edge_at us i).hi ≡ q.hi → i + 1 ≡ seek (joins_at us q) m
    walk-hits e = sym (w.same ∙ seek-last (joins_at us q) i hit)
      where
        hit : joins_at us q i ≡ true
        hit = rw (own, eq-eqb (edge_at us i).hi q.hi e)

    pub walk_more : (r : ℕ) → (edge_at us i).hi ≢ q.hi → r ≡ mark_at us i next_column → Walks us m q r
    walk_more r ne e = jump i r (omega (arith, w.few)) (w.same ∙ seek-before (joins_at us q) i miss) (e ∙ before)
      where
        miss : joins_at us q i ≡ false
        miss = rw (own, ne_eqb (edge_at us i).hi q.hi ne)

    pub walk-falls : (r : ℕ) → r ≡ mark_at us i next_column → r < i + 1
    walk-falls r e = omega (arith, e, before, seek-most (on_wire us q.lo) i)

  pub walk_ends : Walks us m q 0 → 0 ≡ seek (joins_at us q) m
  walk_ends w = sym (w.same ∙ sym (seek-none (joins_at us q) 0 (omega arith)))

-- ---- no edges

pub unchain-start : (us : List ℕ) → Unchained us us 0
unchain-start us = record { none = λ w h. absurd (not-suc-le-zero h); only = only_same (columns 15 15) us }

pub unchain-more : (us vs ws : List ℕ) (i : ℕ) → Records us (i + 1) → Unchained us vs i → ws ≡ put_mark vs i head_column 0 → Unchained us ws (i + 1)
unchain-more us vs ws i room l put = record {
  none = λ w h. ap (λ (l : List ℕ). mark_at l w head_column) put ∙ by w (eq-or-lt_of_le (omega arith));
  only = only-trans (columns 15 15) us vs ws l.only (subst (Only (columns 15 15) vs) (sym put) (only-put (columns 15 15) vs i 15 0 (omega arith) refl));
}
  where
    by : (w : ℕ) → (w ≡ i) ⊎ (w < i) → mark_at (put_mark vs i head_column 0) w head_column ≡ 0
    by w (inl e) = rw e (put-here vs i head_column 0 (omega (arith, l.only.size)))
    by w (inr h) = put_record vs i head_column 0 w (λ e. omega (arith, e, h)) ∙ l.none w h

pub unchained : (us vs : List ℕ) (n : ℕ) → Unchained us vs n → Chained vs 0 n
unchained us vs n u = record {
  head = λ l h. u.none l h ∙ seek-none (on_wire vs l) 0 (omega arith);
  next = λ i h. absurd (not-suc-le-zero h);
  once = λ i j h. absurd (not-suc-le-zero h);
}

joins-same : {a b c d x y z w : ℕ} → a ≡ x → b ≡ y → c ≡ z → d ≡ w → (eqb a c && eqb b d) ≡ (eqb x z && eqb y w)
joins-same p q r s = cc

-- ---- an edge grows

module _ (us : List ℕ) (i : ℕ) where
  grown-only : Only (columns 14 14) us (put_heavier us i)
  grown-only = only-put (columns 14 14) us i 14 ((edge_at us i).weight + 1) (omega arith) refl

  pub grown-here : Records us (i + 1) → edge_at (put_heavier us i) i ≡ heavier_of (edge_at us i)
  grown-here r =
      edge_of (grown-only.same i 12 (omega arith) refl) (grown-only.same i 13 (omega arith) refl)
      (put-here us i 14 ((edge_at us i).weight + 1) (omega arith))

  pub grown-away : (j : ℕ) → j ≢ i → edge_at (put_heavier us i) j ≡ edge_at us j
  grown-away j ne = edge_of (away 12 (omega arith)) (away 13 (omega arith)) (away 14 (omega arith))
    where
      away : (d : ℕ) → d < record_marks → mark_at (put_heavier us i) j d ≡ mark_at us j d
      away d h = put-away us i 14 ((edge_at us i).weight + 1) j d (omega arith) h ne

  pub grown-tally : Only tally_columns us (put_heavier us i)
  grown-tally = only-columns 14 14 11 15 us (put_heavier us i) (omega arith) (omega arith) grown-only

  pub grown-chained : (m n : ℕ) → Chained us m n → Chained (put_heavier us i) m n
  grown-chained m n c = record {
    head = λ l h. grown-only.same l 15 (omega arith) refl ∙ c.head l h ∙ searched l m;
    next = λ j h.
        grown-only.same j 11 (omega arith) refl ∙ c.next j h ∙ searched (edge_at us j).lo j
        ∙ ap (λ (l : ℕ). seek (on_wire (put_heavier us i) l) j) (sym (lo-same j));
    once = λ j k h g. joins-same (lo-same k) (hi-same k) (lo-same j) (hi-same j) ∙ c.once j k h g;
  }
    where
      lo-same : (j : ℕ) → (edge_at (put_heavier us i) j).lo ≡ (edge_at us j).lo
      lo-same j = grown-only.same j 12 (omega arith) refl

      hi-same : (j : ℕ) → (edge_at (put_heavier us i) j).hi ≡ (edge_at us j).hi
      hi-same j = grown-only.same j 13 (omega arith) refl

      searched : (l k : ℕ) → seek (on_wire us l) k ≡ seek (on_wire (put_heavier us i) l) k
      searched l k = seek-same (on_wire us l) (on_wire (put_heavier us i) l) k (λ j g. ap (λ (x : ℕ). eqb x l) (sym (lo-same j)))

-- ---- a new edge

module _ (us : List ℕ) (m n : ℕ) (p : Pair) (room : Records us (m + 1)) (wide : Records us n) (low : p.lo < n) where
  one : List ℕ
  one = put_edge us m (edge p.lo p.hi 1)

  two : List ℕ
  two = put_mark one m next_column (mark_at us p.lo head_column)

  after-edge : Only (columns 12 14) us one
  unfolding one
  after-edge = edge-only us m (edge p.lo p.hi 1)

  after_next : Only (columns 11 11) one two
  unfolding two
  after_next = only-put (columns 11 11) one m 11 (mark_at us p.lo head_column) (omega arith) refl

  after-head : Only (columns 15 15) two (put_new us m p)
  unfolding two one
  after-head = only-put (columns 15 15) two p.lo 15 (m + 1) (omega arith) refl

  edge_stays : (i : ℕ) → edge_at (put_new us m p) i ≡ edge_at one i
  edge_stays i = edges-stay (columns 15 15) two (put_new us m p) refl refl refl after-head i ∙ edges-stay (columns 11 11) one two refl refl refl after_next i

  pub new-here : edge_at (put_new us m p) m ≡ edge p.lo p.hi 1
  unfolding one
  new-here = edge_stays m ∙ edge_here us m (edge p.lo p.hi 1) room

  pub new-away : (i : ℕ) → i ≢ m → edge_at (put_new us m p) i ≡ edge_at us i
  unfolding one
  new-away i ne = edge_stays i ∙ edge-away us m (edge p.lo p.hi 1) i ne

  pub new-tally : Only tally_columns us (put_new us m p)
  new-tally =
      only-trans tally_columns us two (put_new us m p)
      (only-trans tally_columns us one two (only-columns 12 14 11 15 us one (omega arith) (omega arith) after-edge)
      (only-columns 11 11 11 15 one two (omega arith) (omega arith) after_next))
      (only-columns 15 15 11 15 two (put_new us m p) (omega arith) (omega arith) after-head)

  -- heads and next edges: before the head was put, and then
  head-stays : (l : ℕ) → mark_at two l head_column ≡ mark_at us l head_column
  head-stays l = after_next.same l 15 (omega arith) refl ∙ after-edge.same l 15 (omega arith) refl

  head-here : mark_at (put_new us m p) p.lo head_column ≡ m + 1
  unfolding two one
  head-here = put-here two p.lo head_column (m + 1) (omega (arith, after_next.size, after-edge.size))

  head-away : (l : ℕ) → l ≢ p.lo → mark_at (put_new us m p) l head_column ≡ mark_at us l head_column
  unfolding two one
  head-away l ne = put_record two p.lo head_column (m + 1) l ne ∙ head-stays l

  next_here : mark_at (put_new us m p) m next_column ≡ mark_at us p.lo head_column
  unfolding two
  next_here =
      after-head.same m 11 (omega arith) refl ∙ put-here one m next_column (mark_at us p.lo head_column) (omega (arith, after-edge.size))

  next-away : (i : ℕ) → i ≢ m → mark_at (put_new us m p) i next_column ≡ mark_at us i next_column
  unfolding two
  next-away i ne =
      after-head.same i 11 (omega arith) refl ∙ put_record one m next_column (mark_at us p.lo head_column) i ne
      ∙ after-edge.same i 11 (omega arith) refl

  module _ (c : Chained us m n) (none : (i : ℕ) → i < m → joins_at us p i ≡ false) where
    searched : (l k : ℕ) → k ≤ m → seek (on_wire us l) k ≡ seek (on_wire (put_new us m p) l) k
    searched l k h =
        seek-same (on_wire us l) (on_wire (put_new us m p) l) k
        (λ i g. ap (λ (e : Edge). eqb e.lo l) (sym (new-away i (λ e. omega (arith, e, g, h)))))

    new-head : (l : ℕ) → l < n → (l ≡ p.lo) ⊎ (l ≢ p.lo) → mark_at (put_new us m p) l head_column ≡ seek (on_wire (put_new us m p) l) (m + 1)
    new-head l h (inl e) =
        ap (λ (l : ℕ). mark_at (put_new us m p) l head_column) e ∙ head-here
        ∙ sym (seek-last (on_wire (put_new us m p) l) m (eq-eqb (edge_at (put_new us m p) m).lo l (ap (λ (e : Edge). e.lo) new-here ∙ sym e)))
    new-head l h (inr ne) =
        head-away l ne ∙ c.head l h ∙ searched l m (omega arith)
        ∙ sym (seek-before (on_wire (put_new us m p) l) m
        (ne_eqb (edge_at (put_new us m p) m).lo l (λ e. ne (sym e ∙ ap (λ (e : Edge). e.lo) new-here))))

    new-next : (i : ℕ) → (i ≡ m) ⊎ (i < m)
        → mark_at (put_new us m p) i next_column ≡ seek (on_wire (put_new us m p) (edge_at (put_new us m p) i).lo) i
    new-next i (inl e) =
        subst (λ (i : ℕ). mark_at (put_new us m p) i next_column ≡ seek (on_wire (put_new us m p) (edge_at (put_new us m p) i).lo) i) (sym e)
        (next_here ∙ c.head p.lo low ∙ searched p.lo m (omega arith)
        ∙ ap (λ (e : Edge). seek (on_wire (put_new us m p) e.lo) m) (sym new-here))
    new-next i (inr h) =
        next-away i (λ e. omega (arith, e, h)) ∙ c.next i h ∙ searched (edge_at us i).lo i (omega arith)
        ∙ ap (λ (e : Edge). seek (on_wire (put_new us m p) e.lo) i) (sym (new-away i (λ e. omega (arith, e, h))))

    new-once : (i j : ℕ) → (i ≡ m) ⊎ (i < m) → j < i → joins_at (put_new us m p) (pair_on (edge_at (put_new us m p) i)) j ≡ false
    new-once i j (inl e) g =
        ap₂ (λ (e f : Edge). joins_of (pair_on e) f) (ap (edge_at (put_new us m p)) e ∙ new-here) (new-away j (λ q. omega (arith, q, e, g)))
        ∙ none j (omega arith)
    new-once i j (inr h) g =
        ap₂ (λ (e f : Edge). joins_of (pair_on e) f) (new-away i (λ q. omega (arith, q, h))) (new-away j (λ q. omega (arith, q, g, h))) ∙ c.once i j h g

    pub new-chained : Chained (put_new us m p) (m + 1) n
    new-chained = record {
      head = λ l h. new-head l h (cases_eq l p.lo);
      next = λ i h. new-next i (eq-or-lt_of_le (omega arith));
      once = λ i j h g. new-once i j (eq-or-lt_of_le (omega arith)) g;
    }

-- ---- the pair's edge

joins_pair : (p : Pair) (e : Edge) → joins_of p e ≡ true → (e.lo ≡ p.lo) × (e.hi ≡ p.hi)
joins_pair p e t = go (eqb e.lo p.lo) (eqb e.hi p.hi) refl refl t
  where
    go : (a b : Bool) → eqb e.lo p.lo ≡ a → eqb e.hi p.hi ≡ b → (a && b) ≡ true → (e.lo ≡ p.lo) × (e.hi ≡ p.hi)
    go true true x y t = (eqb-true e.lo p.lo x, eqb-true e.hi p.hi y)
    go true false x y t = absurd (false≢true t)
    go false b x y t = absurd (false≢true t)

module _ (us : List ℕ) (m : ℕ) (p : Pair) (r : ℕ) (e : r ≡ seek (joins_at us p) m) where
  pub found-few : r ≤ m
  found-few = omega (arith, e, seek-most (joins_at us p) m)

  pub found-joins : (i : ℕ) → r ≡ i + 1 → joins_at us p i ≡ true
  found-joins i g = seek-passes (joins_at us p) m i (omega (arith, e, g))

  -- no pair has two edges, so this is the first
  pub found_first : (n : ℕ) → Chained us m n → (i : ℕ) → r ≡ i + 1 → (k : ℕ) → k < i → joins_at us p k ≡ false
  found_first n c i g k h =
      let o = joins_pair p (edge_at us i) (found-joins i g) in
      joins-same refl refl (sym o.0) (sym o.1) ∙ c.once i k (omega (arith, found-few, g)) h

  pub found_none : r ≡ 0 → (k : ℕ) → k < m → joins_at us p k ≡ false
  found_none g = seek-fails (joins_at us p) m (omega (arith, e, g))
