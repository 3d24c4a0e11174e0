-- The steps of the loops over edges, said of the lent work: what a put edge makes of the list of edges. By the laws of counting and of chains.
-- Assumes nothing.
use mathlib.Core.Path.{◌≡◌, refl, sym, ap, subst, ◌∙◌}
use mathlib.Core.Bool.{false}
use mathlib.Core.List.{List}
use mathlib.Core.Logic.{◌≢◌}
use Prim.Native.Nat.{ℕ, ◌+◌, ◌-◌, ◌≤◌, ◌<◌}
use native.Mathlib.Omega.{arith}
use borrow.Author.Tests.{eq-eqb, ne_eqb}
use Rattle.laws.specs.Views.{up_from, seek}
use Rattle.laws.proofs.Lists.{all-at}
use Rattle.laws.proofs.Views.{up_same}
use Rattle.work.specs.Marks.{Only, Records}
use Rattle.work.specs.Columns.{match_item}
use Rattle.work.proofs.Records.{only_same, only-trans}
use Rattle.order.specs.declared.edges.Pair.{Pair}
use Rattle.order.specs.Weights.{pair_of, add_of, tally_of}
use Rattle.order.specs.Pairs.{ItemRow, item_row, pairs_of, WiresBelow}
use Rattle.order.specs.Slice.{limit, edge_at, edges_in, Light}
use Rattle.order.specs.Slice.{tally_columns, joins_at, Chained, Unchained, put_heavier, put_new, MatchBelow, Added, count_item_of, Counted, Tallied}
use Rattle.order.proofs.Triples.{only-columns}
use Rattle.order.proofs.Counting.{added-hit, added_new, AtMost, edges-light}
use Rattle.order.proofs.Chains.{grown-here, grown-away, grown-tally, grown-chained, new-here, new-away, new-tally, new-chained}
use Rattle.order.proofs.Chains.{unchained, found-few, found-joins, found_first, found_none}
use Rattle.order.proofs.Sums.{up-all, counted_none, counted-more}

-- ---- a pair counted

-- what the search for it found
module _ (us : List ℕ) (m n : ℕ) (p : Pair) (r : ℕ) (e : r ≡ seek (joins_at us p) m) (c : Chained us m n) (room : Records us (m + 1)) where
  -- its edge is there
  pub add-grows : (vs : List ℕ) (i : ℕ) → r ≡ i + 1 → vs ≡ put_heavier us i → Added us vs m n p m
  add-grows vs i g put = subst (λ (l : List ℕ). Added us l m n p m) (sym put) (record {
    list =
        added-hit p (edge_at us) (edge_at (put_heavier us i)) m i (omega (arith, few, g)) (found_first us m p r e n c i g)
        (found-joins us m p r e i g) (grown-here us i (omega (arith, few, g))) (grown-away us i);
    more = (omega arith, omega arith);
    chain = grown-chained us i m n c;
    only = grown-tally us i;
  })
    where
      few : r ≤ m
      few = found-few us m p r e

  -- it is new
  pub add-appends : (vs : List ℕ) → Records us n → p.lo < n → r ≡ 0 → vs ≡ put_new us m p → Added us vs m n p (m + 1)
  add-appends vs wide low g put = subst (λ (l : List ℕ). Added us l m n p (m + 1)) (sym put) (record {
    list = added_new p (edge_at us) (edge_at (put_new us m p)) m none (new-here us m n p room wide low) (new-away us m n p room wide low);
    more = (omega arith, omega arith);
    chain = new-chained us m n p room wide low c none;
    only = new-tally us m n p room wide low;
  })
    where
      none : (k : ℕ) → k < m → joins_at us p k ≡ false
      none = found_none us m p r e g

-- ---- an item counted

pub count-skips : (us : List ℕ) (m n i k : ℕ) → Chained us m n → k ≡ (item_row us i).kind → k ≢ match_item → Counted us us m n i m
count-skips us m n i k c e ne = record {
  list = rw (ne_eqb (item_row us i).kind match_item (λ q. ne (e ∙ q)));
  more = (omega arith, omega arith);
  chain = c;
  only = only_same tally_columns us;
}

pub count-adds : (us vs : List ℕ) (m n i r k : ℕ) (p : Pair) → k ≡ (item_row us i).kind → k ≡ match_item → p ≡ pair_of (item_row us i).a (item_row us i).b
    → Added us vs m n p r → Counted us vs m n i r
count-adds us vs m n i r k p e is q a = record {
  list = rw (eq-eqb (item_row us i).kind match_item (sym e ∙ is)) (a.list ∙ ap (λ (p : Pair). add_of p (edges_in us m)) q);
  more = a.more;
  chain = a.chain;
  only = a.only;
}

pub items_stay : (us vs : List ℕ) → Only tally_columns us vs → (i : ℕ) → item_row vs i ≡ item_row us i
items_stay us vs o i = item_of (o.same i 0 (omega arith) refl) (o.same i 1 (omega arith) refl) (o.same i 2 (omega arith) refl)
  where
    item_of : {k a b l c d : ℕ} → k ≡ l → a ≡ c → b ≡ d → ◌≡◌ {A = ItemRow} (record { kind = k; a = a; b = b }) (record { kind = l; a = c; b = d })
    item_of p q r = cc

-- weights stay below the number of items counted
pub tally-grows : (us vs : List ℕ) (i g m : ℕ) → i ≤ g → g - i < limit → edges_in vs m ≡ tally_of (pairs_of (up_from (item_row us) i (g - i))) → Light vs m
tally-grows us vs i g m h b e j l =
    let o : (edge_at vs j).weight ≤ g - i = all-at (AtMost (g - i)) (edge_at vs) 0 m j (rw e (edges-light (item_row us) i (g - i))) (omega arith)
    (omega arith) in
    omega arith

-- ---- the loop, from the last item on

-- the items from i on are counted
pub record Tallying (us vs : List ℕ) (g n m i : ℕ) : Type 0 where
  pub low : i ≤ g
  pub few : m ≤ g - i
  pub list : edges_in vs m ≡ tally_of (pairs_of (up_from (item_row us) i (g - i)))
  pub chain : Chained vs m n
  pub only : Only tally_columns us vs

-- us at entry, vs before the first item
module _ (us vs : List ℕ) (g n : ℕ) (u : Unchained us vs n) where
  unchain-only : Only tally_columns us vs
  unchain-only = only-columns 15 15 11 15 us vs (omega arith) (omega arith) u.only

  pub unchain-below : WiresBelow us g n → WiresBelow vs g n
  unchain-below b i h =
      subst (λ (x : ItemRow). x.kind ≡ match_item → (x.a < n) × (x.b < n)) (sym (items_stay us vs unchain-only i)) (b i h)

  pub tally-start : Tallying vs vs g n 0 g
  unfolding up_from
  tally-start = record {
    low = omega arith;
    few = omega arith;
    list = counted_none (item_row vs) g;
    chain = unchained us vs n u;
    only = only_same tally_columns vs;
  }

  pub tally-from : (ws : List ℕ) (m : ℕ) → Tallied vs ws g m → Tallied us ws g m
  tally-from ws m t = record {
    list =
        t.list
        ∙ ap (λ (l : List ItemRow). tally_of (pairs_of l)) (up_same (item_row us) (item_row vs) 0 g (λ i a b. items_stay us vs unchain-only i));
    few = t.few;
    only = only-trans tally_columns us vs ws unchain-only t.only;
  }

module _ (us vs : List ℕ) (g n m i : ℕ) (t : Tallying us vs g n m i) where
  pub tally-loads : 0 < i → g ≤ limit → Light vs m
  tally-loads h few = tally-grows us vs i g m t.low (omega (arith, t.low)) t.list

  pub tally-below : 0 < i → WiresBelow us g n → MatchBelow vs (i - 1) n
  tally-below h b =
      subst (λ (x : ItemRow). x.kind ≡ match_item → (x.a < n) × (x.b < n)) (sym (items_stay us vs t.only (i - 1))) (b (i - 1) (omega (arith, t.low)))

  pub tally-more : (ws : List ℕ) (r : ℕ) → 0 < i → Counted vs ws m n (i - 1) r → Tallying us ws g n r (i - 1)
  tally-more ws r h c = record {
    low = omega (arith, t.low);
    few = omega (arith, t.low, t.few, c.more.1);
    list =
        counted-more (item_row us) i g (edges_in vs m) (edges_in ws r) h t.low t.list
        (c.list ∙ ap (λ (x : ItemRow). count_item_of x (edges_in vs m)) (items_stay us vs t.only (i - 1)));
    chain = c.chain;
    only = only-trans tally_columns us vs ws t.only c.only;
  }

  pub tally-ends : i ≤ 0 → Tallied us vs g m
  tally-ends h = record {
    list = t.list ∙ ap (λ (l : List ItemRow). tally_of (pairs_of l)) (up-all (item_row us) i g h);
    few = omega (arith, t.few);
    only = t.only;
  }
