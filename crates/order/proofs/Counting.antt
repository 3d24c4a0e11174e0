-- Counting pairs in place: the edge of a pair grows or is put at the end, as the definition has it; weights stay below the number of pairs. Edges are a
-- table, edge i the i-th of the list. Assumes nothing.
use mathlib.Core.Path.{◌≡◌, refl, sym, ap, ap₂, subst, ◌∙◌}
use mathlib.Core.Bool.{Bool, true, false, cond}
use mathlib.Core.List.{List, [], ◌∷◌}
use mathlib.Core.Logic.{◌⊎◌, inl, inr, ◌≢◌}
use Prim.Native.Nat.{ℕ, zero, suc, ◌+◌, ◌≤◌, ◌<◌}
use native.Mathlib.Nat.{add-zero, zero-add}
use native.Mathlib.Numerals.{add-one}
use native.Mathlib.Omega.{arith}
use lib.Dec.{eqb}
use Rattle.laws.specs.Lists.{All}
use Rattle.laws.specs.Views.{up_from, list_of}
use Rattle.laws.proofs.Lists.{all_map}
use Rattle.laws.proofs.Views.{up_same}
use Rattle.std.proofs.lemmas.Bool.{cases_eq, cond_both}
use Rattle.work.specs.Columns.{match_item}
use Rattle.order.specs.declared.edges.Edge.{Edge}
use Rattle.order.specs.declared.edges.Pair.{Pair}
use Rattle.order.specs.Weights.{pair_of, edge, joins_of, heavier_of, add_of, tally_of}
use Rattle.order.specs.Pairs.{ItemRow, pairs_of}
use Rattle.order.specs.Slice.{count_item_of}

-- ---- one pair more

module _ (p : Pair) (E F : ℕ → Edge) where
  -- edge j is the first of the pair, from k on
  add-hit : (k n j : ℕ) → k ≤ j → j < k + n → ((i : ℕ) → k ≤ i → i < j → joins_of p (E i) ≡ false) → joins_of p (E j) ≡ true
      → F j ≡ heavier_of (E j) → ((i : ℕ) → i ≢ j → F i ≡ E i) → up_from F k n ≡ add_of p (up_from E k n)
  unfolding up_from add_of
  add-hit k zero j h g u v f s = absurd (omega arith)
  add-hit k (suc n) j h g u v f s =
      go (cases_eq k j) (λ ne. add-hit (suc k) n j (omega (arith, ne)) (omega arith) (λ i a b. u i (omega arith) b) v f s)
    where
      go : (k ≡ j) ⊎ (k ≢ j) → (k ≢ j → up_from F (suc k) n ≡ add_of p (up_from E (suc k) n))
          → F k ∷ up_from F (suc k) n ≡ cond (joins_of p (E k)) (heavier_of (E k) ∷ up_from E (suc k) n) (E k ∷ add_of p (up_from E (suc k) n))
      go (inl e) r =
          rw (ap (λ (i : ℕ). joins_of p (E i)) e ∙ v)
          (ap₂ ◌∷◌ (ap F e ∙ f ∙ ap (λ (i : ℕ). heavier_of (E i)) (sym e)) (up_same E F (suc k) n (λ i a b. s i (λ q. omega (arith, q, e, a)))))
      go (inr ne) r = rw (u k (omega arith) (omega (arith, ne))) (ap₂ ◌∷◌ (s k ne) (r ne))

  -- no edge is the pair's
  add-new : (k n : ℕ) → ((i : ℕ) → k ≤ i → i < k + n → joins_of p (E i) ≡ false) → F (k + n) ≡ edge p.lo p.hi 1
      → ((i : ℕ) → i ≢ k + n → F i ≡ E i) → up_from F k (suc n) ≡ add_of p (up_from E k n)
  unfolding up_from add_of
  add-new k zero u f s = ap (λ (e : Edge). e ∷ []) (ap F (sym (add-zero k)) ∙ f)
  add-new k (suc n) u f s =
      rw (u k (omega arith) (omega arith))
      (ap₂ ◌∷◌ (s k (λ q. omega (arith, q)))
      (add-new (suc k) n (λ i a b. u i (omega arith) (omega arith)) (ap F next ∙ f) (λ i a. s i (λ q. a (q ∙ sym next)))))
    where
      next : suc k + n ≡ k + suc n
      next = omega arith

pub added-hit : (p : Pair) (E F : ℕ → Edge) (m j : ℕ) → j < m → ((i : ℕ) → i < j → joins_of p (E i) ≡ false) → joins_of p (E j) ≡ true
    → F j ≡ heavier_of (E j) → ((i : ℕ) → i ≢ j → F i ≡ E i) → list_of m F ≡ add_of p (list_of m E)
added-hit p E F m j h u v f s = add-hit p E F 0 m j (omega arith) (omega arith) (λ i a b. u i b) v f s

pub added_new : (p : Pair) (E F : ℕ → Edge) (m : ℕ) → ((i : ℕ) → i < m → joins_of p (E i) ≡ false) → F m ≡ edge p.lo p.hi 1
    → ((i : ℕ) → i ≢ m → F i ≡ E i) → list_of (m + 1) F ≡ add_of p (list_of m E)
added_new p E F m u f s =
    rw (add-one m) (add-new p E F 0 m (λ i a b. u i (omega arith)) (ap F (zero-add m) ∙ f) (λ i a. s i (λ q. a (q ∙ sym (zero-add m)))))

-- ---- an item counted

pub counted-cons : (t : ItemRow) (ts : List ItemRow) → tally_of (pairs_of (t ∷ ts)) ≡ count_item_of t (tally_of (pairs_of ts))
unfolding pairs_of tally_of
counted-cons t ts = go (eqb t.kind match_item)
  where
    go : (b : Bool) → tally_of (cond b (pair_of t.a t.b ∷ pairs_of ts) (pairs_of ts)) ≡ cond b
        (add_of (pair_of t.a t.b) (tally_of (pairs_of ts))) (tally_of (pairs_of ts))
    go true = refl
    go false = refl

-- ---- weights

-- at most one more with each pair
abbrev pub AtMost : ℕ → Edge → Type 0
AtMost k e = e.weight ≤ k

lighter : (k : ℕ) (fs : List Edge) → All (AtMost k) fs → All (AtMost (k + 1)) fs
lighter k = all_map (λ f g. omega (arith, g))

add-light : (p : Pair) (k : ℕ) (es : List Edge) → All (AtMost k) es → All (AtMost (k + 1)) (add_of p es)
unfolding add_of
add-light p k [] h = (omega arith, tt)
add-light p k (e ∷ es) h =
    cond_both (joins_of p e) _ _ (All (AtMost (k + 1)))
    (λ _. (omega (arith, h.0), (lighter k es h.1))) (λ _. (omega (arith, h.0), (add-light p k es h.1)))

count-light : (t : ItemRow) (k : ℕ) (es : List Edge) → All (AtMost k) es → All (AtMost (k + 1)) (count_item_of t es)
count-light t k es h = go (eqb t.kind match_item)
  where
    go : (b : Bool) → All (AtMost (k + 1)) (cond b (add_of (pair_of t.a t.b) es) es)
    go true = add-light (pair_of t.a t.b) k es h
    go false = lighter k es h

pub edges-light : (T : ℕ → ItemRow) (k n : ℕ) → All (AtMost n) (tally_of (pairs_of (up_from T k n)))
unfolding up_from pairs_of tally_of
edges-light T k zero = tt
edges-light T k (suc n) =
    subst (All (AtMost (suc n))) (sym (counted-cons (T k) (up_from T (suc k) n)))
    (subst (λ (m : ℕ). All (AtMost m) (count_item_of (T k) (tally_of (pairs_of (up_from T (suc k) n))))) (add-one n)
    (count-light (T k) n (tally_of (pairs_of (up_from T (suc k) n))) (edges-light T (suc k) n)))
