-- What holds of the wires of every pair holds of the wires of every edge, counted and sorted; so wires stay below n. By induction on the lists.
-- Assumes nothing.
use mathlib.Core.Path.{◌≡◌, refl}
use mathlib.Core.Bool.{Bool, true, false, cond}
use mathlib.Core.List.{List, [], ◌∷◌}
use Prim.Native.Nat.{ℕ, zero, suc, ◌+◌, ◌≤◌, ◌<◌}
use native.Mathlib.Omega.{arith}
use lib.Dec.{eqb, ltb}
use borrow.Author.Tests.{eqb-true}
use Rattle.std.proofs.lemmas.Bool.{cond_both}
use Rattle.laws.specs.Lists.{All}
use Rattle.laws.specs.Views.{up_from, list_of}
use Rattle.work.specs.Columns.{match_item}
use Rattle.order.specs.declared.edges.Edge.{Edge}
use Rattle.order.specs.declared.edges.Pair.{Pair}
use Rattle.order.specs.Weights.{pair_of, joins_of, add_of, tally_of, sooner_of, insert_of, heaviest_of, edges_of}
use Rattle.order.specs.Pairs.{ItemRow, pairs_of}

-- ---- edges sorted

module _ (P : Edge → Type 0) where
  pub insert_all : (e : Edge) (es : List Edge) → P e → All P es → All P (insert_of e es)
  unfolding insert_of
  insert_all e [] a h = (a, tt)
  insert_all e (f ∷ fs) a h = cond_both (sooner_of e f) _ _ (All P) (λ _. (a, h)) (λ _. (h.0, (insert_all e fs a h.1)))

  pub heaviest-all : (es : List Edge) → All P es → All P (heaviest_of es)
  unfolding heaviest_of
  heaviest-all [] h = tt
  heaviest-all (e ∷ es) h = insert_all e (heaviest_of es) h.0 (heaviest-all es h.1)

-- ---- pairs counted

module _ (P : ℕ → ℕ → Type 0) where
  abbrev pub OnPair : Pair → Type 0
  OnPair p = P p.lo p.hi

  abbrev pub OnEdge : Edge → Type 0
  OnEdge e = P e.lo e.hi

  pub pair-on : (a b : ℕ) → P a b → P b a → OnPair (pair_of a b)
  pair-on a b h k = cond_both (ltb b a) _ _ OnPair (λ _. k) (λ _. h)

  pub add-all : (p : Pair) (es : List Edge) → OnPair p → All OnEdge es → All OnEdge (add_of p es)
  unfolding add_of
  add-all p [] a h = (a, tt)
  add-all p (e ∷ es) a h = cond_both (joins_of p e) _ _ (All OnEdge) (λ _. h) (λ _. (h.0, (add-all p es a h.1)))

  pub tally-all : (ps : List Pair) → All OnPair ps → All OnEdge (tally_of ps)
  unfolding tally_of
  tally-all [] h = tt
  tally-all (p ∷ ps) h = add-all p (tally_of ps) h.0 (tally-all ps h.1)

  pub edges-all : (ps : List Pair) → All OnPair ps → All OnEdge (edges_of ps)
  unfolding edges_of
  edges-all ps h = heaviest-all OnEdge (tally_of ps) (tally-all ps h)

-- ---- wires below n

abbrev pub Below : ℕ → ℕ → ℕ → Type 0
Below n a b = (a < n) × (b < n)

pairs_below : (n : ℕ) (T : ℕ → ItemRow) (k g : ℕ) → ((i : ℕ) → k ≤ i → i < k + g → (T i).kind ≡ match_item → Below n (T i).a (T i).b)
    → All (OnPair (Below n)) (pairs_of (up_from T k g))
unfolding up_from pairs_of
pairs_below n T k zero h = tt
pairs_below n T k (suc g) h = go (eqb (T k).kind match_item) refl (pairs_below n T (suc k) g (λ i a b. h i (omega arith) (omega arith)))
  where
    rest : List Pair
    rest = pairs_of (up_from T (suc k) g)

    go : (t : Bool) → eqb (T k).kind match_item ≡ t → All (OnPair (Below n)) rest
        → All (OnPair (Below n)) (cond t (pair_of (T k).a (T k).b ∷ rest) rest)
    go true e r = let o = h k (omega arith) (omega arith) (eqb-true (T k).kind match_item e) in
        (pair-on (Below n) (T k).a (T k).b o (o.1, o.0), r)
    go false e r = r

pub edges-below : (n : ℕ) (T : ℕ → ItemRow) (g : ℕ) → ((i : ℕ) → i < g → (T i).kind ≡ match_item → Below n (T i).a (T i).b)
    → All (OnEdge (Below n)) (edges_of (pairs_of (list_of g T)))
edges-below n T g h = edges-all (Below n) (pairs_of (list_of g T)) (pairs_below n T 0 g (λ i a b. h i (omega arith)))
