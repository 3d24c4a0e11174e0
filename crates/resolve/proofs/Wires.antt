-- What holds of the items for every choice of cuts: each wire is below n, the content is a permutation of the wires, and there are at most as many items
-- as blocks and slots. By induction on the events. Assumes nothing.
use mathlib.Core.Path.{◌≡◌, refl, sym, ap, ◌∙◌}
use mathlib.Core.Bool.{Bool, true, false, cond}
use mathlib.Core.List.{List, [], ◌∷◌, ◌++◌}
use Prim.Native.Nat.{ℕ, zero, suc, ◌+◌, ◌-◌, ◌≤◌, ◌<◌}
use native.Mathlib.Omega.{arith}
use lib.Dec.{eqb}
use lib.ListN.{length, get_or, length-append}
use lib.Ieee.{Float}
use Rattle.laws.specs.Lists.{All}
use Rattle.laws.specs.Slices.{traded}
use Rattle.laws.specs.Tables.{exchanged}
use Rattle.laws.specs.Views.{list_of}
use Rattle.laws.proofs.Tables.{length-traded, get_or-traded, exchanged-below, exchanged-twice}
use Rattle.laws.proofs.Views.{length-list_of, get_or-list_of}
use Rattle.fuse.specs.Events.{Event, gone, one, two, three}
use Rattle.resolve.specs.Choose.{Choice}
use Rattle.resolve.specs.Items.{ItemsBelow}
use Rattle.resolve.specs.Resolve.{Rest, none, rest, Resolved, lengthened, promised, emptied, renamed, added, passed, item_of, settled, closed, candidates, chosen, resolved, rest_item, with_rests, start_of}

-- ---- the number of items

unfoldable pub blocks : List Event → ℕ
blocks [] = 0
blocks (gone ∷ es) = blocks es
blocks (one w m ∷ es) = blocks es
blocks (two a b u ∷ es) = suc (blocks es)
blocks (three a b c ∷ es) = suc (blocks es)

pub blocks-few : (es : List Event) → blocks es ≤ length es
unfolding blocks
blocks-few [] = omega arith
blocks-few (gone ∷ es) = omega (arith, blocks-few es)
blocks-few (one w m ∷ es) = omega (arith, blocks-few es)
blocks-few (two a b u ∷ es) = omega (arith, blocks-few es)
blocks-few (three a b c ∷ es) = omega (arith, blocks-few es)

module _ (relabel : Bool) (tol : Float) where
  -- every block makes one item
  pub items-of-blocks : (es : List Event) (r : Resolved) → length (resolved relabel tol es r).items ≡ length r.items + blocks es
  unfolding resolved blocks
  items-of-blocks [] r = omega arith
  items-of-blocks (gone ∷ es) r = items-of-blocks es r
  items-of-blocks (one w m ∷ es) r = items-of-blocks es (passed w m r) ∙ ap (λ l. length l + blocks es) (same (eqb (get_or r.splits w 0) 0))
    where
      same : (b : Bool) → (cond b (lengthened w m r) (promised w (get_or r.splits w 0 - 1) r)).items ≡ r.items
      same true = refl
      same false = refl
  items-of-blocks (two a b u ∷ es) r =
      let x = (chosen relabel tol a b u es r).best in
      let y = (chosen relabel tol a b u es r).angled in
      let k = candidates a b es in
      let more = one_more a b k x y x.class.swap r in
      items-of-blocks es (settled a b k x y r) ∙ omega (arith, more)
    where
      one_more : (a b k : ℕ) (x : Choice) (y s : Bool) (r : Resolved)
          → length (cond s (added (item_of a b x r) 1 k y (renamed a b (emptied b x.kb (emptied a x.ka r)))) (added (item_of a b x r) 0 k y (emptied b x.kb (emptied a x.ka r)))).items ≡ suc (length r.items)
      one_more a b k x y true r = refl
      one_more a b k x y false r = refl
  items-of-blocks (three a b c ∷ es) r =
      let ih = items-of-blocks es (closed a b c r) in
      ih ∙ omega arith

-- a remainder makes at most one
pub items-of-rests : (r : Resolved) (k : ℕ) → length (with_rests r k) ≤ length r.items + k
unfolding with_rests
items-of-rests r zero = omega arith
items-of-rests r (suc k) =
    omega (arith, length-append (rest_item (get_or r.content k 0) (get_or r.rests k none)) (with_rests r k), few (get_or r.content k 0) (get_or r.rests k none), items-of-rests r k)
  where
    few : (w : ℕ) (x : Rest) → length (rest_item w x) ≤ 1
    few w none = omega arith
    few w (rest m) = omega arith

-- so there are at most as many items as blocks and slots
pub items-few : (relabel : Bool) (tol : Float) (n swaps : ℕ) (es : List Event) → length (with_rests (resolved relabel tol es (start_of n swaps)) n) ≤ blocks es + n
unfolding start_of
items-few relabel tol n swaps es =
    omega (arith, items-of-rests (resolved relabel tol es (start_of n swaps)) n, items-of-blocks relabel tol es (start_of n swaps))

-- ---- wires

-- the slots of an event are below n
abbrev pub EventBelow : ℕ → Event → Type 0
EventBelow n gone = Unit {0}
EventBelow n (one w m) = w < n
EventBelow n (two a b u) = (a < n) × (b < n)
EventBelow n (three a b c) = (a < n) × (b < n) × (c < n)

-- so are those of each event of a list
abbrev pub EventsBelow : ℕ → List Event → Type 0
EventsBelow n = All (EventBelow n)

-- n wires, each below n, no wire twice
pub record Permutation (n : ℕ) (l : List ℕ) : Type 0 where
  pub size : length l ≡ n
  pub below : (s : ℕ) → s < n → get_or l s 0 < n
  pub apart : (s t : ℕ) → s < n → t < n → get_or l s 0 ≡ get_or l t 0 → s ≡ t

pub identity-permutation : (n : ℕ) → Permutation n (list_of n (λ w. w))
identity-permutation n = record {
  size = length-list_of n (λ w. w);
  below = λ s l. rw (get_or-list_of n (λ w. w) s 0 l) l;
  apart = λ s t l k e. sym (get_or-list_of n (λ w. w) s 0 l) ∙ e ∙ get_or-list_of n (λ w. w) t 0 k;
}

pub traded-permutation : (n a b : ℕ) (l : List ℕ) → a < n → b < n → Permutation n l → Permutation n (traded 0 a b l)
traded-permutation n a b l la lb p = record {
  size = length-traded 0 a b l ∙ p.size;
  below = λ s h. rw (at s) (p.below (exchanged a b s) (exchanged-below a b n s la lb h));
  apart = λ s t h k e.
      sym (exchanged-twice a b s) ∙ ap (exchanged a b) (p.apart (exchanged a b s) (exchanged a b t) (exchanged-below a b n s la lb h) (exchanged-below a b n t la lb k) (sym (at s) ∙ e ∙ at t))
      ∙ exchanged-twice a b t;
}
  where
    at : (s : ℕ) → get_or (traded 0 a b l) s 0 ≡ get_or l (exchanged a b s) 0
    at s = get_or-traded 0 a b l (rw p.size la) (rw p.size lb) s

pub record Wired (n : ℕ) (r : Resolved) : Type 0 where
  pub content : Permutation n r.content
  pub items : ItemsBelow n r.items

module _ (relabel : Bool) (tol : Float) (n : ℕ) where
  pub resolved-wired : (es : List Event) (r : Resolved) → EventsBelow n es → Wired n r → Wired n (resolved relabel tol es r)
  unfolding resolved
  resolved-wired [] r s w = w
  resolved-wired (gone ∷ es) r s w = resolved-wired es r s.1 w
  resolved-wired (one v m ∷ es) r s w = resolved-wired es (passed v m r) s.1 (by (eqb (get_or r.splits v 0) 0))
    where
      by : (b : Bool) → Wired n (cond b (lengthened v m r) (promised v (get_or r.splits v 0 - 1) r))
      by true = record { content = w.content; items = w.items }
      by false = record { content = w.content; items = w.items }
  resolved-wired (two a b u ∷ es) r s w =
      resolved-wired es (settled a b (candidates a b es) (chosen relabel tol a b u es r).best (chosen relabel tol a b u es r).angled r) s.1
      (by (candidates a b es) (chosen relabel tol a b u es r).best (chosen relabel tol a b u es r).angled (chosen relabel tol a b u es r).best.class.swap)
    where
      by : (k : ℕ) (x : Choice) (y c : Bool)
          → Wired n (cond c (added (item_of a b x r) 1 k y (renamed a b (emptied b x.kb (emptied a x.ka r)))) (added (item_of a b x r) 0 k y (emptied b x.kb (emptied a x.ka r))))
      by k x y true = record {
        content = traded-permutation n a b r.content s.0.0 s.0.1 w.content;
        items = ((w.content.below a s.0.0, w.content.below b s.0.1), w.items);
      }
      by k x y false = record { content = w.content; items = ((w.content.below a s.0.0, w.content.below b s.0.1), w.items) }
  resolved-wired (three a b c ∷ es) r s w = resolved-wired es (closed a b c r) s.1 (record { content = w.content; items = (tt, w.items) })

  -- the remainders are on wires of the content
  pub rests-wired : (r : Resolved) (k : ℕ) → k ≤ n → Wired n r → ItemsBelow n (with_rests r k)
  unfolding with_rests
  rests-wired r zero h w = w.items
  rests-wired r (suc k) h w = by (get_or r.rests k none) (rests-wired r k (omega arith) w)
    where
      by : (x : Rest) → ItemsBelow n (with_rests r k) → ItemsBelow n (rest_item (get_or r.content k 0) x ++ with_rests r k)
      by none i = i
      by (rest m) i = (w.content.below k (omega arith), i)

  pub start-wired : (swaps : ℕ) → Wired n (start_of n swaps)
  unfolding start_of
  start-wired swaps = record { content = identity-permutation n; items = tt }
