-- Resolving the splits (000, `fuse`, its second loop): blocks in time order take the one-qubit gates before them on their slots, and as many of those
-- after them as the choice says. What a slot holds is its remainder: the time product of the one-qubit gates on it that no block has taken, if there are
-- any. 000's `split` of a segment is kept with the slot and counted down: so many of the next gates belong to the block before. Assumes nothing.
-- A public promise rests on this.
use Rattle.std.specs.Prelude.{Bool, false, cond, ◌||◌, List, [], ◌∷◌, ◌++◌, ℕ, zero, suc, ◌+◌, ◌-◌, eqb, length, get_or, set, Float}
use Rattle.laws.specs.Slices.{traded}
use Rattle.laws.specs.Views.{list_of}
use Rattle.gate.specs.Matrix.{id2, mul2_of, mul4_of, kron_of}
use Rattle.gate.specs.declared.matrix.Mat2.{Mat2}
use Rattle.gate.specs.declared.matrix.Mat4.{Mat4}
use Rattle.fuse.specs.Events.{Event, gone, one, two, three}
use Rattle.classify.specs.Classify.{residual_of}
use Rattle.resolve.specs.Items as Items
use Rattle.resolve.specs.Items.{Item, kind_of}
use Rattle.resolve.specs.Cuts.{ahead, prefix_of}
use Rattle.resolve.specs.Choose.{Choice, Search, offers, choose_of}

-- ---- remainders

pub data Rest : Type 0 where
  none : Rest
  rest : Mat2 → Rest

-- what a block takes from a slot: an empty product is the identity
abbrev pub opened : Rest → Mat2
opened none = id2
opened (rest m) = m

-- one gate more on the slot
abbrev pub longer : Mat2 → Rest → Rest
longer m r = rest (mul2_of m (opened r))

-- ---- the state, after some of the events

pub record Resolved : Type 0 where
  -- of each slot: its remainder, how many of the next gates on it are taken, and the wire in it
  pub rests : List Rest
  pub splits : List ℕ
  pub content : List ℕ
  -- the newest first
  pub items : List Item
  -- SWAPs made renamings, candidates classified, and whether one of them was angled
  pub swaps : ℕ
  pub tried : ℕ
  pub angled : Bool

-- ---- its changes

-- one gate more of the remainder on w
abbrev pub lengthened : ℕ → Mat2 → Resolved → Resolved
lengthened w m r = record {
  rests = set r.rests w (longer m (get_or r.rests w none));
  splits = r.splits;
  content = r.content;
  items = r.items;
  swaps = r.swaps;
  tried = r.tried;
  angled = r.angled;
}

-- the slot w has k gates that are taken before they come
abbrev pub promised : ℕ → ℕ → Resolved → Resolved
promised w k r = record {
  rests = r.rests;
  splits = set r.splits w k;
  content = r.content;
  items = r.items;
  swaps = r.swaps;
  tried = r.tried;
  angled = r.angled;
}

-- a block on w takes what is there, and the next k gates
abbrev pub emptied : ℕ → ℕ → Resolved → Resolved
emptied w k r = record {
  rests = set r.rests w none;
  splits = set r.splits w k;
  content = r.content;
  items = r.items;
  swaps = r.swaps;
  tried = r.tried;
  angled = r.angled;
}

-- the wires in a and b change places
abbrev pub renamed : ℕ → ℕ → Resolved → Resolved
renamed a b r = record {
  rests = r.rests;
  splits = r.splits;
  content = traded 0 a b r.content;
  items = r.items;
  swaps = r.swaps;
  tried = r.tried;
  angled = r.angled;
}

-- one item more, with its part of the counts
abbrev pub added : Item → ℕ → ℕ → Bool → Resolved → Resolved
added x swaps tried angled r = record {
  rests = r.rests;
  splits = r.splits;
  content = r.content;
  items = x ∷ r.items;
  swaps = r.swaps + swaps;
  tried = r.tried + tried;
  angled = r.angled || angled;
}

-- ---- one event

-- a one-qubit gate on w: the next of the remainder, unless the block before has taken it
abbrev pub passed : ℕ → Mat2 → Resolved → Resolved
passed w m r = cond (eqb (get_or r.splits w 0) 0) (lengthened w m r) (promised w (get_or r.splits w 0 - 1) r)

-- the item of a block on (a, b) as it was chosen: on the wires that the slots hold before it renames them
abbrev pub item_of : ℕ → ℕ → Choice → Resolved → Item
item_of a b x r = Items.two (kind_of x.class.kind) (get_or r.content a 0) (get_or r.content b 0) (residual_of x.class.kind) x.class.v

-- that block, with n candidates tried; where it is SWAP · v, v is applied and the wires renamed
abbrev pub settled : ℕ → ℕ → ℕ → Choice → Bool → Resolved → Resolved
settled a b n x angled r =
    let r' = emptied b x.kb (emptied a x.ka r) in
    cond x.class.swap (added (item_of a b x r) 1 n angled (renamed a b r')) (added (item_of a b x r) 0 n angled r')

-- an opaque block: what was on its slots goes with it, and everything after it to the next block
abbrev pub closed : ℕ → ℕ → ℕ → Resolved → Resolved
closed a b c r = added Items.opaque 0 0 false (emptied c 0 (emptied b 0 (emptied a 0 r)))

-- ---- the events, the oldest first

-- how many candidates the block on (a, b) has that the events `es` follow: each of them is classified, once
unfoldable pub candidates : ℕ → ℕ → List Event → ℕ
candidates a b es = length (offers (length (ahead a es)) (length (ahead b es)))

-- how many candidates are classified: those of each block
unfoldable pub classified : List Event → ℕ
classified [] = 0
classified (gone ∷ es) = classified es
classified (one w m ∷ es) = classified es
classified (two a b u ∷ es) = candidates a b es + classified es
classified (three a b c ∷ es) = classified es

module _ (relabel : Bool) (tol : Float) where
  -- the choice for the block u on (a, b)
  unfoldable pub chosen : ℕ → ℕ → Mat4 → List Event → Resolved → Search
  chosen a b u es r =
      choose_of relabel tol (mul4_of u (kron_of (opened (get_or r.rests a none)) (opened (get_or r.rests b none))))
      (prefix_of (ahead a es)) (prefix_of (ahead b es)) (length (ahead a es)) (length (ahead b es))

  abbrev pub resolve_step : Event → List Event → Resolved → Resolved
  resolve_step gone es r = r
  resolve_step (one w m) es r = passed w m r
  resolve_step (two a b u) es r = settled a b (candidates a b es) (chosen a b u es r).best (chosen a b u es r).angled r
  resolve_step (three a b c) es r = closed a b c r

  unfoldable pub resolved : List Event → Resolved → Resolved
  resolved [] r = r
  resolved (e ∷ es) r = resolved es (resolve_step e es r)

-- ---- the standalone remainders, slot by slot

abbrev pub rest_item : ℕ → Rest → List Item
rest_item w none = []
rest_item w (rest m) = Items.one w m ∷ []

-- the items, the newest first, with the remainders of the first k slots
unfoldable pub with_rests : Resolved → ℕ → List Item
with_rests r zero = r.items
with_rests r (suc k) = rest_item (get_or r.content k 0) (get_or r.rests k none) ++ with_rests r k

-- ---- the start

-- before the first event, with n slots: wire w is in slot w
unfoldable pub start_of : ℕ → ℕ → Resolved
start_of n swaps = record {
  rests = list_of n (λ w. none);
  splits = list_of n (λ w. 0);
  content = list_of n (λ w. w);
  items = [];
  swaps = swaps;
  tried = 0;
  angled = false;
}
