-- Fusing goes over one list of events. An event's place is its gate's number: a gate that another took leaves `gone`, and nothing ever moves. In these
-- definitions lists are the newest first, so that looking back in time is taking from the front. What 000 keeps beside its gates is read off the list:
-- - `last[w]` is the newest block on the slot w, and `open_blk[w]` is the same block, unless that block is opaque;
-- - `tail[w]` is the one-qubit gates on w after the newest block on w; a segment is the one-qubit gates on a slot between two blocks on it;
-- - a block's `open` segments are those before it on its slots, its `close` segments those after it. Assumes nothing. A public promise rests on this.
use Rattle.std.specs.Prelude.{Bool, false, cond, ◌||◌, List, [], ◌∷◌, ℕ, eqb}
use Rattle.gate.specs.Matrix.{id2, mul2_of}
use Rattle.gate.specs.declared.matrix.Mat2.{Mat2}
use Rattle.gate.specs.declared.matrix.Mat4.{Mat4}

pub data Event : Type 0 where
  -- no gate stands here any more
  gone : Event
  -- a one-qubit gate on a slot
  one : ℕ → Mat2 → Event
  -- a two-qubit gate on two slots, or the block that it started, with its `core`; the first slot is the first qubit of the matrix
  two : ℕ → ℕ → Mat4 → Event
  -- a three-qubit gate: an opaque block on three slots
  three : ℕ → ℕ → ℕ → Event

-- ---- which events are on a slot

-- a one-qubit gate on w
abbrev pub one_on : ℕ → Event → Bool
one_on w gone = false
one_on w (one v m) = eqb v w
one_on w (two a b u) = false
one_on w (three a b c) = false

-- a block on w
abbrev pub block_on : ℕ → Event → Bool
block_on w gone = false
block_on w (one v m) = false
block_on w (two a b u) = eqb a w || eqb b w
block_on w (three a b c) = eqb a w || (eqb b w || eqb c w)

-- a block on a or on b
abbrev pub meets : ℕ → ℕ → Event → Bool
meets a b e = block_on a e || block_on b e

-- anything on w
abbrev pub touches : ℕ → Event → Bool
touches w e = one_on w e || block_on w e

-- ---- the one-qubit gates on a slot

-- acc, and then e if that is a one-qubit gate on w
abbrev pub times : ℕ → Event → Mat2 → Mat2
times w gone acc = acc
times w (one v m) acc = cond (eqb v w) (mul2_of m acc) acc
times w (two a b u) acc = acc
times w (three a b c) acc = acc

-- `time_product` of the one-qubit gates on w: from the identity, the oldest first
unfoldable pub product : ℕ → List Event → Mat2
product w [] = id2
product w (e ∷ es) = times w e (product w es)

-- one-qubit gates on a or b are taken away
abbrev pub clear : ℕ → ℕ → Event → Event
clear a b e = cond (one_on a e || one_on b e) gone e
