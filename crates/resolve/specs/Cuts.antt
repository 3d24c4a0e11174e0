-- Cuts of a closing tail: the one-qubit gates on a slot after a block, up to the next block on it. Cut t gives the first t of them to the block.
-- Lists are the oldest first. Assumes nothing. A public promise rests on this.
use Rattle.std.specs.Prelude.{Bool, cond, ◌||◌, List, [], ◌∷◌, ℕ, ◌+◌, eqb, leb, take}
use Rattle.laws.specs.Views.{until, up_from}
use Rattle.gate.specs.Matrix.{time_product_of}
use Rattle.gate.specs.declared.matrix.Mat2.{Mat2}
use Rattle.fuse.specs.Events.{Event, gone, one, two, three, block_on}

-- the matrices of the one-qubit gates on w
unfoldable pub ones : ℕ → List Event → List Mat2
ones w [] = []
ones w (gone ∷ es) = ones w es
ones w (one v m ∷ es) = cond (eqb v w) (m ∷ ones w es) (ones w es)
ones w (two a b u ∷ es) = ones w es
ones w (three a b c ∷ es) = ones w es

-- the closing segment on w of a block that `es` follows
unfoldable pub ahead : ℕ → List Event → List Mat2
ahead w es = ones w (until (block_on w) es)

-- "the cut window of 8"
abbrev pub cut_window : ℕ
cut_window = 8

-- cut t of a tail of len gates is tried: near its start or near its end
abbrev pub in_window : ℕ → ℕ → Bool
in_window len t = leb t cut_window || leb len (t + cut_window)

unfoldable pub keep : (ℕ → Bool) → List ℕ → List ℕ
keep p [] = []
keep p (t ∷ ts) = cond (p t) (t ∷ keep p ts) (keep p ts)

-- the cuts that are tried, in order
unfoldable pub cuts : ℕ → List ℕ
cuts len = keep (in_window len) (up_from (λ t. t) 0 (len + 1))

-- what the block is given: the first t gates of the tail
unfoldable pub prefix_of : List Mat2 → ℕ → Mat2
prefix_of gs t = time_product_of (take t gs)
