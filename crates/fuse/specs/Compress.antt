-- `compress` of 000, on every segment at once: of two diagonal one-qubit gates that follow each other on a slot the older takes the newer. Only what
-- fusing leaves is compressed: the products inside a block are those of the gates as they came. Lists are the newest first. Assumes nothing.
-- A public promise rests on this.
use Rattle.std.specs.Prelude.{Bool, cond, ◌&&◌, List, [], ◌∷◌, ◌++◌, ℕ}
use Rattle.laws.specs.Views.{until, from}
use Rattle.gate.specs.Complex.{is_zero_of}
use Rattle.gate.specs.Matrix.{mul2_of}
use Rattle.gate.specs.declared.matrix.Mat2.{Mat2}
use Rattle.fuse.specs.Events.{Event, gone, one, two, three, touches}

-- nothing off the diagonal
unfoldable pub diagonal2_of : Mat2 → Bool
diagonal2_of m = is_zero_of m.r0.c1 && is_zero_of m.r1.c0

-- the gate m on w after the events `new`, of which none is on w. `old` begins with the newest event on w, if there is one: the last gate of the
-- segment, or the block before it. `all` is the whole list
abbrev pub press : ℕ → Mat2 → List Event → List Event → List Event → List Event
press w m new [] all = one w m ∷ all
press w m new (gone ∷ old) all = one w m ∷ all
press w m new (one v k ∷ old) all = cond (diagonal2_of k && diagonal2_of m) (gone ∷ (new ++ (one v (mul2_of m k) ∷ old))) (one w m ∷ all)
press w m new (two a b u ∷ old) all = one w m ∷ all
press w m new (three a b c ∷ old) all = one w m ∷ all

abbrev pub compress_step : Event → List Event → List Event
compress_step gone es = gone ∷ es
compress_step (one w m) es = press w m (until (touches w) es) (from (touches w) es) es
compress_step (two a b u) es = two a b u ∷ es
compress_step (three a b c) es = three a b c ∷ es

unfoldable pub compressed : List Event → List Event
compressed [] = []
compressed (e ∷ es) = compress_step e (compressed es)
