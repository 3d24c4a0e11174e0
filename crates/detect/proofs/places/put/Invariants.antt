-- `detect::places::put` meets its contract: the loop writes an operation's places. Assumes nothing.
use Rattle.std.specs.Prelude.{◌≡◌, length}
use Rattle.std.proofs.Math.Seq.{paste}
use Rattle.detect.proofs.places.put.Given as goal

abbrev pub invariant-loop-k : goal.invariant-loop-k
invariant-loop-k l = (l.l ≡ paste l.initial.l 0 l.x l.k) × (length l.l ≡ length l.initial.l)
