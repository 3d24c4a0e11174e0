-- `detect::emit::emit_all` meets its contract: after i records the operations of their items are written. Assumes nothing.
use mathlib.Core.Path.{◌≡◌}
use lib.ListN.{length}
use Rattle.detect.specs.Operation.{Put}
use Rattle.detect.specs.Records.{items_in, modes_in}
use Rattle.detect.proofs.Emitting.{emitted}
use Rattle.detect.proofs.emit.emit_all.Given as goal

abbrev pub invariant-loop-i : goal.invariant-loop-i
invariant-loop-i l =
    let w = l.work in
    Put (emitted w.floats w.marks (modes_in w.marks) l.i) 0 l.initial.ops l.ops l.p
    × (l.block ≡ length (items_in w.floats w.marks l.i)) × (length l.ops ≡ length l.initial.ops)
