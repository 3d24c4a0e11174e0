-- `evolve::evolve` meets its contract: the invariant says that the slice holds what the operations passed make of the vacuum, and that the chunks to
-- come are the operations after them. Assumes nothing.
use mathlib.Core.Path.{◌≡◌}
use mathlib.Core.List.{◌++◌}
use Prim.Native.Nat.{◌+◌, ◌*◌}
use lib.ListN.{length, drop}
use Rattle.laws.specs.Bounds.{op_places}
use Rattle.local.specs.State.{stored, vacuum}
use Rattle.state.specs.Bounds.{dim_of}
use Rattle.evolve.specs.Evolve.{evolved_in}
use Rattle.evolve.proofs.evolve.Given as goal

abbrev pub invariant-loop-op : goal.invariant-loop-op
invariant-loop-op l =
    (l.op-iterator.size ≡ op_places) × (op_places * length l.yielded + length l.op-iterator.rest.now ≡ op_places * l.count)
    × (l.op-iterator.rest.now ++ drop (op_places * l.count) l.ops ≡ drop (op_places * length l.yielded) l.ops)
    × (l.state ≡ stored (dim_of l.n) (evolved_in l.n (length l.yielded) l.ops vacuum) l.fn.state)
