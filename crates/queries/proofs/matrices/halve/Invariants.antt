-- `queries::matrices::halve` meets its contract: from the front. Assumes nothing.
use Rattle.std.proofs.Common.{◌≡◌, length}
use Rattle.std.specs.Float.{binary64}
use Rattle.std.specs.Float.Ieee.{mul}
use Rattle.laws.specs.Slices.{mapped_to}
use Rattle.pfaffian.specs.Shot.{half}
use Rattle.queries.proofs.matrices.halve.Given as goal

abbrev pub invariant-loop-x : goal.invariant-loop-x
invariant-loop-x l = (length l.v ≡ length l.initial.v) × (l.v ≡ mapped_to (mul binary64 half) l.x-index l.initial.v)
