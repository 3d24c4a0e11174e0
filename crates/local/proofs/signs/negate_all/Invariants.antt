-- `local::signs::negate_all` meets its contract: from the front. Assumes nothing.
use Rattle.std.proofs.Common.{◌≡◌, length}
use Rattle.std.specs.Float.Ieee.{neg}
use Rattle.laws.specs.Slices.{mapped_to}
use Rattle.local.proofs.signs.negate_all.Given as goal

abbrev pub invariant-loop-x : goal.invariant-loop-x
invariant-loop-x l = (length l.v ≡ length l.initial.v) × (l.v ≡ mapped_to neg l.x-index l.initial.v)
