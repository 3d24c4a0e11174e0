-- Where a difference was found, it is at a place of the slice.
use Rattle.std.proofs.Common.{◌<◌, IfErr, length}
use Rattle.stored.proofs.values.compare.Given as goal

abbrev pub invariant-loop-place : goal.invariant-loop-place
invariant-loop-place g l = IfErr l.first (λ p. p < length l.values)
