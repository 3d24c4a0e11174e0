-- `queries::lists::check_bits` meets its contract: every bit passed is 0 or 1. Assumes nothing.
use Rattle.std.proofs.Common.{◌≡◌, true, leb, get_or}
use Rattle.laws.specs.Tests.{all_below}
use Rattle.queries.proofs.lists.check_bits.Given as goal

abbrev pub invariant-loop-bit : goal.invariant-loop-bit
invariant-loop-bit l = all_below (λ j. leb (get_or l.bits j 0) 1) l.bit-index ≡ true
