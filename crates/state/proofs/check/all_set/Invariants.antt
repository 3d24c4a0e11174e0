-- `state::check::all_set` meets its contract, a mark a turn. Assumes nothing.
use Rattle.std.proofs.Common.{◌≡◌, false, get_or}
use Rattle.laws.specs.Tests.{all_below}
use Rattle.state.proofs.check.all_set.Given as goal

abbrev pub invariant-loop-mark : goal.invariant-loop-mark
invariant-loop-mark l = l.set ≡ all_below (λ k. get_or l.seen k false) l.mark-index
