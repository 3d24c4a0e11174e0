-- `state::check::all_below` meets its contract, an entry a turn. Assumes nothing.
use Rattle.std.proofs.Common.{◌≡◌, ltb, length}
use Rattle.laws.specs.Tests.{all_below}
use Rattle.laws.specs.Tables.{mode_at}
use Rattle.state.proofs.check.all_below.Given as goal

abbrev pub invariant-loop-mode : goal.invariant-loop-mode
invariant-loop-mode l = l.below ≡ all_below (λ q. ltb (mode_at l.table q) (length l.table)) l.mode-index
