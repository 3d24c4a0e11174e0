-- `state::check::mark` meets its contract, a mark a turn. Assumes nothing.
use Rattle.std.proofs.Common.{◌≡◌, length}
use Rattle.state.specs.Parts.{Marked}
use Rattle.state.proofs.check.mark.Given as goal

abbrev pub invariant-loop-mode : goal.invariant-loop-mode
invariant-loop-mode l = (length l.seen ≡ length l.initial.seen) × Marked l.table l.mode-index l.seen
