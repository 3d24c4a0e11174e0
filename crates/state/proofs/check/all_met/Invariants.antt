-- `state::check::all_met` meets its contract: the words are those of the modes met so far (`words_more`), and at the end they tell (`words-all`).
-- Assumes nothing.
use Rattle.std.proofs.Common.{length, ◌+◌, ◌*◌, ◌%◌}
use Rattle.state.proofs.Words.{Words}
use Rattle.state.proofs.check.all_met.Given as goal

abbrev pub invariant-loop-i : goal.invariant-loop-i
invariant-loop-i l = Words (length l.table) l.table (length l.table % 2 + 2 * l.i) l.a l.b
