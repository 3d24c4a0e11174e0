-- `queries::matrices::half_spin` meets its contract, by its test. Assumes nothing.
use Rattle.std.proofs.Common.{sym, ◌∙◌}
use lib.Ieee.{of_bits}
use Rattle.queries.proofs.Marking.{asked_one}
use Rattle.queries.proofs.matrices.half_spin.Goals as goal

pub returns-then-unwrap_or : goal.returns-then-unwrap_or
unfolding of_bits
returns-then-unwrap_or c =
    rw (sym (asked_one c.args.asked) ∙ sym c.unwrap_or.ensures ∙ c.if-unwrap_or.true)

pub returns-else-unwrap_or : goal.returns-else-unwrap_or
unfolding of_bits
returns-else-unwrap_or c =
    rw (sym (asked_one c.args.asked) ∙ sym c.unwrap_or.ensures ∙ c.if-unwrap_or.false)
