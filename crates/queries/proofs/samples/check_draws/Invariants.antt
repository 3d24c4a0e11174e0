-- `queries::samples::check_draws` meets its contract: none of the draws passed is bad. Assumes nothing.
use Rattle.std.proofs.Common.{◌≡◌, ◌-◌, not, length, get_or}
use Rattle.std.specs.Float.{nan}
use Rattle.queries.specs.Lists.{first_from}
use Rattle.queries.specs.Samples.{draw_ok_of, bad_draw_of}
use Rattle.queries.proofs.samples.check_draws.Given as goal

abbrev pub invariant-loop-i : goal.invariant-loop-i
invariant-loop-i l =
    first_from (λ j. not (draw_ok_of (get_or l.draws j nan))) l.i (length l.draws - l.i) ≡ bad_draw_of (length l.draws) l.draws
