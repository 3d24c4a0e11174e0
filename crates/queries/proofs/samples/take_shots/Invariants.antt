-- `queries::samples::take_shots` meets its contract: the words of the shots passed are written, and work is kept but for its matrix. Assumes nothing.
use mathlib.Core.Path.{◌≡◌}
use Rattle.pfaffian.specs.Work.{Works}
use Rattle.queries.specs.Samples.{shot_at}
use Rattle.queries.specs.Calls.{covariance_of}
use Rattle.queries.proofs.Sampling.{Written}
use Rattle.queries.proofs.samples.take_shots.Given as goal

abbrev pub invariant-loop-i : goal.invariant-loop-i
invariant-loop-i l =
    (l.n ≡ l.checked.n)
    × Works l.initial.m l.m
    × Written (shot_at (covariance_of l.checked.n l.checked.state.now) l.checked.n l.checked.modes.now l.draws) l.i l.initial.out l.out
