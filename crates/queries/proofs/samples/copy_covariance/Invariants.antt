-- `queries::samples::copy_covariance` meets its contract: a row a turn (`rows_more`). Assumes nothing.
use Rattle.queries.specs.Calls.{covariance_of}
use Rattle.queries.proofs.Filling.{RowsUpTo}
use Rattle.real.specs.Squares.{Same}
use Rattle.queries.proofs.samples.copy_covariance.Given as goal

abbrev pub invariant-loop-r : goal.invariant-loop-r
invariant-loop-r l =
    Same l.initial.m l.m
    × RowsUpTo (covariance_of l.checked.n l.checked.state.now) l.initial.m.dim l.initial.m.entries.now l.r l.m.entries.now
