-- `queries::matrices::restrict` meets its contract: a row a turn (`rows_more`). Assumes nothing.
use Rattle.queries.specs.Products.{restricted}
use Rattle.queries.specs.Calls.{covariance_of}
use Rattle.queries.proofs.Filling.{RowsUpTo}
use Rattle.real.specs.Squares.{Same}
use Rattle.queries.proofs.matrices.restrict.Given as goal

abbrev pub invariant-loop-r : goal.invariant-loop-r
invariant-loop-r l =
    Same l.initial.m l.m
    × RowsUpTo (restricted (covariance_of l.checked.n l.checked.state.now) l.list) l.initial.m.dim l.initial.m.entries.now l.r l.m.entries.now
