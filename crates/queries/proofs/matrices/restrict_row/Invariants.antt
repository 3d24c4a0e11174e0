-- `queries::matrices::restrict_row` meets its contract: two entries a turn (`row_more`). Assumes nothing.
use Rattle.std.proofs.Common.{◌*◌}
use Rattle.queries.specs.Products.{restricted}
use Rattle.queries.specs.Calls.{covariance_of}
use Rattle.queries.proofs.Filling.{RowUpTo}
use Rattle.real.specs.Squares.{Same}
use Rattle.queries.proofs.matrices.restrict_row.Given as goal

abbrev pub invariant-loop-j : goal.invariant-loop-j
invariant-loop-j l =
    Same l.initial.m l.m
    × RowUpTo (restricted (covariance_of l.checked.n l.checked.state.now) l.list) l.initial.m.dim l.r l.initial.m.entries.now (2 * l.j) l.m.entries.now
