-- `queries::samples::copy_covariance` meets its contract: a row a turn (`rows_more`). Assumes nothing.
use Rattle.std.proofs.Common.{arith}
use Rattle.queries.proofs.Filling.{rows_start, rows_more, rows-done}
use Rattle.real.proofs.Squares.{same_here, same_then}
use Rattle.queries.proofs.samples.copy_covariance.Goals as goal

pub loop-r-init : goal.loop-r-init
loop-r-init c = (same_here _, rows_start _ _ _)

pub loop-r-preserved : goal.loop-r-preserved
loop-r-preserved c =
    let l = c.loop-r in
    let e = rw (l.invariant.0.dim, c.requires) at c.copy_row.ensures.now in
    (same_then _ _ _ l.invariant.0 c.copy_row.ensures.same, rw c.requires (rows_more _ _ _ _ _ _ (rw c.requires at c.args.m.now.room) (rw c.requires at l.invariant.1) e))

pub returns : goal.returns
returns c =
    let l = c.loop-r in
    record { same = l.invariant.0; now = rows-done _ _ _ _ _ c.args.m.now.room (omega arith) l.invariant.1 }
