-- `queries::samples::copy_row` meets its contract: an entry a turn (`row_more`). Assumes nothing.
use Rattle.std.proofs.Common.{◌+◌, ◌*◌, get_or, arith}
use lib.Ieee.{nan, binary64, mul}
use Rattle.local.specs.State.{state_at, get}
use Rattle.queries.proofs.Filling.{row-start, row_more, row_done}
use Rattle.real.proofs.Squares.{same_here, same_then}
use Rattle.queries.proofs.samples.copy_row.Goals as goal

pub loop-c-init : goal.loop-c-init
loop-c-init c = (same_here _, row-start _ _ _ _)

pub loop-c-preserved : goal.loop-c-preserved
loop-c-preserved c =
    let l = c.loop-c in
    let s = c.args.state.now in
    let m = c.args.m.now in
    let d = m.dim in
    let e = c.put.ensures in (
      same_then _ _ _ l.invariant.0 e.same,
      row_more (get (state_at d s)) d c.args.r l.c m.entries.now l.m.entries.now _ _ c.requires.row c.loop-c-test.true m.room
          (λ i. mul binary64 (mul binary64 (c.entry-x.ensures i) (get_or s (d * d + c.args.r) nan)) (get_or s (d * d + l.c) nan))
          l.invariant.1 (rw l.invariant.0.dim at e.now),
    )

pub returns : goal.returns
returns c =
    let l = c.loop-c in
    record { same = l.invariant.0; now = row_done _ _ _ _ _ _ (omega arith) l.invariant.1 }
