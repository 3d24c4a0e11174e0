-- `queries::samples::copy_row` meets its contract: an entry a turn (`row_more`). Assumes nothing.
use Rattle.local.specs.State.{state_at, get}
use Rattle.queries.proofs.Filling.{RowUpTo}
use Rattle.real.specs.Squares.{Same}
use Rattle.queries.proofs.samples.copy_row.Given as goal

abbrev pub invariant-loop-c : goal.invariant-loop-c
invariant-loop-c l =
    Same l.initial.m l.m
    × RowUpTo (get (state_at l.initial.m.dim l.state)) l.initial.m.dim l.r l.initial.m.entries.now l.c l.m.entries.now
