-- `plain::turn::turn_where` meets its contract: the turn, or nothing. Assumes nothing.
use lib.Ieee.{of_bits}
use Rattle.laws.proofs.Matrix.{is-matrix, same}
use Rattle.real.proofs.Squares.{same_here}
use Rattle.plain.proofs.turn.turn_where.Goals as goal

pub returns-then-det : goal.returns-then-det
unfolding of_bits
returns-then-det c = rw c.if-det.true c.turn_from.ensures

pub returns-else-det : goal.returns-else-det
unfolding of_bits
returns-else-det c =
    let m = c.args.m.now in
    rw c.if-det.false (record { same = same_here _; now = is-matrix m.dim m.entries.now _ _ (same m.dim m.entries.now) })
