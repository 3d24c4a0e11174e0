-- `plain::plain::plain4` meets its contract: under the map, and the turn or none. Assumes nothing.
use mathlib.Core.Path.{sym, ap}
use Prim.Native.Nat.{◌+◌, ◌*◌}
use lib.Ieee.{lt}
use Rattle.laws.specs.Zeros.{+0}
use Rattle.real.specs.Maps.{local4}
use Rattle.local.specs.Det.{odd}
use Rattle.plain.proofs.Stepping.{step-made}
use Rattle.plain.proofs.plain.plain4.Goals as goal

pub returns : goal.returns
unfolding odd
returns c =
    let m = c.args.m.now in
    let turn = c.turn_where.ensures in record {
      same = record { lent = turn.same.lent; dim = turn.same.dim };
      now = step-made (local4 (2 * c.args.mode) c.args.q) (2 * (c.args.mode + 2)) m.dim _ m.entries.now _ _ m.room
          (ap (λ x. lt x +0) (sym c.det4.ensures)) (rw (sym c.requires.rows) at c.both4.ensures) turn.now;
    }
