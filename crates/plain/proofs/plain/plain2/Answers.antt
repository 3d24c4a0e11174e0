-- `plain::plain::plain2` meets its contract: under the map, and the turn or none. Assumes nothing.
use mathlib.Core.Path.{sym, ap}
use Prim.Native.Nat.{◌+◌, ◌*◌}
use lib.Ieee.{lt}
use Rattle.laws.specs.Zeros.{+0}
use Rattle.real.specs.Maps.{local2}
use Rattle.local.specs.Det.{odd}
use Rattle.plain.proofs.Stepping.{step-made}
use Rattle.plain.proofs.plain.plain2.Goals as goal

pub returns : goal.returns
unfolding odd
returns c =
    let m = c.args.m.now in
    let turn = c.turn_where.ensures in record {
      same = record { lent = turn.same.lent; dim = turn.same.dim };
      now = step-made (local2 (2 * c.args.mode) c.args.q) (2 * (c.args.mode + 1)) m.dim _ m.entries.now _ _ m.room
          (ap (λ x. lt x +0) (sym c.det2.ensures)) (rw (sym c.requires.rows) at c.both2.ensures) turn.now;
    }
