-- `pfaffian::shots::measure` meets its contract: nothing is updated (`measures-tiny`), or all that is later is (`measures-more`). Assumes nothing.
use mathlib.Core.Path.{refl}
use Prim.Native.Nat.{◌*◌}
use Rattle.laws.proofs.Matrix.{same}
use Rattle.pfaffian.proofs.Standing.{measures-tiny, measures-more, kept-update}
use Rattle.real.proofs.Squares.{same_here}
use Rattle.pfaffian.proofs.shots.measure.Goals as goal

pub returns : goal.returns
returns c =
    record {
      plain = measures-more c.args.m.now.dim c.args.k _ _ c.args.m.now.entries.now _ _ _ _ c.requires.rows c.entry.ensures
          c.clamp-mab.ensures c.drawn-one.ensures c.spin-s.ensures _ c.if-den.false c.args.m.now.room
          c.update.ensures.now;
      used = refl;
      kept = record {
        same = c.update.ensures.same;
        kept = kept-update c.args.m.now.dim (2 * c.args.k) _ c.args.fresh c.args.m.now.entries.now _ c.args.m.now.room c.update.ensures.now;
      };
    }

pub returns-then-den : goal.returns-then-den
returns-then-den c =
    record {
      plain = measures-tiny c.args.m.now.dim c.args.k _ _ c.args.m.now.entries.now _ _ _ _ c.requires.rows c.entry.ensures
          c.clamp-mab.ensures c.drawn-one.ensures c.spin-s.ensures c.if-den.true;
      used = refl;
      kept = record { same = same_here _; kept = same _ _ };
    }
