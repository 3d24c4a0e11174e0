-- `plain::turn::turn_row` meets its contract: of a later row all entries are negated first. Assumes nothing.
use Rattle.plain.proofs.Turning.{row-earlier, row-later}
use Rattle.real.proofs.Squares.{same_then}
use Rattle.plain.proofs.turn.turn_row.Goals as goal
use Rattle.plain.proofs.turn.turn_row.Goals.{then-s-r, else-s-r}

pub returns : goal.returns
returns c =
    let m = c.args.m.now in
    let l = m.entries.now in
    let last = c.negate_part-2.ensures in
    elim c.if-s-r.branch [
      | then-s-r w ↦
          let first = w.negate_part.ensures in
          let then = rw w.m-is at last in
          record {
            same = same_then _ _ _ first.same then.same;
            now = row-later m.dim c.args.s c.args.r l w.if-s-r.true m.room _ _ first.now (rw first.same.dim at then.now);
          }
      | else-s-r w ↦ let only = rw w.m-is at last in record { same = only.same; now = row-earlier m.dim c.args.s c.args.r l w.if-s-r.false _ only.now }
    ]
