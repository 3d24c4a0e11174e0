-- `queries::matrices::ask` meets its contract: the modes' matrix, halved and shifted (`ask-made`). Assumes nothing.
use Rattle.std.proofs.Common.{◌*◌, ◌∙◌, get_or}
use lib.Ieee.{binary64, mul}
use Rattle.pfaffian.specs.Shot.{half}
use Rattle.queries.specs.Marginals.{half_spin_of}
use Rattle.queries.specs.Inner.{mark_at}
use Rattle.queries.proofs.Filling.{mapped-front}
use Rattle.queries.proofs.Leaving.{ask-made}
use Rattle.queries.proofs.matrices.ask.Goals as goal

pub returns : goal.returns
returns c =
    let m = c.args.m.now in
    let restricts = c.restrict.ensures in
    let shifts = c.shift_pairs.ensures in
    let is = restricts.same.dim in
    let halves = mapped-front (mul binary64 half) (m.dim * m.dim) c.restrict.new.m.entries.now c.halve.new.v (rw is at c.halve.ensures) in record {
      same = record { lent = shifts.same.lent ∙ restricts.same.lent; dim = shifts.same.dim ∙ restricts.same.dim };
      now = ask-made m.dim _ (λ j. half_spin_of (mark_at c.args.asked.now (get_or c.args.list.now j 0))) _ _ _ _ m.room
          restricts.now halves (rw is at shifts.now);
    }
