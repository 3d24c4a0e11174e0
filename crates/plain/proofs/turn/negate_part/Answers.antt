-- `plain::turn::negate_part` meets its contract, by the part that is lent. Assumes nothing.
use mathlib.Core.Path.{refl, ◌∙◌}
use mathlib.Core.List.{map}
use lib.Ieee.{neg}
use Rattle.laws.proofs.Slices.{part-back}
use Rattle.laws.proofs.Matrix.{is-matrix}
use Rattle.plain.proofs.Turning.{part-is}
use Rattle.plain.proofs.turn.negate_part.Goals as goal

pub returns : goal.returns
returns c =
    let m = c.args.m.now in
    let l = m.entries.now in
    record {
      same = record { lent = refl; dim = refl };
      now = part-back _ _ l (map neg) _ c.negate_all.ensures
          ∙ is-matrix m.dim l _ _ (part-is m.dim c.args.c c.args.r l c.requires.row c.requires.column m.room);
    }
