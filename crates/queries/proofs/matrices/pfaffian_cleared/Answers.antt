-- `queries::matrices::pfaffian_cleared` meets its contract: what the Pfaffian left is filled. Assumes nothing.
use Rattle.std.proofs.Common.{◌∙◌}
use lib.Ieee.{of_bits}
use Rattle.laws.specs.Zeros.{+0}
use Rattle.laws.proofs.Matrix.{filled_is}
use Rattle.real.proofs.Squares.{same_then}
use Rattle.queries.proofs.matrices.pfaffian_cleared.Goals as goal

pub returns-clause-work : goal.returns-clause-work
unfolding of_bits
returns-clause-work c =
    let kept = c.pfaffian-end.ensures.kept in
    let fills = c.fill.ensures in record {
      same = same_then _ _ _ kept.same fills.same;
      now = rw kept.same.dim at fills.now ∙ filled_is c.args.m.now.dim +0 _ _ _ kept.kept;
    }
