-- `queries::matrices::fill` meets its contract: the matrix's places are filled. Assumes nothing.
use Rattle.std.proofs.Common.{◌*◌, refl}
use Rattle.state.proofs.Fills.{filled-front}
use Rattle.queries.proofs.matrices.fill.Goals as goal

pub returns : goal.returns
returns c =
    let m = c.args.m.now in record {
      same = record { lent = refl; dim = refl };
      now = filled-front c.args.x (m.dim * m.dim) m.entries.now c.fill.new.self (c.fill.ensures.after (λ y e. e));
    }
