-- `resolve::cuts::cut_count` meets its contract: by the law on how many cuts are kept.
-- Assumes nothing.
use Rattle.resolve.proofs.Counts.{cuts-many}
use Rattle.resolve.proofs.cuts.cut_count.Goals as goal

pub returns : goal.returns
returns c = cuts-many c.args.len c.min.result c.min.ensures
