-- `local::both::map_row2` meets its contract: the part that is lent comes back under the map. Assumes nothing.
use Rattle.laws.proofs.Slices.{part-back}
use Rattle.local.proofs.both.map_row2.Goals as goal

pub returns : goal.returns
returns c = part-back _ 2 c.args.m.now _ _ c.rotate2.ensures
