-- `local::columns::map_row4` meets its contract: the part that is lent comes back under the map. Assumes nothing.
use mathlib.Core.Path.{refl}
use Rattle.laws.proofs.Slices.{part-back}
use Rattle.local.proofs.columns.map_row4.Goals as goal

pub returns : goal.returns
returns c = record { same = record { lent = refl; dim = refl }; now = part-back _ 4 c.args.m.now.entries.now _ _ c.rotate4.ensures }
