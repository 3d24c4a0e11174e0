-- `local::signs::turn_from` meets its contract, by the part that is lent. Assumes nothing.
use mathlib.Core.Path.{refl}
use mathlib.Core.List.{map}
use lib.Ieee.{neg}
use Rattle.laws.proofs.Slices.{part-back}
use Rattle.local.proofs.signs.turn_from.Goals as goal

pub returns : goal.returns
returns c =
    record { same = record { lent = refl; dim = refl }; now = part-back _ _ c.args.t.now.entries.now (map neg) _ c.negate_all.ensures }
