-- `local::columns::rotate2` meets its contract: both places are stored to. Assumes nothing.
use mathlib.Core.Path.{◌∙◌}
use mathlib.Core.List.{[], ◌∷◌}
use Rattle.laws.specs.Views.{up_from}
use Rattle.laws.specs.Maps.{rotated, dot}
use Rattle.laws.proofs.Slices.{all_set}
use Rattle.local.proofs.columns.rotate2.Goals as goal

pub returns : goal.returns
unfolding rotated up_from dot
returns c =
    all_set c.args.row.now (c.dot2.result ∷ c.turned2.result ∷ []) c.requires
    ∙ (λ i. c.dot2.ensures i ∷ c.turned2.ensures i ∷ [])
