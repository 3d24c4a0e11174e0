-- `local::columns::rotate4` meets its contract: all four places are stored to. Assumes nothing.
use mathlib.Core.Path.{◌∙◌}
use mathlib.Core.List.{[], ◌∷◌}
use Rattle.laws.specs.Views.{up_from}
use Rattle.laws.specs.Maps.{rotated, dot}
use Rattle.laws.proofs.Slices.{all_set}
use Rattle.local.proofs.columns.rotate4.Goals as goal

pub returns : goal.returns
unfolding rotated up_from dot
returns c =
    all_set c.args.row.now
    (c.dot4.result ∷ c.turned4.result ∷ c.dot4-2.result ∷ c.turned4-2.result ∷ []) c.requires
    ∙ (λ i. c.dot4.ensures i ∷ c.turned4.ensures i ∷ c.dot4-2.ensures i ∷ c.turned4-2.ensures i ∷ [])
