-- `majorana::two_modes::majorana_map2` meets its contract: the rows are those of the definition, and the root of the largest square is the largest root.
-- Assumes nothing.
use mathlib.Core.List.{[], ◌∷◌}
use Rattle.majorana.specs.Majorana.{majorana0, majorana1, majorana2, majorana3, image4_of, map_row4_of, map_distance4_of, majorana_map2_of}
use Rattle.majorana.specs.Parts.{fitted4_of}
use Rattle.majorana.proofs.OneRoot.{none, more, one-root, distance4-fits}
use Rattle.majorana.proofs.two_modes.majorana_map2.Goals as goal

pub returns : goal.returns
unfolding majorana_map2_of map_row4_of map_distance4_of image4_of fitted4_of
returns c =
    let u = c.args.u in
    rw (
      one-root (map_distance4_of majorana0 u ∷ map_distance4_of majorana1 u ∷ map_distance4_of majorana2 u ∷ map_distance4_of majorana3 u ∷ [])
          (more (distance4-fits majorana0 u) (more (distance4-fits majorana1 u) (more (distance4-fits majorana2 u) (more (distance4-fits majorana3 u) none)))),
      c.sqrt-residual.ensures.value,
      c.largest.ensures,
      c.fitted-d.ensures,
      c.mul-4.ensures,
      c.times3.ensures,
      c.fitted-c.ensures,
      c.mul-3.ensures,
      c.times2.ensures,
      c.fitted-b.ensures,
      c.mul-2.ensures,
      c.times1.ensures,
      c.fitted-a.ensures,
      c.mul.ensures,
      c.times0.ensures,
      c.adjoint-ud.ensures,
    )
