-- `majorana::one_mode::majorana_map1` meets its contract: the rows are those of the definition, and the root of the larger square is the larger root.
-- Assumes nothing.
use mathlib.Core.List.{[], ◌∷◌}
use Rattle.named.specs.Table.{gate_x, gate_y}
use Rattle.majorana.specs.Majorana.{image2_of, map_row2_of, map_distance2_of, majorana_map1_of}
use Rattle.majorana.specs.Parts.{fitted2_of, largest_of}
use Rattle.majorana.proofs.OneRoot.{none, more, one-root, distance2-fits}
use Rattle.majorana.proofs.one_mode.majorana_map1.Goals as goal

pub returns : goal.returns
unfolding majorana_map1_of map_row2_of map_distance2_of image2_of fitted2_of largest_of
returns c =
    let u = c.args.u in
    rw (
      one-root (map_distance2_of gate_x u ∷ map_distance2_of gate_y u ∷ []) (more (distance2-fits gate_x u) (more (distance2-fits gate_y u) none)),
      c.sqrt-residual.ensures.value,
      c.max-2.ensures,
      c.max.ensures,
      c.fitted-b.ensures,
      c.mul-4.ensures,
      c.mul-3.ensures,
      c.fitted-a.ensures,
      c.mul-2.ensures,
      c.mul.ensures,
      c.adjoint-ud.ensures,
    )
