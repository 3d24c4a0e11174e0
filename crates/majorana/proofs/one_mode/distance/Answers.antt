-- `majorana::one_mode::distance` meets its contract: row by row it is what the definition has matrix by matrix.
-- Assumes nothing.
use Rattle.majorana.specs.Majorana.{less2_of, rest2_of, square2_of, distance2_of}
use Rattle.majorana.proofs.one_mode.distance.Goals as goal

pub returns : goal.returns
unfolding distance2_of square2_of rest2_of less2_of
returns c =
    rw (
      c.plus_row.ensures,
      c.less_row-4.ensures,
      c.less_row-3.ensures,
      c.plus_row-s.ensures,
      c.less_row-2.ensures,
      c.less_row.ensures,
    )
