-- `majorana::two_modes::distance` meets its contract: row by row it is what the definition has matrix by matrix.
-- Assumes nothing.
use Rattle.majorana.specs.Majorana.{less4_of, rest4_of, square4_of, distance4_of}
use Rattle.majorana.proofs.Entries.{majorana0-is, majorana1-is, majorana2-is, majorana3-is}
use Rattle.majorana.proofs.two_modes.distance.Goals as goal

pub returns : goal.returns
unfolding distance4_of square4_of rest4_of less4_of
returns c =
    rw (
      majorana0-is,
      majorana1-is,
      majorana2-is,
      majorana3-is,
      c.plus_row.ensures,
      c.rest_row-4.ensures,
      c.plus_row-s2.ensures,
      c.rest_row-3.ensures,
      c.plus_row-s1.ensures,
      c.rest_row-2.ensures,
      c.plus_row-s0.ensures,
      c.rest_row.ensures,
    )
