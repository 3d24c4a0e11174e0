-- The plain engine with its test as a parameter, of rows and of columns: which indices turn where a determinant is below zero. If these are the later ones
-- it is the plain engine (law `own-is`); with other tests it is one that is wrong in one way. Definitions only. A public promise rests on this.
use Rattle.std.specs.Prelude.{false, not, ◌&&◌, ◌*◌, eqb, leb}
use Rattle.laws.specs.Zeros.{sg}
use Rattle.laws.specs.Matrix.{Mat}
use Rattle.laws.specs.Maps.{Local, rows, cols}
use Rattle.real.specs.Maps.{local2, local4}
use Rattle.local.specs.Det.{odd}
use Rattle.local.specs.Apply.{later}
use Rattle.state.specs.declared.operation.Operation.{Operation}
use Rattle.state.specs.declared.operation.Operation.TheVariants.{One, Two, Interaction}
use Rattle.signs.specs.Engines.{Turns}

abbrev pub step_with : Turns → Turns → Local → Mat → Mat
step_with of_rows of_cols o p r c = sg (odd o && of_rows o r) (sg (odd o && of_cols o c) (cols o (rows o p) r c))

abbrev pub plain_with : Turns → Turns → Operation → Mat → Mat
plain_with of_rows of_cols (One mode q) p = step_with of_rows of_cols (local2 (2 * mode) q) p
plain_with of_rows of_cols (Two mode q) p = step_with of_rows of_cols (local4 (2 * mode) q) p
plain_with of_rows of_cols (Interaction mode block second unit) p = p

-- with the later ones
abbrev pub own_plain : Operation → Mat → Mat
own_plain = plain_with later later

-- ---- wrong ones

-- it turns from its own rows on
abbrev pub own_rows : Operation → Mat → Mat
own_rows = plain_with (λ o i. leb o.start i) (λ o i. leb o.start i)

-- it turns rows only
abbrev pub rows_only : Operation → Mat → Mat
rows_only = plain_with later (λ o i. false)

-- it never turns for two modes
abbrev pub never_for_two : Operation → Mat → Mat
never_for_two = plain_with (λ o i. not (eqb o.width 4) && later o i) (λ o i. not (eqb o.width 4) && later o i)
