-- IEEE BINARY64 IN THE PLACE OF EXACT NUMBERS: its operations, and what the engine asks of floats beside sums and products. Of such numbers the formulas speak
-- (crates `formulas`, `answers`). And the engine's records under the formulas' names. Definitions only. A public promise rests on this.
use Rattle.std.specs.Prelude.{Bool, Float}
use Rattle.std.specs.Float.{nan, binary64}
use Rattle.std.specs.Float.Ieee.{add, mul, div, neg, lt, le, eq}
use Rattle.laws.specs.Zeros.{+0, +1}
use Rattle.laws.specs.Maps.{Local}
use Rattle.num.specs.Order.{abs_of, clamp_of}
use Rattle.pfaffian.specs.Shot.{tiny}
use Rattle.local.specs.Det.{not_below}
use Rattle.local.specs.State.{State}
use Rattle.rings.specs.Rings.{Ops}
use Rattle.formulas.specs.Numbers.{Tests}
use Rattle.formulas.specs.Engine.{Local as LocalOf, State as StateOf}
use Rattle.formulas.specs.Determinants.{own_odd}
use Rattle.answers.specs.Shots.{Draws}

-- ---- the numbers

abbrev pub floats : Ops
floats = record { N = Float; zero = +0; one = +1; add = add binary64; mul = mul binary64; neg = neg }

-- a number is below zero
abbrev pub below_zero : Float → Bool
below_zero x = lt x +0

-- what an elimination asks
abbrev pub float_tests : Tests floats
float_tests = record { div = div binary64; null = λ x. eq x +0; size = abs_of; less = lt; not_below = not_below; nothing = nan }

-- what a shot asks
abbrev pub float_draws : Draws floats
float_draws = record { clamp = λ x. clamp_of x (neg +1) +1; tiny = λ x. le x tiny; le = le }

-- "the determinant is below zero", by the formula of the engine's own elimination
abbrev pub float_odd : LocalOf floats → Bool
float_odd = own_odd floats float_tests below_zero

-- ---- the engine's records

abbrev pub as_local : Local → LocalOf floats
as_local o = record { start = o.start; width = o.width; map = o.map }

abbrev pub as_state : State → StateOf floats
as_state t = record { m = t.m; d = t.d }
