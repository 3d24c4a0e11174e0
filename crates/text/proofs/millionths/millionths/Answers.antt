-- `text::millionths::millionths` meets its contract, by the fields of the bits. Assumes nothing.
use mathlib.Core.Path.{sym, ◌∙◌, subst}
use mathlib.Core.Logic.{◌≢◌}
use Prim.Native.Nat.{ℕ, ◌<◌}
use native.Mathlib.Omega.{arith}
use lib.Dec.{T}
use lib.Ieee.{binary64, fits}
use Rattle.text.proofs.Values.{range-number, field-most, millionths-low, millionths-high}
use Rattle.text.proofs.millionths.millionths.Goals as goal
use Rattle.text.proofs.millionths.millionths.Goals.{Start}

-- x is an f64, as every parameter is
held : (c : Start) → T (fits binary64 c.args.x)
held c = subst T (sym c.well_formed.0.1) tt

pub float_to_bits-b : goal.float_to_bits-b
float_to_bits-b c = range-number c.args.x c.requires

pub returns-then-e-eq0 : goal.returns-then-e-eq0
returns-then-e-eq0 c =
    c.nearest.ensures ∙ sym (millionths-low c.args.x (held c.before.before) c.if-e-eq0.true)

pub overflow_sub-e : goal.overflow_sub-e
overflow_sub-e c = omega (arith, field-most c.args.x (held c.before) c.requires)

pub nearest-requires-2 : goal.nearest-requires-2
nearest-requires-2 c = (omega arith, omega (arith, field-most c.args.x (held c.before) c.requires))

some : (n : ℕ) → n ≢ 0 → 0 < n
some n h = omega (arith, h)

pub returns : goal.returns
returns c =
    c.nearest-2.ensures ∙ sym (millionths-high c.args.x (held c.before.before) c.requires (some _ c.if-e-eq0.false))
