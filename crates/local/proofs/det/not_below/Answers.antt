-- `local::det::not_below` meets its contract, by its tests. Assumes nothing.
use mathlib.Core.Path.{◌≡◌, refl, sym, ◌∙◌}
use mathlib.Core.Bool.{true, false, true≢false}
use lib.Ieee.{Float, nan, inf, fin, le, is_nan}
use Rattle.num.specs.Order.{abs_of}
use Rattle.local.proofs.det.not_below.Goals as goal

-- a NaN is not at most any number
no-order : (y z : Float) → is_nan y ≡ true → le (abs_of y) z ≡ false
unfolding is_nan abs_of le
no-order nan z e = refl
no-order (inf s) z e = absurd (true≢false (sym e))
no-order (fin s m k) z e = absurd (true≢false (sym e))

pub returns-else-not-is_nan : goal.returns-else-not-is_nan
returns-else-not-is_nan c =
    let n = c.if-not-is_nan.false in
    rw (← c.is_nan.ensures.value, c.if-is_nan.false, n, no-order _ _ (sym c.is_nan-else-is_nan.ensures.value ∙ n))
