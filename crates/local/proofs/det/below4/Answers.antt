-- `local::det::below4` meets its contract, by its test. Assumes nothing.
use mathlib.Core.Path.{◌∙◌}
use mathlib.Core.List.{[], ◌∷◌}
use lib.Ieee.{binary64, mul, of_bits}
use Rattle.local.specs.Det.{eliminated, lowered_all}
use Rattle.local.proofs.det.below4.Goals as goal

pub returns : goal.returns
unfolding lowered_all of_bits
returns c =
    let e = c.args in
    rw c.if-q.false
    (c.pivot3.ensures
    ∙ (λ i.
    eliminated 3 (c.lowered4.ensures i ∷ c.lowered4-2.ensures i ∷ c.lowered4-3.ensures i ∷ [])
    (mul binary64 e.d e.q.x0)))
