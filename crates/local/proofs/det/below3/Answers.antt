-- `local::det::below3` meets its contract, by its test. Assumes nothing.
use mathlib.Core.Path.{◌∙◌}
use mathlib.Core.List.{[], ◌∷◌}
use lib.Ieee.{binary64, mul, of_bits}
use Rattle.local.specs.Det.{eliminated, lowered_all}
use Rattle.local.proofs.det.below3.Goals as goal

pub returns : goal.returns
unfolding lowered_all of_bits
returns c =
    let e = c.args in
    rw c.if-q.false
    (c.pivot2.ensures ∙ (λ i. eliminated 2 (c.lowered3.ensures i ∷ c.lowered3-2.ensures i ∷ []) (mul binary64 e.d
    e.q.x0)))
