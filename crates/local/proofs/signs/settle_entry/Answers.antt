-- `local::signs::settle_entry` meets its contract, by its test. Assumes nothing.
use mathlib.Core.Path.{refl, sym, ap, ◌∙◌}
use lib.Ieee.{lt, of_bits}
use Rattle.laws.specs.Zeros.{+0}
use Rattle.local.specs.Parts.{settled_entry}
use Rattle.local.proofs.SameSigned.{same_here}
use Rattle.local.proofs.signs.settle_entry.Goals as goal

pub returns-then-sign : goal.returns-then-sign
unfolding settled_entry of_bits
returns-then-sign c =
    record { same = c.negate.ensures.same; now = rw (ap (λ x. lt x +0) (sym c.sign.ensures) ∙ c.if-sign.true) c.negate.ensures.now }

pub returns-else-sign : goal.returns-else-sign
unfolding settled_entry of_bits
returns-else-sign c = record { same = same_here _; now = rw (ap (λ x. lt x +0) (sym c.sign.ensures) ∙ c.if-sign.false) refl }
