-- `local::signs::settle_row` meets its contract, by its test. Assumes nothing.
use mathlib.Core.Path.{refl, sym, ap, ◌∙◌}
use Prim.Native.Nat.{◌+◌, ◌*◌}
use lib.ListN.{set}
use lib.Ieee.{lt, of_bits}
use Rattle.laws.specs.Zeros.{+0, +1}
use Rattle.local.specs.Parts.{settled_row}
use Rattle.local.proofs.SameSigned.{same_here, same_then}
use Rattle.local.proofs.signs.settle_row.Goals as goal

pub returns-then-sign : goal.returns-then-sign
unfolding settled_row of_bits
returns-then-sign c =
    let t = c.args.t.now in
    let e = c.negate_row.ensures in
    let p = c.put_sign.ensures in record {
      same = same_then _ _ _ e.same p.same;
      now = rw (ap (λ x. lt x +0) (sym c.sign.ensures) ∙ c.if-sign.true) (rw e.same.dim at p.now ∙ ap (λ l. set l (t.dim * t.dim + c.args.i) +1) e.now);
    }

pub returns-else-sign : goal.returns-else-sign
unfolding settled_row of_bits
returns-else-sign c = record { same = same_here _; now = rw (ap (λ x. lt x +0) (sym c.sign.ensures) ∙ c.if-sign.false) refl }
