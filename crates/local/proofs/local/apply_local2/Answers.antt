-- `local::local::apply_local2` meets its contract: its phases are those of `step`. Assumes nothing.
use mathlib.Core.Path.{sym, ap, ◌∙◌}
use Prim.Native.Nat.{◌*◌}
use native.Mathlib.Omega.{arith}
use lib.Ieee.{lt, of_bits}
use Rattle.laws.specs.Zeros.{+0}
use Rattle.real.specs.Maps.{local2}
use Rattle.local.specs.Det.{odd}
use Rattle.local.proofs.Steps.{step-turned, step_kept}
use Rattle.local.proofs.local.apply_local2.Goals as goal

pub returns-then-det2 : goal.returns-then-det2
unfolding odd of_bits
returns-then-det2 c =
    let below = ap (λ x. lt x +0) (sym c.det2.ensures) ∙ c.if-det2.true in
    let t = c.args.t.now in
    let settles = c.settle.ensures in
    let turns = c.turn_from.ensures in
    let is = sym c.requires.rows in record {
      same = record { lent = turns.same.lent ∙ settles.same.lent; dim = turns.same.dim ∙ settles.same.dim };
      now = step-turned odd (local2 (2 * c.args.mode) c.args.q) t.dim t.entries.now _ _ t.room (omega (arith, c.requires))
          settles.now (rw is at c.both2.ensures) _ below (rw settles.same.dim at turns.now);
    }

pub returns-else-det2 : goal.returns-else-det2
unfolding odd of_bits
returns-else-det2 c =
    let above = ap (λ x. lt x +0) (sym c.det2.ensures) ∙ c.if-det2.false in
    let t = c.args.t.now in
    let settles = c.settle.ensures in
    let is = sym c.requires.rows in record {
      same = record { lent = settles.same.lent; dim = settles.same.dim };
      now = step_kept odd (local2 (2 * c.args.mode) c.args.q) t.dim t.entries.now _ _ t.room (omega (arith, c.requires))
          settles.now (rw is at c.both2.ensures) above;
    }
