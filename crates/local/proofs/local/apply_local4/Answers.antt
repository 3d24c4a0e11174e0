-- `local::local::apply_local4` meets its contract: its phases are those of `step`. Assumes nothing.
use mathlib.Core.Path.{sym, ap, ◌∙◌}
use Prim.Native.Nat.{◌*◌}
use lib.Ieee.{lt, of_bits}
use Rattle.laws.specs.Zeros.{+0}
use Rattle.real.specs.Maps.{local4}
use Rattle.local.specs.Det.{odd}
use Rattle.local.proofs.Steps.{step-turned, step_kept}
use Rattle.local.proofs.local.apply_local4.Goals as goal

pub returns-then-det4 : goal.returns-then-det4
unfolding odd of_bits
returns-then-det4 c =
    let o = local4 (2 * c.args.mode) c.args.q in
    let below = ap (λ x. lt x +0) (sym c.det4.ensures) ∙ c.if-det4.true in
    let t = c.args.t.now in
    let settles = c.settle4.ensures in
    let is = settles.same.dim in
    let both = rw is at c.both4.ensures in
    let turns = c.turn_from.ensures in record {
      same = record { lent = turns.same.lent ∙ settles.same.lent; dim = turns.same.dim ∙ settles.same.dim };
      now = step-turned odd o t.dim t.entries.now _ _ t.room c.requires settles.now
          both _ below (rw is at turns.now);
    }

pub returns-else-det4 : goal.returns-else-det4
unfolding odd of_bits
returns-else-det4 c =
    let o = local4 (2 * c.args.mode) c.args.q in
    let above = ap (λ x. lt x +0) (sym c.det4.ensures) ∙ c.if-det4.false in
    let t = c.args.t.now in
    let settles = c.settle4.ensures in
    let is = settles.same.dim in
    let both = rw is at c.both4.ensures in record {
      same = record { lent = settles.same.lent; dim = settles.same.dim };
      now = step_kept odd o t.dim t.entries.now _ _ t.room c.requires settles.now both above;
    }
