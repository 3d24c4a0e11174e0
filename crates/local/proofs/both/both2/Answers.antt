-- `local::both::both2` meets its contract: a turn makes two columns and two rows. Assumes nothing.
use mathlib.Core.Path.{refl, ap, ◌∙◌}
use Prim.Native.Nat.{◌+◌, ◌*◌}
use native.Mathlib.Omega.{arith}
use borrow.Author.Rules.{rules}
use Rattle.laws.specs.Maps.{inside, row_turn}
use Rattle.laws.specs.Loops.{by_pairs}
use Rattle.laws.proofs.Loops.{none, made}
use Rattle.laws.proofs.BothSteps.{pairs-more, pairs_below}
use Rattle.real.specs.Maps.{local2}
use Rattle.local.proofs.both.both2.Goals as goal

pub loop-t-init : goal.loop-t-init
loop-t-init c = (search rules, none _ _ _ _ _ (λ r c h g. refl))

pub loop-t-preserved : goal.loop-t-preserved
loop-t-preserved c =
    let l = c.loop-t in
    let o = local2 (2 * c.args.mode) c.args.q in
    let dim = 2 * c.args.n in
    let k = 2 * l.t in (
      omega (arith, c.loop-t-test.true),
      pairs-more o c.args.mode c.args.n l.t c.args.m.now l.m _ refl refl c.loop-t-test.true c.requires.band c.requires.room
          l.invariant.1
          (c.map_row2-in-loop-t.ensures
          ∙ ap (row_turn o dim (k + 1)) (c.map_row2.ensures ∙ ap (row_turn o dim k) c.map_columns2.ensures)),
    )

pub returns : goal.returns
returns c =
    let o = local2 (2 * c.args.mode) c.args.q in
    made (by_pairs (inside o)) _ _ (2 * c.args.n) c.loop-t.t _ _
    (λ r c' h g. omega (arith, pairs_below (inside o) c.args.n r c' h g, c.loop-t-test.false)) c.loop-t.invariant.1
