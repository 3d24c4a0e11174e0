-- `pfaffian::shots::measure_modes` meets its contract: the matrix stands for the one that mode k finds (`stands-turn`). Assumes nothing.
use mathlib.Core.Path.{ap, sym, ◌∙◌}
use Prim.Native.Nat.{◌+◌}
use native.Mathlib.Nat.{zero-add}
use native.Mathlib.Omega.{arith}
use lib.ListN.{get_or, length-set}
use lib.Ieee.{nan}
use Rattle.real.specs.Squares.{cells}
use Rattle.laws.proofs.Matrix.{same}
use Rattle.pfaffian.specs.Shot.{draw_from}
use Rattle.pfaffian.proofs.Keeping.{kept_then}
use Rattle.pfaffian.proofs.Listing.{shot-at, stands-start, stands-turn, listed_start, listed-turn}
use Rattle.real.proofs.Squares.{same_here, same_then}
use Rattle.pfaffian.proofs.shots.measure_modes.Goals as goal

pub loop-k-init : goal.loop-k-init
loop-k-init c = (omega arith, record { same = same_here _; kept = same _ _ }, stands-start _ _ _, listed_start _ _)

pub loop-k-preserved : goal.loop-k-preserved
loop-k-preserved c =
    let l = c.loop-k in
    let h = c.loop-k-test.true in
    let r = c.measure-r in
    let e = cells c.args.m.now in
    let is = l.invariant.1.same.dim in
    let kept = rw is at r.ensures.kept.kept in
    let d = draw_from c.args.draws.now 0 in
    let w = stands-turn c.args.m.now.dim l.k e d _ l.fresh _ _ l.m.entries.now _
    (ap (λ i. get_or c.args.draws.now i nan) (l.invariant.0.1 ∙ sym (zero-add l.k))) l.invariant.2 (rw is at r.ensures.plain) in (
      (omega arith, r.ensures.used ∙ ap (λ i. i + 1) l.invariant.0.1, length-set l.bits _ _ ∙ l.invariant.0.2),
      record {
        same = same_then _ _ _ l.invariant.1.same r.ensures.kept.same;
        kept = kept_then _ _ l.m.entries.now _ l.invariant.1.kept kept;
      },
      w.1,
      listed-turn l.k _ _ l.bits _ (omega arith) (w.0 ∙ sym (shot-at e d c.args.n l.k h)) l.invariant.3,
    )
