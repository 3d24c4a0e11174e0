-- `pfaffian::pairs::pivot` meets its contract: what is left of the row gives what the whole row gives. Assumes nothing.
use mathlib.Core.Path.{sym, ap, ◌∙◌}
use native.Mathlib.Omega.{arith}
use Rattle.real.specs.Squares.{cells}
use Rattle.num.specs.Order.{abs_of}
use Rattle.pfaffian.proofs.Pivots.{search-larger, search-smaller, search-done}
use Rattle.pfaffian.proofs.pairs.pivot.Goals as goal
use Rattle.pfaffian.proofs.pairs.pivot.Goals.{then-v-best, else-v-best}

pub loop-j-preserved : goal.loop-j-preserved
loop-j-preserved c =
    let l = c.loop-j in
    let row = cells c.args.m.now c.args.k in
    let v = c.abs-v.result in
    let is = c.abs-v.ensures ∙ ap abs_of c.entry-in-loop-j.ensures in
    let h = c.loop-j-test.true in (
      omega arith,
      elim c.if-v-best.branch [ then-v-best w ↦ rw w.piv-is h | else-v-best w ↦ rw w.piv-is l.invariant.1 ],
      elim c.if-v-best.branch [
        | then-v-best w ↦ rw (w.piv-is, w.best-is) (search-larger row c.args.m.now.dim l.j l.piv l.best v h is w.if-v-best.true)
        | else-v-best w ↦ rw (w.piv-is, w.best-is) (search-smaller row c.args.m.now.dim l.j l.piv l.best v h is w.if-v-best.false)
      ] ∙ l.invariant.2,
    )

pub returns : goal.returns
returns c =
    let l = c.loop-j in
    record { value = sym (search-done _ _ l.j l.piv l.best (omega arith)) ∙ l.invariant.2; bound = l.invariant.1 }
