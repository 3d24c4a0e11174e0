-- `queries::matrices::restrict_row` meets its contract: two entries a turn (`row_more`). Assumes nothing.
use Rattle.std.proofs.Common.{◌≡◌, ◌+◌, ◌*◌, ◌∙◌, ap, arith, subst}
use Rattle.queries.specs.Products.{index_of, restricted}
use Rattle.queries.specs.Calls.{covariance_of}
use Rattle.queries.proofs.Filling.{index-next, RowUpTo, row-start, row_more, row_done}
use Rattle.real.proofs.Squares.{same_here, same_then}
use Rattle.queries.proofs.matrices.restrict_row.Goals as goal

pub loop-j-init : goal.loop-j-init
loop-j-init c = (same_here _, row-start _ _ _ _)

pub loop-j-preserved : goal.loop-j-preserved
loop-j-preserved c =
    let l = c.loop-j in
    let list = c.args.list.now in
    let m = c.args.m.now in
    let g = covariance_of c.args.checked.n c.args.checked.state.now in
    let new = restricted g list in
    let next : c.index-y.result + 1 ≡ index_of list (2 * l.j + 1) = ap (λ y. y + 1) c.index-y.ensures ∙ index-next list l.j in
    let is = l.invariant.0.dim in
    let first = c.put.ensures in
    let second = c.put-in-loop-j.ensures in
    let one = row_more new m.dim c.args.r (2 * l.j) m.entries.now l.m.entries.now _ _ c.requires.row (omega (arith, c.requires.rows, c.loop-j-test.true)) m.room
    (c.get-v.ensures ∙ (λ k. g (c.index-x.ensures k) (c.index-y.ensures k))) l.invariant.1 (rw is at first.now) in
    let both : 2 * l.j + 1 + 1 ≡ 2 * (l.j + 1) = omega arith in (
      same_then _ _ _ l.invariant.0 (same_then _ _ _ first.same second.same),
      subst (λ n. RowUpTo new m.dim c.args.r m.entries.now n c.put-in-loop-j.new.self.entries.now) both
          (row_more new m.dim c.args.r (2 * l.j + 1) m.entries.now c.put.new.self.entries.now _ _ c.requires.row (omega (arith, c.requires.rows, c.loop-j-test.true)) m.room
          (c.get-w.ensures ∙ (λ k. g (c.index-x.ensures k) (next k))) one (rw (first.same.dim ∙ is) at second.now)),
    )

pub returns : goal.returns
returns c =
    let l = c.loop-j in
    record { same = l.invariant.0; now = row_done _ _ _ _ _ _ (omega (arith, c.requires.rows, c.loop-j-test.false)) l.invariant.1 }
