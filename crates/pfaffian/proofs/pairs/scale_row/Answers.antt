-- `pfaffian::pairs::scale_row` meets its contract: each turn divides an entry (`scaled-more`). Assumes nothing.
use Prim.Native.Nat.{◌+◌}
use native.Mathlib.Omega.{arith}
use borrow.Author.Rules.{rules}
use lib.Ieee.{binary64, div}
use Rattle.laws.proofs.Sweep.{sweep-done}
use Rattle.laws.proofs.Eliminations.{cols-row-start, scaled-more}
use Rattle.real.proofs.Squares.{same_here, same_then}
use Rattle.pfaffian.proofs.pairs.scale_row.Goals as goal

pub loop-j-init : goal.loop-j-init
loop-j-init c = (search rules, same_here _, cols-row-start _ _ _ _ _)

pub loop-j-preserved : goal.loop-j-preserved
loop-j-preserved c =
    let l = c.loop-j in
    let is = rw l.invariant.1.dim at c.entry-x.ensures in (
      omega (arith, l.invariant.0, c.loop-j-test.true),
      same_then _ _ _ l.invariant.1 c.put.ensures.same,
      scaled-more (λ x. div binary64 x c.args.akk) c.args.k (c.args.k + 2) c.args.m.now.dim l.j c.args.m.now.entries.now l.m.entries.now _ _ (omega arith)
          l.invariant.0.0 c.loop-j-test.true c.args.m.now.room
          (λ s. div binary64 (is s) c.args.akk) l.invariant.2 (rw l.invariant.1.dim at c.put.ensures.now),
    )

pub returns : goal.returns
returns c = record { same = c.loop-j.invariant.1; now = sweep-done _ _ _ _ _ _ _ c.loop-j.invariant.2 (λ r' c' h g. omega arith) }
