-- `pfaffian::pairs::eliminate_rows` meets its contract: each turn makes a row (`pair-more`). Assumes nothing.
use Prim.Native.Nat.{◌+◌}
use native.Mathlib.Omega.{arith}
use borrow.Author.Rules.{rules}
use Rattle.laws.specs.Steps.{corner_from}
use Rattle.laws.specs.Loops.{by_row}
use Rattle.laws.proofs.Sweep.{sweep-start, sweep-done}
use Rattle.laws.proofs.Eliminations.{pair-more, corner-low}
use Rattle.pfaffian.specs.Turns.{less_by}
use Rattle.real.proofs.Squares.{same_here, same_then}
use Rattle.pfaffian.proofs.pairs.eliminate_rows.Goals as goal

pub loop-i-init : goal.loop-i-init
loop-i-init c = (search rules, same_here _, sweep-start by_row _ _ _ _ _ (corner-low _))

pub loop-i-preserved : goal.loop-i-preserved
loop-i-preserved c =
    let l = c.loop-i in
    let k = c.args.k in (
      omega (arith, l.invariant.0, c.loop-i-test.true),
      same_then _ _ _ l.invariant.1 c.eliminate_row.ensures.same,
      pair-more k less_by (corner_from (k + 2)) c.args.m.now.dim (corner-low (k + 2)) l.i c.args.m.now.entries.now l.m.entries.now _ c.args.m.now.room l.invariant.2
          (rw l.invariant.1.dim at c.eliminate_row.ensures.now),
    )

pub returns : goal.returns
returns c = record { same = c.loop-i.invariant.1; now = sweep-done _ _ _ _ _ _ _ c.loop-i.invariant.2 (λ r' c' h g. omega arith) }
