-- `pfaffian::shots::lay_row` meets its contract: each turn copies an entry across the diagonal (`laid_more`). Assumes nothing.
use native.Mathlib.Omega.{arith}
use borrow.Author.Rules.{rules}
use lib.Ieee.{neg}
use Rattle.laws.proofs.Sweep.{sweep-done}
use Rattle.laws.proofs.Eliminations.{cols-row-start, laid_more}
use Rattle.real.proofs.Squares.{same_here, same_then}
use Rattle.pfaffian.proofs.shots.lay_row.Goals as goal

pub loop-e-init : goal.loop-e-init
loop-e-init c = (search rules, same_here _, cols-row-start _ _ _ _ _)

pub loop-e-preserved : goal.loop-e-preserved
loop-e-preserved c =
    let l = c.loop-e in
    let is = rw l.invariant.1.dim at c.entry-x.ensures in (
      omega (arith, l.invariant.0, c.loop-e-test.true),
      same_then _ _ _ l.invariant.1 c.put.ensures.same,
      laid_more neg c.args.i c.args.s c.args.m.now.dim l.e c.args.m.now.entries.now l.m.entries.now _ _ c.requires.0 l.invariant.0.0 c.loop-e-test.true
          c.args.m.now.room (λ x. neg (is x)) l.invariant.2 (rw l.invariant.1.dim at c.put.ensures.now),
    )

pub returns : goal.returns
returns c = record { same = c.loop-e.invariant.1; now = sweep-done _ _ _ _ _ _ _ c.loop-e.invariant.2 (λ r' c' h g. omega arith) }
