-- `pfaffian::pairs::exchange_columns` meets its contract: each turn trades two entries (`cols-exchange-more`). Assumes nothing.
use native.Mathlib.Omega.{arith}
use borrow.Author.Tests.{lt-leb}
use Rattle.laws.specs.Steps.{rows_from}
use Rattle.laws.specs.Loops.{by_row}
use Rattle.laws.proofs.Loops.{made}
use Rattle.laws.proofs.Sweep.{sweep-start}
use Rattle.laws.proofs.Exchange.{cols-exchange-more}
use Rattle.real.proofs.Squares.{same_here, same_then}
use Rattle.pfaffian.proofs.pairs.exchange_columns.Goals as goal

pub loop-r-init : goal.loop-r-init
loop-r-init c = (omega (arith, c.requires), same_here _, sweep-start by_row (rows_from c.args.k) _ _ _ _ (λ r c h. lt-leb _ _ h))

pub loop-r-preserved : goal.loop-r-preserved
loop-r-preserved c =
    let l = c.loop-r in (
      omega (arith, l.invariant.0, c.loop-r-test.true),
      same_then _ _ _ l.invariant.1 c.exchange.ensures.same,
      cols-exchange-more c.args.p c.args.q c.args.k c.args.m.now.dim l.r c.args.m.now.entries.now l.m.entries.now _ c.requires.columns.0 c.requires.columns.1
          l.invariant.0.0 c.loop-r-test.true c.args.m.now.room l.invariant.2 (rw l.invariant.1.dim at c.exchange.ensures.now),
    )

pub returns : goal.returns
returns c = record { same = c.loop-r.invariant.1; now = made by_row _ _ _ _ _ _ (λ r' c' h g. omega arith) c.loop-r.invariant.2 }
