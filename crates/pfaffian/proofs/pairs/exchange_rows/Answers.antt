-- `pfaffian::pairs::exchange_rows` meets its contract: each turn trades two entries (`rows-exchange-more`). Assumes nothing.
use native.Mathlib.Omega.{arith}
use borrow.Author.Tests.{lt-leb}
use Rattle.laws.specs.Steps.{cols_from}
use Rattle.laws.specs.Loops.{by_col}
use Rattle.laws.proofs.Loops.{made}
use Rattle.laws.proofs.Sweep.{sweep-start}
use Rattle.laws.proofs.Exchange.{rows-exchange-more}
use Rattle.real.proofs.Squares.{same_here, same_then}
use Rattle.pfaffian.proofs.pairs.exchange_rows.Goals as goal

pub loop-c-init : goal.loop-c-init
loop-c-init c = (omega (arith, c.requires), same_here _, sweep-start by_col (cols_from c.args.k) _ _ _ _ (λ r c h. lt-leb _ _ h))

pub loop-c-preserved : goal.loop-c-preserved
loop-c-preserved c =
    let l = c.loop-c in (
      omega (arith, l.invariant.0, c.loop-c-test.true),
      same_then _ _ _ l.invariant.1 c.exchange.ensures.same,
      rows-exchange-more c.args.p c.args.q c.args.k c.args.m.now.dim l.c c.args.m.now.entries.now l.m.entries.now _ c.requires.rows.0 c.requires.rows.1
          l.invariant.0.0 c.loop-c-test.true c.args.m.now.room l.invariant.2 (rw l.invariant.1.dim at c.exchange.ensures.now),
    )

pub returns : goal.returns
returns c = record { same = c.loop-c.invariant.1; now = made by_col _ _ _ _ _ _ (λ r' c' h g. omega arith) c.loop-c.invariant.2 }
