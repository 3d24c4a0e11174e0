-- `plain::turn::turn_from` meets its contract, a row a turn. Assumes nothing.
use mathlib.Core.Path.{refl}
use native.Mathlib.Omega.{arith}
use borrow.Author.Rules.{rules}
use Rattle.laws.specs.Loops.{by_row}
use Rattle.laws.proofs.Loops.{none, made}
use Rattle.real.proofs.Squares.{same_here, same_then}
use Rattle.plain.proofs.Turning.{turned-more}
use Rattle.plain.proofs.turn.turn_from.Goals as goal

pub loop-r-init : goal.loop-r-init
loop-r-init c = (search rules, same_here _, none _ _ _ _ _ (λ r c h g. refl))

pub loop-r-preserved : goal.loop-r-preserved
loop-r-preserved c =
    let l = c.loop-r in
    let m = c.args.m.now in
    let e = c.turn_row.ensures in (
      omega (arith, c.loop-r-test.true),
      same_then _ _ _ l.invariant.1 e.same,
      turned-more m.dim c.args.s l.r m.entries.now l.m.entries.now _ m.room l.invariant.2 (rw l.invariant.1.dim at e.now),
    )

pub returns : goal.returns
returns c =
    let l = c.loop-r in
    record { same = l.invariant.1; now = made by_row _ _ _ _ _ _ (λ r c' h g. omega arith) l.invariant.2 }
