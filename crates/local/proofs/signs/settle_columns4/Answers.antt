-- `local::signs::settle_columns4` meets its contract, a row's part a turn. Assumes nothing.
use mathlib.Core.Path.{refl}
use native.Mathlib.Omega.{arith}
use borrow.Author.Rules.{rules}
use Rattle.laws.specs.Loops.{by_row}
use Rattle.laws.proofs.Loops.{none, made}
use Rattle.local.proofs.Settling.{columns-more, signs-kept}
use Rattle.local.proofs.SameSigned.{same_here, same_then}
use Rattle.local.proofs.signs.settle_columns4.Goals as goal

pub loop-r-init : goal.loop-r-init
loop-r-init c = (search rules, same_here _, none _ _ _ _ _ (λ r c h g. refl))

pub settle_part4-requires-clause-below4 : goal.settle_part4-requires-clause-below4
settle_part4-requires-clause-below4 c =
    let l = c.loop-r in
    let t = c.args.t.now in
    rw l.invariant.1.dim (signs-kept t.dim c.args.s l.r c.args.below t.entries.now l.t.entries.now l.invariant.2 c.requires.below4)

pub loop-r-preserved : goal.loop-r-preserved
loop-r-preserved c =
    let l = c.loop-r in
    let t = c.args.t.now in
    let e = c.settle_part4.ensures in (
      omega (arith, c.loop-r-test.true),
      same_then _ _ _ l.invariant.1 e.same,
      columns-more t.dim c.args.s 4 l.r t.entries.now l.t.entries.now _ c.loop-r-test.true t.room
          c.requires.columns
          l.invariant.2 (rw l.invariant.1.dim at e.now),
    )

pub returns : goal.returns
returns c =
    let l = c.loop-r in
    record { same = l.invariant.1; now = made by_row _ _ _ _ _ _ (λ r c' h g. omega arith) l.invariant.2 }
