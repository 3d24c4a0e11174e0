-- `local::rows::rows4` meets its contract: a turn makes a column. Assumes nothing.
use mathlib.Core.Path.{refl, ◌∙◌}
use native.Mathlib.Omega.{arith}
use borrow.Author.Rules.{rules}
use Rattle.laws.specs.Matrix.{put_column}
use Rattle.laws.specs.Loops.{by_col}
use Rattle.laws.proofs.Loops.{none, made}
use Rattle.laws.proofs.Maps.{rows_more}
use Rattle.real.specs.Maps.{row4, local4}
use Rattle.local.specs.Parts.{under4}
use Rattle.local.proofs.Structs.{turn4}
use Rattle.real.proofs.Squares.{same_here, same_then}
use Rattle.local.proofs.rows.rows4.Goals as goal

pub loop-c-init : goal.loop-c-init
loop-c-init c = (search rules, same_here _, none _ _ _ _ _ (λ r c h g. refl))

pub loop-c-preserved : goal.loop-c-preserved
loop-c-preserved c =
    let l = c.loop-c in
    let m = c.args.m.now in
    let a = l.m.entries.now in
    let put = put_column 4 m.dim c.args.s l.c in
    let is = l.invariant.1.dim in
    let read = rw is at c.column4-v.ensures in (
      omega (arith, c.loop-c-test.true),
      same_then _ _ _ l.invariant.1 c.put_column4.ensures.same,
      rows_more (local4 c.args.s c.args.q) m.dim l.c m.entries.now a _ c.loop-c-test.true c.requires
          m.room l.invariant.2
          (rw is at c.put_column4.ensures.now
          ∙ (λ i. put (row4 (c.mapped4.ensures i)) a)
          ∙ (λ i. put (row4 (under4 c.args.q (read i))) a)
          ∙ turn4 c.args.s m.dim l.c a c.args.q),
    )

pub returns : goal.returns
returns c =
    let l = c.loop-c in
    record { same = l.invariant.1; now = made by_col _ _ _ _ _ _ (λ r c' h g. omega arith) l.invariant.2 }
