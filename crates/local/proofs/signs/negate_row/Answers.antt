-- `local::signs::negate_row` meets its contract, an entry a turn. Assumes nothing.
use mathlib.Core.Path.{refl}
use native.Mathlib.Omega.{arith}
use borrow.Author.Rules.{rules}
use Rattle.laws.specs.Loops.{by_col}
use Rattle.laws.proofs.Loops.{none, made}
use Rattle.local.proofs.Settling.{row-negated-more}
use Rattle.local.proofs.SameSigned.{same_here, same_then}
use Rattle.local.proofs.signs.negate_row.Goals as goal

pub loop-c-init : goal.loop-c-init
loop-c-init c = (search rules, same_here _, none _ _ _ _ _ (λ r c h g. refl))

pub loop-c-preserved : goal.loop-c-preserved
loop-c-preserved c =
    let l = c.loop-c in
    let t = c.args.t.now in
    let e = c.negate.ensures in (
      omega (arith, c.loop-c-test.true),
      same_then _ _ _ l.invariant.1 e.same,
      row-negated-more c.args.i t.dim l.c t.entries.now l.t.entries.now _ c.requires c.loop-c-test.true (omega (arith, t.room)) l.invariant.2
          (rw l.invariant.1.dim at e.now),
    )

pub returns : goal.returns
returns c =
    let l = c.loop-c in
    record { same = l.invariant.1; now = made by_col _ _ _ _ _ _ (λ r c' h g. omega arith) l.invariant.2 }
