-- `local::signs::settle_rows` meets its contract, a row a turn. Assumes nothing.
use mathlib.Core.Path.{◌≡◌, ◌∙◌}
use native.Mathlib.Nat.{le_antisymm}
use native.Mathlib.Omega.{arith}
use Rattle.local.specs.State.{stored}
use Rattle.local.specs.Parts.{band, rows_settled}
use Rattle.local.specs.Signed.{state_of}
use Rattle.local.proofs.Stored.{is-stored}
use Rattle.local.proofs.Settling.{rows_none, rows_more}
use Rattle.local.proofs.SameSigned.{same_here, same_then}
use Rattle.local.proofs.signs.settle_rows.Goals as goal

pub loop-j-init : goal.loop-j-init
loop-j-init c = (omega arith, same_here _, rows_none _ _ _)

pub loop-j-preserved : goal.loop-j-preserved
loop-j-preserved c =
    let l = c.loop-j in
    let t = c.args.t.now in
    let e = c.settle_row.ensures in (
      omega (arith, c.loop-j-test.true),
      same_then _ _ _ l.invariant.1 e.same,
      rows_more t.dim c.args.s l.j t.entries.now l.t.entries.now _ (state_of t)
          (omega (arith, c.requires, c.loop-j-test.true)) t.room l.invariant.2 (rw l.invariant.1.dim at e.now),
    )

pub returns : goal.returns
returns c =
    let l = c.loop-j in
    let t = c.args.t.now in
    let all : l.j ≡ c.args.k = le_antisymm l.invariant.0 c.loop-j-test.false in record {
      same = l.invariant.1;
      now = is-stored _ _ _ _ t.room l.invariant.2
          ∙ (λ z. stored t.dim (rows_settled (band c.args.s (all z)) (state_of t)) t.entries.now);
    }
