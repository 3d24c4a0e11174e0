-- `local::signs::settle_part` meets its contract, an entry a turn. Assumes nothing.
use mathlib.Core.Path.{◌≡◌, ◌∙◌}
use native.Mathlib.Nat.{le_antisymm}
use native.Mathlib.Omega.{arith}
use Rattle.laws.specs.Matrix.{matrix}
use Rattle.laws.proofs.Matrix.{is-matrix}
use Rattle.local.specs.Parts.{band, part_settled}
use Rattle.local.specs.Signed.{state_of}
use Rattle.local.proofs.Settling.{part_none, part-next}
use Rattle.local.proofs.SameSigned.{same_here, same_then}
use Rattle.local.proofs.signs.settle_part.Goals as goal

pub loop-j-init : goal.loop-j-init
loop-j-init c = (omega arith, same_here _, part_none _ _ _ _)

pub loop-j-preserved : goal.loop-j-preserved
loop-j-preserved c =
    let l = c.loop-j in
    let t = c.args.t.now in
    let e = c.settle_entry.ensures in (
      omega (arith, c.loop-j-test.true),
      same_then _ _ _ l.invariant.1 e.same,
      part-next t.dim c.args.r c.args.s l.j t.entries.now l.t.entries.now c.requires.row
          (omega (arith, c.requires.columns, c.loop-j-test.true)) t.room l.invariant.2 _ (rw l.invariant.1.dim at e.now),
    )

pub returns : goal.returns
returns c =
    let l = c.loop-j in
    let t = c.args.t.now in
    let all : l.j ≡ c.args.k = le_antisymm l.invariant.0 c.loop-j-test.false in record {
      same = l.invariant.1;
      now = is-matrix _ _ _ _ l.invariant.2 ∙ (λ z. matrix t.dim (part_settled (band c.args.s (all z)) c.args.r (state_of t)) t.entries.now);
    }
