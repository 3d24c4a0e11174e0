-- `pfaffian::pairs::eliminate_row` meets its contract: each turn makes an entry by the rows k and k + 1 (`pair-row-more`). Assumes nothing.
use mathlib.Core.Path.{◌≡◌, refl, subst}
use Prim.Native.Nat.{◌<◌, ◌-◌, ◌+◌, ◌*◌}
use native.Mathlib.Omega.{arith}
use lib.ListN.{get_or, length, set}
use lib.Ieee.{nan}
use Rattle.laws.specs.Steps.{corner_from}
use Rattle.laws.proofs.Sweep.{sweep-done}
use Rattle.laws.proofs.Eliminations.{PairRow, pair-row-more, corner-low, corner-on, corner-row-start}
use Rattle.pfaffian.specs.Turns.{less_by}
use Rattle.pfaffian.proofs.Elimination.{Walk, walk}
use Rattle.pfaffian.proofs.pairs.eliminate_row.Goals as goal
use Rattle.pfaffian.proofs.pairs.eliminate_row.Goals.{In-loop-x}

-- where the turn's entries stand

here : (c : In-loop-x) → Walk c.args.m.now.dim c.args.k c.args.i c.loop-x.x
here c = walk c.args.m.now.dim c.args.k c.args.i c.loop-x.x c.requires.row.0 c.requires.row.1 c.loop-x.invariant.0.0 c.loop-x-test.true

-- they are in the slice

in-slice : (c : In-loop-x)
    → let l = c.loop-x in (l.x + c.args.m.now.dim < length l.a) × (l.x + (c.args.i * c.args.m.now.dim - c.args.k * c.args.m.now.dim) < length l.a)
in-slice c =
    let w = (here c).room in
    (omega (arith, w, c.loop-x.invariant.1.long, c.args.m.now.room), omega (arith, w, c.loop-x.invariant.1.long, c.args.m.now.room))

pub loop-x-init : goal.loop-x-init
loop-x-init c =
    let n : c.args.k * c.args.m.now.dim + (c.args.k + 2) - c.args.k * c.args.m.now.dim ≡ c.args.k + 2 = omega arith in
    (omega (arith, c.requires), rw n (corner-row-start _ _ _ _ _))

pub loop-x-preserved : goal.loop-x-preserved
loop-x-preserved c =
    let l = c.loop-x in
    let k = c.args.k in
    let w = here c.before.before.before in
    let n = l.x - k * c.args.m.now.dim in
    let down = c.args.i * c.args.m.now.dim - k * c.args.m.now.dim in
    let v = less_by (get_or l.a (l.x + down) nan) c.entry-ti.result (get_or l.a l.x nan) c.entry-rowi.result
    (get_or l.a (l.x + c.args.m.now.dim) nan) in
    let a' = set l.a (l.x + down) v in
    let next : n + 1 ≡ l.x + 1 - k * c.args.m.now.dim = omega (arith, w.first) in (
      omega (arith, c.loop-x-test.true, l.invariant.0),
      subst (λ n. PairRow k less_by (corner_from (k + 2)) c.args.m.now.dim c.args.i c.args.m.now.entries.now n a') next
          (pair-row-more k less_by (corner_from (k + 2)) c.args.m.now.dim (corner-low (k + 2)) c.args.i n c.args.m.now.entries.now l.a a' v
          c.requires.row.1 w.below c.args.m.now.room (corner-on (k + 2) c.args.i n c.requires.row.0 w.low)
          (λ s. less_by (get_or l.a (w.own s) nan) (c.entry-ti.ensures s) (get_or l.a (w.first s) nan) (c.entry-rowi.ensures s)
          (get_or l.a (w.second s) nan))
          l.invariant.1 (λ s. set l.a (w.own s) v)),
    )

pub returns : goal.returns
returns c = record { same = record { lent = refl; dim = refl }; now = sweep-done _ _ _ _ _ _ _ c.loop-x.invariant.1 (λ r' c' h g. omega (arith, c.loop-x-test.false, c.loop-x.invariant.0)) }
