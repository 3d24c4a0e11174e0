-- `pfaffian::shots::update_rows` meets its contract: each turn makes two rows (`pair-more`, twice). Assumes nothing.
use mathlib.Core.Path.{◌≡◌, refl, subst}
use Prim.Native.Nat.{◌+◌, ◌*◌}
use native.Mathlib.Omega.{arith}
use Rattle.laws.specs.Matrix.{at}
use Rattle.laws.specs.Steps.{right_from, by_pair}
use Rattle.laws.specs.Loops.{by_row}
use Rattle.laws.proofs.Sweep.{sweep-start}
use Rattle.laws.proofs.Eliminations.{Pair, pair-more, right-low}
use Rattle.pfaffian.specs.Turns.{projected_by, measured_row}
use Rattle.pfaffian.proofs.TwoRows.{last_row}
use Rattle.real.proofs.Squares.{same_here, same_then}
use Rattle.pfaffian.proofs.shots.update_rows.Goals as goal

pub returns : goal.returns
returns c =
    let l = c.loop-pair in
    let dim = c.args.m.now.dim in
    record {
      same = l.invariant.1;
      now = last_row (c.args.a + 2) (by_pair c.args.a (projected_by c.args.f) (at dim c.args.m.now.entries.now)) dim (c.args.a + 2 + 2 * l.pair) c.args.m.now.entries.now l.m.entries.now
          (omega (arith, l.invariant.0, c.requires)) l.invariant.2;
    }

pub loop-pair-init : goal.loop-pair-init
loop-pair-init c =
    let none : c.args.a + 2 ≡ c.args.a + 2 + 2 * 0 = omega arith in
    (omega (arith, c.requires), same_here _, subst (λ n. Pair c.args.a (projected_by c.args.f) (right_from (c.args.a + 2)) c.args.m.now.dim c.args.m.now.entries.now n c.args.m.now.entries.now) none (sweep-start by_row _ _ _ _ _ (right-low _)))

pub loop-pair-preserved : goal.loop-pair-preserved
loop-pair-preserved c =
    let l = c.loop-pair in
    let dim = c.args.m.now.dim in
    let a = c.args.a in
    let f = c.args.f in
    let row = a + 2 + 2 * l.pair in
    let low = right-low (a + 2) in
    let m₀ = c.args.m.now.entries.now in
    let one = measured_row dim a f row l.m.entries.now in
    let two : row + 1 + 1 ≡ a + 2 + 2 * (l.pair + 1) = omega arith in (
      omega (arith, l.invariant.0, c.loop-pair-test.true),
      same_then _ _ _ l.invariant.1 c.update_two.ensures.same,
      subst (λ n. Pair a (projected_by f) (right_from (a + 2)) dim m₀ n c.update_two.new.m.entries.now) two
          (pair-more a (projected_by f) (right_from (a + 2)) dim low (row + 1) m₀ one _ c.args.m.now.room
          (pair-more a (projected_by f) (right_from (a + 2)) dim low row m₀ l.m.entries.now one c.args.m.now.room l.invariant.2 refl)
          (rw l.invariant.1.dim at c.update_two.ensures.now)),
    )
