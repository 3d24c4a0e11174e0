-- `pfaffian::shots::update_two` meets its contract: a store before the loop (`two-start`), and each turn makes an entry of both rows (`two-more`).
-- The invariant is said of the matrix before that store. Assumes nothing.
use mathlib.Core.Path.{◌∙◌}
use Prim.Native.Nat.{◌+◌, ◌*◌}
use native.Mathlib.Omega.{arith}
use lib.ListN.{set}
use Rattle.pfaffian.specs.Turns.{projected_by}
use Rattle.pfaffian.proofs.TwoRows.{two-start, two-more, two-done}
use Rattle.real.proofs.Squares.{same_then}
use Rattle.pfaffian.proofs.shots.update_two.Goals as goal

pub loop-e-init : goal.loop-e-init
loop-e-init c =
    let g = projected_by c.args.f in (
      omega (arith, c.requires),
      c.put.ensures.same,
      two-start c.args.a g c.args.m.now.dim c.args.c c.args.m.now.entries.now c.requires.0 c.requires.1 c.args.m.now.room _ _
          (c.projected.ensures
          ∙ (λ t. g (c.entry-between.ensures t) (c.entry-ac.ensures t) (c.entry-ad.ensures t) (c.entry-bc.ensures t) (c.entry-bd.ensures t)))
          c.put.ensures.now,
    )

pub loop-e-preserved : goal.loop-e-preserved
loop-e-preserved c =
    let l = c.loop-e in
    let g = projected_by c.args.f in
    let i = c.args.c in
    let dim = c.args.m.now.dim in
    let is = l.invariant.1.dim in
    let ae = rw is at c.entry-ae.ensures in
    let be = rw is at c.entry-be.ensures in
    let upper = rw is at c.entry-upper.ensures in
    let lower = rw is at c.entry-lower.ensures in
    let first = c.put-in-loop-e.ensures in
    let second = c.put-in-loop-e-2.ensures in
    let p = rw is at first.now in
    let q = rw (first.same.dim ∙ is) at second.now in (
      omega (arith, l.invariant.0, rw c.put.ensures.same.dim at c.loop-e-test.true),
      same_then _ _ _ l.invariant.1 (same_then _ _ _ first.same second.same),
      two-more c.args.a g dim i c.args.m.now.entries.now c.requires.0 c.requires.1 c.args.m.now.room l.e l.m.entries.now _ _ _
          (omega (arith, l.invariant.0)) (rw c.put.ensures.same.dim at c.loop-e-test.true)
          (c.projected-in-loop-e.ensures ∙ (λ t. g (upper t) (c.entry-ac.ensures t) (ae t) (c.entry-bc.ensures t) (be t)))
          (c.projected-in-loop-e-2.ensures ∙ (λ t. g (lower t) (c.entry-ad.ensures t) (ae t) (c.entry-bd.ensures t) (be t)))
          l.invariant.2
          (q ∙ (λ t. set (p t) ((i + 1) * dim + l.e) c.projected-in-loop-e-2.result)),
    )

pub returns : goal.returns
returns c =
    let l = c.loop-e in
    let g = projected_by c.args.f in record {
      same = l.invariant.1;
      now = two-done c.args.a g c.args.m.now.dim c.args.c c.args.m.now.entries.now c.requires.0 c.requires.1 c.args.m.now.room l.e l.m.entries.now
          (rw c.put.ensures.same.dim at c.loop-e-test.false) l.invariant.2;
    }
