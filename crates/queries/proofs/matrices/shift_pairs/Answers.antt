-- `queries::matrices::shift_pairs` meets its contract: a pair a turn (`shift-more`). Assumes nothing.
use Rattle.std.proofs.Common.{get_or, refl, arith}
use Rattle.laws.proofs.Loops.{none, made}
use Rattle.queries.specs.Marginals.{half_spin_of}
use Rattle.queries.specs.Inner.{mark_at}
use Rattle.queries.proofs.Filling.{by_pairs, shift-more}
use Rattle.real.proofs.Squares.{same_here, same_then}
use Rattle.queries.proofs.matrices.shift_pairs.Goals as goal

pub loop-j-init : goal.loop-j-init
loop-j-init c = (same_here _, none _ _ _ _ _ (λ r c h g. refl))

pub loop-j-preserved : goal.loop-j-preserved
loop-j-preserved c =
    let l = c.loop-j in
    let list = c.args.list.now in
    let m = c.args.m.now in
    let e = c.shift_pair.ensures in (
      same_then _ _ _ l.invariant.0 e.same,
      shift-more (λ j. half_spin_of (mark_at c.args.asked.now (get_or list j 0))) m.dim l.j m.entries.now
          l.m.entries.now _ _ (omega (arith, c.requires.rows, c.loop-j-test.true)) m.room (rw c.from.ensures at c.half_spin-s.ensures) l.invariant.1
          (rw l.invariant.0.dim at e.now),
    )

pub returns : goal.returns
returns c =
    let l = c.loop-j in
    record { same = l.invariant.0; now = made by_pairs _ _ _ _ _ _ (λ r c' h g. omega (arith, c.requires.rows, c.loop-j-test.false)) l.invariant.1 }
