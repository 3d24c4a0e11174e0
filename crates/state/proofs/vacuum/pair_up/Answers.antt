-- `state::vacuum::pair_up` meets its contract: a turn writes the pair of a mode. Assumes nothing.
use Rattle.std.proofs.Common.{refl, ◌∙◌, arith}
use lib.Ieee.{of_bits}
use Rattle.laws.proofs.Loops.{none, made}
use Rattle.real.proofs.Squares.{same_here, same_then}
use Rattle.state.proofs.Pairs.{by_mode, pair-more}
use Rattle.state.proofs.vacuum.pair_up.Goals as goal

pub loop-k-init : goal.loop-k-init
loop-k-init c = (same_here _, none _ _ _ _ _ (λ r c h g. refl))

pub loop-k-preserved : goal.loop-k-preserved
unfolding of_bits
loop-k-preserved c =
    let l = c.loop-k in
    let m = c.args.m.now in
    let is = l.invariant.0.dim in
    let first = c.put.ensures in
    let second = c.put-in-loop-k.ensures in (
      same_then _ _ _ l.invariant.0 (same_then _ _ _ first.same second.same),
      pair-more m.dim l.k m.entries.now l.m.entries.now _ _ (omega (arith, c.requires, c.loop-k-test.true)) m.room l.invariant.1
          (rw is at first.now) (rw (first.same.dim ∙ is) at second.now),
    )

pub returns : goal.returns
unfolding of_bits
returns c =
    let l = c.loop-k in
    record { same = l.invariant.0; now = made by_mode _ _ _ _ _ _ (λ r c' h g. omega (arith, c.requires, c.loop-k-test.false)) l.invariant.1 }
