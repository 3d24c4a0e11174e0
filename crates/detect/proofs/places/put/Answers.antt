-- `detect::places::put` meets its contract: each turn of the loop writes one place more. Assumes nothing.
use mathlib.Core.Path.{◌≡◌, ap, ◌∙◌}
use Prim.Native.Nat.{◌+◌}
use native.Mathlib.Numerals.{add-one}
use native.Mathlib.Omega.{arith}
use lib.ListN.{set, get_or, length-set}
use lib.Seq.{paste, paste-suc}
use lib.Ieee.{nan}
use Rattle.detect.proofs.places.put.Goals as goal

pub loop-k-preserved : goal.loop-k-preserved
loop-k-preserved c =
    let l = c.loop-k in
    let a = c.args in
    let h = c.requires in
    let here : l.k ≡ 0 + l.k = omega arith in (
      rw (l.invariant.0, add-one l.k)
          (ap (λ i. set (paste a.l.now 0 a.x.now l.k) i (get_or a.x.now l.k nan)) here
          ∙ paste-suc a.l.now 0 a.x.now l.k nan (omega (arith, h.1, c.loop-k-test.true)) (omega (arith, h.0, c.loop-k-test.true))),
      simp length-set l.invariant.1,
    )
