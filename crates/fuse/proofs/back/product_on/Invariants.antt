-- `fuse::back::product_on` meets its contract: the product so far is that of the gates passed.
-- Assumes nothing.
use mathlib.Core.Path.{◌≡◌}
use Prim.Native.Nat.{◌-◌}
use Rattle.laws.specs.Views.{between}
use Rattle.fuse.specs.Events.{product}
use Rattle.fuse.specs.Layout.{event_at}
use Rattle.fuse.proofs.back.product_on.Given as goal

abbrev pub invariant-loop-j : goal.invariant-loop-j
invariant-loop-j l = l.acc ≡ product l.s (between (event_at l.work.floats l.work.marks) l.k (l.j - l.k))
