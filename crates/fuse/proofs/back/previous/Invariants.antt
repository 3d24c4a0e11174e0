-- `fuse::back::previous` meets its contract: what was passed over does not pass the test.
-- Assumes nothing.
use mathlib.Core.Path.{◌≡◌}
use Rattle.laws.specs.Views.{seek}
use Rattle.fuse.specs.Layout.{touches_at}
use Rattle.fuse.proofs.back.previous.Given as goal

abbrev pub invariant-loop-j : goal.invariant-loop-j
invariant-loop-j l = seek (touches_at l.work.marks l.s) l.i ≡ seek (touches_at l.work.marks l.s) l.j
