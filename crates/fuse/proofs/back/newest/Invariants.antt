-- `fuse::back::newest` meets its contract: what was passed over does not pass the test.
-- Assumes nothing.
use mathlib.Core.Path.{◌≡◌}
use Rattle.laws.specs.Views.{seek}
use Rattle.fuse.specs.Layout.{meets_at}
use Rattle.fuse.proofs.back.newest.Given as goal

abbrev pub invariant-loop-j : goal.invariant-loop-j
invariant-loop-j l = seek (meets_at l.work.marks l.a l.b) l.i ≡ seek (meets_at l.work.marks l.a l.b) l.j
