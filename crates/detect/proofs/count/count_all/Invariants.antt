-- `detect::count::count_all` meets its contract: after i records the counts are those of their items, and the operations of
-- matchgates among them are kept. Assumes nothing.
use mathlib.Core.Path.{◌≡◌}
use Rattle.work.specs.Lent.{FloatsOnly}
use Rattle.detect.specs.Counts.{counts_of}
use Rattle.detect.specs.Records.{items_in, modes_in}
use Rattle.detect.specs.Kept.{Counted}
use Rattle.detect.proofs.count.count_all.Given as goal

abbrev pub invariant-loop-i : goal.invariant-loop-i
invariant-loop-i l =
    let w = l.initial.work in
    (l.c ≡ counts_of l.tol (modes_in w.marks) (items_in w.floats w.marks l.i)) × FloatsOnly w l.work × Counted l.c w.floats l.work.floats w.marks l.i
