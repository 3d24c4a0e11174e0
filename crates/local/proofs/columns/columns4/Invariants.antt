-- `local::columns::columns4` meets its contract: a turn makes a row. Assumes nothing.
use Prim.Native.Nat.{◌≤◌}
use Rattle.laws.proofs.Maps.{ColsTo}
use Rattle.real.specs.Maps.{local4}
use Rattle.real.specs.Squares.{Same}
use Rattle.local.proofs.columns.columns4.Given as goal

abbrev pub invariant-loop-r : goal.invariant-loop-r
invariant-loop-r l = (l.r ≤ l.initial.m.dim) × Same l.initial.m l.m × ColsTo (local4 l.s l.q) l.initial.m.dim l.initial.m.entries.now l.r l.m.entries.now
