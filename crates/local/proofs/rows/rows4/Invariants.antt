-- `local::rows::rows4` meets its contract: a turn makes a column. Assumes nothing.
use Prim.Native.Nat.{◌≤◌}
use Rattle.laws.proofs.Maps.{RowsTo}
use Rattle.real.specs.Maps.{local4}
use Rattle.real.specs.Squares.{Same}
use Rattle.local.proofs.rows.rows4.Given as goal

abbrev pub invariant-loop-c : goal.invariant-loop-c
invariant-loop-c l = (l.c ≤ l.initial.m.dim) × Same l.initial.m l.m × RowsTo (local4 l.s l.q) l.initial.m.dim l.initial.m.entries.now l.c l.m.entries.now
