-- `local::signs::settle_columns` meets its contract, a row's part a turn. Assumes nothing.
use Prim.Native.Nat.{◌≤◌}
use Rattle.local.proofs.Settling.{ColumnsTo}
use Rattle.local.specs.Signed.{Same}
use Rattle.local.proofs.signs.settle_columns.Given as goal

abbrev pub invariant-loop-r : goal.invariant-loop-r
invariant-loop-r l =
    (l.r ≤ l.initial.t.dim) × Same l.initial.t l.t × ColumnsTo l.initial.t.dim l.s l.k l.initial.t.entries.now l.r l.t.entries.now
