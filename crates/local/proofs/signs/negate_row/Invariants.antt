-- `local::signs::negate_row` meets its contract, an entry a turn. Assumes nothing.
use Prim.Native.Nat.{◌≤◌}
use Rattle.local.proofs.Settling.{RowNegated}
use Rattle.local.specs.Signed.{Same}
use Rattle.local.proofs.signs.negate_row.Given as goal

abbrev pub invariant-loop-c : goal.invariant-loop-c
invariant-loop-c l =
    (l.c ≤ l.initial.t.dim) × Same l.initial.t l.t × RowNegated l.i l.initial.t.dim l.initial.t.entries.now l.c l.t.entries.now
