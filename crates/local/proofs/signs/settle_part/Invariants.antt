-- `local::signs::settle_part` meets its contract, an entry a turn. Assumes nothing.
use Prim.Native.Nat.{◌≤◌}
use Rattle.local.proofs.Settling.{PartTo}
use Rattle.local.specs.Signed.{Same}
use Rattle.local.proofs.signs.settle_part.Given as goal

abbrev pub invariant-loop-j : goal.invariant-loop-j
invariant-loop-j l =
    (l.j ≤ l.k) × Same l.initial.t l.t × PartTo l.initial.t.dim l.r l.s l.initial.t.entries.now l.j l.t.entries.now
