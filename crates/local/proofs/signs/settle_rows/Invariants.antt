-- `local::signs::settle_rows` meets its contract, a row a turn. Assumes nothing.
use Prim.Native.Nat.{◌≤◌}
use Rattle.local.specs.State.{Stored}
use Rattle.local.specs.Parts.{band, rows_settled}
use Rattle.local.specs.Signed.{state_of, Same}
use Rattle.local.proofs.signs.settle_rows.Given as goal

abbrev pub invariant-loop-j : goal.invariant-loop-j
invariant-loop-j l =
    (l.j ≤ l.k) × Same l.initial.t l.t
    × Stored l.initial.t.dim l.initial.t.entries.now (rows_settled (band l.s l.j) (state_of l.initial.t)) l.t.entries.now
