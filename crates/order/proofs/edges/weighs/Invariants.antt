-- `order::edges::weighs` meets its contract: the sum so far is that of the edges from i on, and small. Assumes nothing.
use mathlib.Core.Path.{◌≡◌}
use Prim.Native.Nat.{◌+◌, ◌*◌, ◌-◌, ◌≤◌}
use Rattle.laws.specs.Views.{up_from}
use Rattle.order.specs.Slice.{edge_at}
use Rattle.order.specs.Weights.{weighs_of}
use Rattle.order.proofs.edges.weighs.Given as goal

abbrev pub invariant-loop-i : goal.invariant-loop-i
invariant-loop-i l = record {
  down : l.i ≤ l.m;
  sum : l.s ≡ weighs_of (up_from (edge_at l.marks.entries.now) l.i (l.m - l.i));
  small : l.s + 0x1_0000_0000 * l.i ≤ 0x1_0000_0000 * l.m;
}
