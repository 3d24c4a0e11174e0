-- `order::edges::covered` meets its contract: the sum so far is that of the edges from i on, and small. Assumes nothing.
use mathlib.Core.Path.{◌≡◌}
use Prim.Native.Nat.{◌+◌, ◌*◌, ◌-◌, ◌≤◌}
use Rattle.laws.specs.Views.{up_from}
use Rattle.work.specs.Columns.{pos_column}
use Rattle.work.specs.Marks.{column}
use Rattle.order.specs.Slice.{edge_at}
use Rattle.order.specs.Choice.{covered_by}
use Rattle.order.proofs.edges.covered.Given as goal

abbrev pub invariant-loop-i : goal.invariant-loop-i
invariant-loop-i l = record {
  down : l.i ≤ l.m;
  sum : l.s ≡ covered_by (up_from (edge_at l.marks.entries.now) l.i (l.m - l.i)) (column pos_column l.marks.entries.now);
  small : l.s + 0x1_0000_0000 * l.i ≤ 0x1_0000_0000 * l.m;
}
