-- `detect::tables::table` meets its contract: the entries so far are the closure's. Assumes nothing.
use mathlib.Core.Path.{◌≡◌}
use Prim.Native.Nat.{ℕ, ◌<◌}
use Rattle.detect.specs.Report.{table}
use Rattle.detect.proofs.tables.table.Given as goal

abbrev pub invariant-loop-k : goal.invariant-loop-k
invariant-loop-k g l = (e : ℕ → ℕ) → ((k v : ℕ) → k < l.n → g.F.Fn.post l.entry (k, tt {0}) v → v ≡ e k) → l.t ≡ table l.k e
