-- Room for a report: what the test on lengths says of the words and of the tables. Assumes nothing.
use mathlib.Core.Path.{◌≡◌}
use mathlib.Core.Bool.{true}
use Prim.Native.Nat.{ℕ, ◌*◌, ◌≤◌}
use native.Mathlib.Omega.{arith}
use Rattle.laws.specs.Bounds.{max_qubits}
use Rattle.detect.specs.Words.{word_count, table_count}
use Rattle.engine.specs.Reports.{has_report}

module _ (p w m t : ℕ) (room : has_report p w m t ≡ true) where
  pub room-words : word_count ≤ w
  unfolding has_report
  room-words = grind (arith, room)

  pub room-tables : table_count * max_qubits ≤ t
  unfolding has_report
  room-tables = grind (arith, room)
