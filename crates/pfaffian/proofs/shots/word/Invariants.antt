-- `pfaffian::shots::word` meets its contract: from the highest bit down, each turn puts a bit below those above it. Assumes nothing.
use mathlib.Core.Path.{◌≡◌}
use Prim.Native.Nat.{◌≤◌, ◌-◌, ◌+◌}
use lib.ListN.{length}
use Rattle.laws.specs.Tables.{mode_at}
use Rattle.pfaffian.specs.Shot.{qubit_bit, word_of}
use Rattle.pfaffian.proofs.shots.word.Given as goal

abbrev pub invariant-loop-i : goal.invariant-loop-i
invariant-loop-i l = (l.i ≤ 64) × (l.w ≡ word_of (qubit_bit (mode_at l.modes) (length l.modes) l.bits) (l.low + l.i) (64 - l.i))
