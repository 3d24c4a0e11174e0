-- `tape::record::entries_small` meets its contract. The loop's invariant: the entries passed are small. Assumes nothing.
use mathlib.Core.Path.{◌≡◌}
use mathlib.Core.Bool.{true}
use Rattle.tape.specs.Records.{entries_small}
use Rattle.tape.proofs.record.entries_small.Given as goal

abbrev pub invariant-loop-j : goal.invariant-loop-j
invariant-loop-j l = entries_small l.t l.at l.j ≡ true
