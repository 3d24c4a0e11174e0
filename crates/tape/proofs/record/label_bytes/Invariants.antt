-- `tape::record::label_bytes` meets its contract. The loop's invariant: the bytes passed are printable. Assumes nothing.
use mathlib.Core.Path.{◌≡◌}
use mathlib.Core.Bool.{true}
use Rattle.tape.specs.Records.{label_bytes}
use Rattle.tape.proofs.record.label_bytes.Given as goal

abbrev pub invariant-loop-j : goal.invariant-loop-j
invariant-loop-j l = label_bytes l.t l.start l.j ≡ true
