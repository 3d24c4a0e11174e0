-- `text::lines::push_wires` meets its contract: the wires before this one have been written. Assumes nothing.
use mathlib.Core.Path.{◌≡◌}
use mathlib.Core.List.{◌++◌}
use Rattle.text.specs.Lines.{wires}
use Rattle.text.proofs.lines.push_wires.Given as goal

abbrev pub invariant-loop-wire : goal.invariant-loop-wire
invariant-loop-wire l = l.text.bytes ≡ l.initial.text.bytes ++ wires l.order l.wire-index
