-- `text::print::push_z_lines` meets its contract: the lines of the first q qubits have been written. Assumes nothing.
use mathlib.Core.Path.{◌≡◌}
use mathlib.Core.List.{◌++◌}
use Rattle.text.specs.Lines.{z_lines}
use Rattle.text.specs.Print.{z_at}
use Rattle.text.proofs.print.push_z_lines.Given as goal

abbrev pub invariant-loop-q : goal.invariant-loop-q
invariant-loop-q l = l.text.bytes ≡ l.initial.text.bytes ++ z_lines (z_at l.r.n l.state l.r.modes) l.q
