-- `queries::lists::mark_odd` meets its contract: the marks are those of the places passed, none of which is bad. Assumes nothing.
use Rattle.std.proofs.Common.{◌≡◌, ◌-◌, length}
use Rattle.queries.specs.Lists.{first_from, outside, bad_place, odd_mode}
use Rattle.queries.specs.Inner.{Odd, Spans}
use Rattle.queries.proofs.lists.mark_odd.Given as goal

abbrev pub invariant-loop-i : goal.invariant-loop-i
invariant-loop-i l =
    (length l.odd ≡ length l.initial.odd)
    × (first_from (outside l.checked.n l.qubits) l.i (length l.qubits - l.i) ≡ bad_place l.checked.n l.qubits)
    × Spans l.checked.n (odd_mode l.checked.modes.now l.qubits l.i) l.span × Odd l.checked.n (odd_mode l.checked.modes.now l.qubits l.i) l.odd
