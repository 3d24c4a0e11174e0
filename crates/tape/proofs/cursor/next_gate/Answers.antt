-- `tape::cursor::next_gate` meets its contract. The loop's invariant: `at` is a cursor for gate k. The measure is what is left of the tape. Assumes
-- nothing.
use mathlib.Core.Path.{◌∙◌}
use mathlib.Core.List.{List}
use Rattle.tape.specs.Parse.{gates_of}
use Prim.Native.Nat.{ℕ, ◌<◌, ◌+◌, ◌≤◌}
use native.Mathlib.Omega.{arith}
use lib.ListN.{length}
use Rattle.tape.specs.Bounds.{leading}
use Rattle.tape.specs.Cursor.{Cursor}
use Rattle.tape.proofs.CursorLaws.{found, found-room, found-gate}
use Rattle.tape.proofs.cursor.next_gate.Goals as goal

-- the room of a record, at a cursor
room : (t : List ℕ) (k i : ℕ) → Cursor t k i → k < length (gates_of t) → i + leading ≤ length t
room t k i v h = found-room t k i (found t k i v h)

pub overflow_add-at : goal.overflow_add-at
overflow_add-at c = omega (arith, room _ _ _ c.loop-at.invariant c.requires.k_in_bounds)

pub byte_at-requires : goal.byte_at-requires
byte_at-requires c = omega (arith, room _ _ _ c.loop-at.invariant c.requires.k_in_bounds)

pub byte_at-requires-in-loop-at : goal.byte_at-requires-in-loop-at
byte_at-requires-in-loop-at c = omega (arith, room _ _ _ c.loop-at.invariant c.requires.k_in_bounds)

pub overflow_add-at-2 : goal.overflow_add-at-2
overflow_add-at-2 c = omega (arith, room _ _ _ c.loop-at.invariant c.requires.k_in_bounds)

pub byte_at-requires-2 : goal.byte_at-requires-2
byte_at-requires-2 c = omega (arith, room _ _ _ c.loop-at.invariant c.requires.k_in_bounds)

pub overflow_add-result : goal.overflow_add-result
overflow_add-result c = omega (arith, c.gate_length.ensures.1, room _ _ _ c.loop-at.invariant c.requires.k_in_bounds)

pub returns : goal.returns
returns c =
    rw (c.gate_length.ensures.0, c.byte_at-2.ensures.0)
    (found-gate _ _ _ (found _ _ _ c.loop-at.invariant c.requires.k_in_bounds) (λ q. c.loop-at-test.false (c.byte_at.ensures.0 ∙ q)))
