-- What the check of a tape says gives the cursor of the first gate.
use Rattle.std.proofs.Common.{sym}
use Rattle.tape.proofs.CursorLaws.{checked-passed}
use Rattle.replay_tape.proofs.gates_agree.Goals as goal

pub walk_agrees-requires-clause-cursor : goal.walk_agrees-requires-clause-cursor
walk_agrees-requires-clause-cursor c = (checked-passed _ _ _ _ (sym c.in-Ok.ensures)).cursor

pub walk_agrees-requires-clause-gates_value : goal.walk_agrees-requires-clause-gates_value
walk_agrees-requires-clause-gates_value c = (checked-passed _ _ _ _ (sym c.in-Ok.ensures)).gates
