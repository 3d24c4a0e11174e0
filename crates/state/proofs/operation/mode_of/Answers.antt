-- `state::operation::mode_of` meets its contract: by the guess where it is the number, else by cutting. Assumes nothing.
use Rattle.std.proofs.Common.{sym, arith}
use Rattle.state.proofs.Wholes.{mode-is}
use Rattle.state.proofs.operation.mode_of.Goals as goal

pub returns-then-i-x : goal.returns-then-i-x
returns-then-i-x c =
    let near = c.near-i in
    sym (mode-is _ near.result _ (omega (arith, near.ensures)) c.if-i-n.true c.if-i-x.true)
