-- `state::application::apply_operation` meets its contract, by the cases of the operation. Assumes nothing.
use Rattle.std.proofs.Common.{arith}
use Rattle.local.proofs.SameSigned.{same_here}
use Rattle.local.proofs.Stored.{stored_same}
use Rattle.state.specs.Operation.{effect}
use Rattle.state.proofs.Operations.{fits_one, fits-two}
use Rattle.state.proofs.application.apply_operation.Goals as goal

pub apply_local2-requires : goal.apply_local2-requires
apply_local2-requires c = record { rows = c.requires.rows; mode = fits_one c.args.n c.args.o _ _ c.in-One.is c.requires.fits }

pub apply_local4-requires : goal.apply_local4-requires
apply_local4-requires c = omega (arith, c.requires.rows, fits-two c.args.n c.args.o _ _ c.in-Two.is c.requires.fits)

pub returns-in-One : goal.returns-in-One
unfolding effect
returns-in-One c = rw c.in-One.is c.apply_local2.ensures

pub returns-in-Two : goal.returns-in-Two
unfolding effect
returns-in-Two c = rw c.in-Two.is c.apply_local4.ensures

pub returns-in-Interaction : goal.returns-in-Interaction
unfolding effect
returns-in-Interaction c =
    let t = c.args.t.now in
    record { same = same_here _; now = rw c.in-Interaction.is (stored_same t.dim t.entries.now t.room) }
