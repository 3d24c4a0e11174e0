-- `plain::plain::apply_operation` meets its contract, by the cases of the operation. Assumes nothing.
use Rattle.laws.proofs.Matrix.{is-matrix, same}
use Rattle.real.proofs.Squares.{same_here}
use Rattle.state.proofs.Operations.{fits_one, fits-two}
use Rattle.plain.specs.Plain.{plain}
use Rattle.plain.proofs.plain.apply_operation.Goals as goal

pub plain2-requires : goal.plain2-requires
plain2-requires c = record { rows = c.requires.rows; mode = fits_one c.args.n c.args.o _ _ c.in-One.is c.requires.fits }

pub plain4-requires : goal.plain4-requires
plain4-requires c = record { rows = c.requires.rows; mode = fits-two c.args.n c.args.o _ _ c.in-Two.is c.requires.fits }

pub returns-in-One : goal.returns-in-One
unfolding plain
returns-in-One c = rw c.in-One.is c.plain2.ensures

pub returns-in-Two : goal.returns-in-Two
unfolding plain
returns-in-Two c = rw c.in-Two.is c.plain4.ensures

pub returns-in-Interaction : goal.returns-in-Interaction
unfolding plain
returns-in-Interaction c =
    let m = c.args.m.now in
    record { same = same_here _; now = rw c.in-Interaction.is (is-matrix m.dim m.entries.now _ _ (same m.dim m.entries.now)) }
