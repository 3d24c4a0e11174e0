-- `pfaffian::shots::drawn` meets its contract. Assumes nothing.
use Rattle.laws.proofs.Zeros.{one-bits}
use Rattle.pfaffian.proofs.Literals.{half-bits}
use Rattle.pfaffian.proofs.shots.drawn.Goals as goal

pub returns : goal.returns
returns c = rw (half-bits, one-bits)
