-- `queries::basis::basis_bit` meets its contract, by its test. Assumes nothing.
use Rattle.std.proofs.Common.{arith, lt-ltb, le-ltb}
use Rattle.queries.specs.Basis.{basis_bit_of}
use Rattle.queries.proofs.Marking.{read_is}
use Rattle.queries.proofs.basis.basis_bit.Goals as goal

pub returns-then-q-lt-WORD_BITS : goal.returns-then-q-lt-WORD_BITS
unfolding basis_bit_of
returns-then-q-lt-WORD_BITS c = rw (lt-ltb _ _ c.if-q-lt-WORD_BITS.true) (read_is _ (omega arith))

pub returns-else-q-lt-WORD_BITS : goal.returns-else-q-lt-WORD_BITS
unfolding basis_bit_of
returns-else-q-lt-WORD_BITS c = rw (le-ltb _ _ c.if-q-lt-WORD_BITS.false) (read_is _ (omega arith))
