-- `tape::record::label_bytes` meets its contract. The loop's invariant: the bytes passed are printable. Assumes nothing.
use native.Mathlib.Omega.{arith}
use Rattle.std.proofs.lemmas.Bool.Decides.{nat_tests}
use Rattle.laws.proofs.Tests.{all-fails}
use Rattle.tape.specs.Records.{label_bytes}
use Rattle.tape.proofs.record.label_bytes.Goals as goal

pub returns-then-b-lt32 : goal.returns-then-b-lt32
unfolding label_bytes
returns-then-b-lt32 c = all-fails _ _ c.loop-j.j c.loop-j-test.true (grind (arith, nat_tests))
