-- Laws of the kinds: a kind's number is read as that kind, and what is read as a kind is its number. By cases. Assumes nothing.
use mathlib.Core.Path.{◌≡◌}
use Rattle.std.specs.Prelude.{Some}
use Prim.Native.Nat.{ℕ}
use native.Mathlib.Omega.{arith}
use Rattle.std.proofs.lemmas.Bool.Decides.{nat_tests}
use Rattle.work.specs.Kinds.{kind_number, kind_of}
use Rattle.work.specs.declared.kinds.Kind.{Kind}

-- a kind's number is read as the kind
pub kind_read : (v : ℕ) (k : Kind) → v ≡ kind_number k → Some k ≡ kind_of v
unfolding kind_of
kind_read v k e = grind (arith, nat_tests)

-- what is read as a kind is its number
pub kind_back : (v : ℕ) (k : Kind) → kind_of v ≡ Some k → v ≡ kind_number k
unfolding kind_of
kind_back v k e = grind (arith, nat_tests)
