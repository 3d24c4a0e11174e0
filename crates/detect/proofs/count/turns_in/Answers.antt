-- `detect::count::turns_in` meets its contract: a wire is turned if it has a rotation. Assumes nothing.
use mathlib.Core.Path.{◌≡◌, refl, ap₂}
use Prim.Native.Nat.{◌+◌}
use native.Mathlib.Omega.{arith}
use Rattle.std.specs.Prelude.{Option, Some, None, is_some}
use Rattle.std.specs.Int.{from_bool}
use Rattle.real.specs.declared.maps.Map2.{Map2}
use Rattle.classify.specs.Diagonal.{phase_a_of, phase_b_of, rotation_of}
use Rattle.detect.specs.Counts.{turned, turns_in}
use Rattle.detect.proofs.Sums.{turns-few}
use Rattle.detect.proofs.count.turns_in.Goals as goal

turned-by : (x : Option Map2) → from_bool (is_some x) ≡ turned x
turned-by (Some q) = refl
turned-by None = refl

pub returns : goal.returns
unfolding turns_in
returns c =
    let a : c.from.result ≡ turned (rotation_of (phase_a_of c.args.v)) =
    rw (c.from.ensures, c.is_some-a.ensures, c.rotation_of.ensures, c.phase_a.ensures) (turned-by _) in
    let b : c.from-2.result ≡ turned (rotation_of (phase_b_of c.args.v)) =
    rw (c.from-2.ensures, c.is_some-b.ensures, c.rotation_of-2.ensures, c.phase_b.ensures) (turned-by _) in
    (ap₂ ◌+◌ a b, omega (arith, a, b, turns-few c.args.v))
