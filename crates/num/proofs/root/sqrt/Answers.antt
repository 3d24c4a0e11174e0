-- `num::root::sqrt` meets its contract: what the tests say of x is in `Cases`, and a root is what `sqrt_of` computes (`root_is`). Assumes nothing.
use mathlib.Core.Path.{◌≡◌, sym, subst}
use lib.Dec.{T}
use lib.Ieee.{Float, binary64, fits}
use Rattle.num.specs.Root.{RootOf, sqrt_of}
use Rattle.num.proofs.SqrtOf.{root_is}
use Rattle.num.proofs.root.Cases.{some_bits, finite-root, infinity, at_zero, no-root}
use Rattle.num.proofs.root.sqrt.Goals as goal
use Rattle.num.proofs.root.sqrt.Goals.{Start}

-- x is an f64, as every parameter is
held : (c : Start) → T (fits binary64 c.args.x)
held c = subst T (sym c.well_formed.0.1) tt

-- so both clauses hold of a root
both : (c : Start) (r : Float) → RootOf c.args.x r → record { nearest : RootOf c.args.x r; value : r ≡ sqrt_of c.args.x }
both c r R = record { nearest = R; value = root_is c.args.x r (held c) R }

pub root_bits-requires : goal.root_bits-requires
root_bits-requires c =
    let s = c.before.before in
    (some_bits s.args.x (held s) c.if-x.true, c.if-b-lt-INFINITY.true)

pub returns-then-b-lt-INFINITY : goal.returns-then-b-lt-INFINITY
returns-then-b-lt-INFINITY c =
    let s = c.before.before.before in
    both s _ (finite-root s.args.x _ (held s) c.if-x.true c.if-b-lt-INFINITY.true c.root_bits.ensures.near)

pub returns-then-x : goal.returns-then-x
returns-then-x c =
    let s = c.before.before in
    both s _ (infinity s.args.x (held s) c.if-x.true c.if-b-lt-INFINITY.false)

pub returns-then-x-2 : goal.returns-then-x-2
returns-then-x-2 c =
    let s = c.before.before in
    both s _ (at_zero s.args.x c.if-x-2.true)

pub returns-else-x-2 : goal.returns-else-x-2
returns-else-x-2 c =
    let s = c.before.before in
    both s _ (no-root s.args.x c.if-x.false c.if-x-2.false)
