-- `num::root::adjusted` meets its contract: with d + r * r ≡ a * 2 ^ 52 + z each answer is one of three lemmas on whole numbers. Assumes nothing.
use mathlib.Core.Path.{◌≡◌}
use Prim.Native.Nat.{◌+◌, ◌-◌, ◌*◌, ◌^◌}
use native.Mathlib.Omega.{arith}
use Rattle.num.proofs.root.Tested.{apart, itself, less_one, one_more}
use Rattle.num.proofs.root.adjusted.Goals as goal
use Rattle.num.proofs.root.adjusted.Goals.{Else-a-k}

-- what d and z stand for
split : (c : Else-a-k)
    → (c.args.a + 16 - c.args.k) * 2 ^ 52 + c.args.r * c.args.r
    ≡ c.args.a * 2 ^ 52 + (c.args.low + 2 ^ 56)
split c =
    let s = c.before in
    apart s.args.a s.args.r s.args.k s.args.low s.requires.square_of c.if-a-k.false

pub returns-then-z-d : goal.returns-then-z-d
returns-then-z-d c = itself _ _ _ _ (split c.before.before.before) (omega arith) c.if-d-z.true c.if-z-d.true

pub returns-then-z-d-2 : goal.returns-then-z-d-2
returns-then-z-d-2 c = less_one _ _ _ _ (split c.before.before.before.before) (omega arith) c.if-z-d.false c.if-z-d-2.true

pub returns-then-d-z-2 : goal.returns-then-d-z-2
returns-then-d-z-2 c = one_more _ _ _ _ (split c.before.before.before) c.if-d-z.false c.if-d-z-2.true
