-- `state::check::ones` meets its contract: the high bits of 64 are left (`ones-shifted`). Assumes nothing.
use Rattle.std.proofs.Common.{◌≡◌, ◌+◌, ◌-◌, ◌/◌, ◌^◌, ap, ◌∙◌, arith}
use Rattle.state.proofs.Words.{ones-shifted}
use Rattle.state.proofs.check.ones.Goals as goal

pub returns : goal.returns
returns c =
    let n = c.args.n in
    let whole : 64 ≡ n + (64 - n) = omega (arith, c.requires) in
    ap (λ x. (2 ^ x - 1) / 2 ^ (64 - n)) whole ∙ ones-shifted n (64 - n)
