-- `state::vacuum::vacuum` meets its contract: the matrix cleared, the pairs, and the signs. Assumes nothing.
use Rattle.std.proofs.Common.{rules, ◌≡◌, ◌*◌, ◌∙◌, arith}
use lib.Ieee.{of_bits}
use Rattle.laws.specs.Zeros.{+0, +1}
use Rattle.laws.specs.Slices.{filled}
use Rattle.laws.proofs.Slices.{part-back}
use Rattle.state.specs.Bounds.{dim_of}
use Rattle.state.proofs.Pairs.{vacuum-made}
use Rattle.state.proofs.Fills.{filled-front, filled-part}
use Rattle.state.proofs.vacuum.vacuum.Goals as goal

pub returns : goal.returns
unfolding of_bits
returns c =
    let dim = dim_of c.args.n in
    let zeros = c.fill.ensures.after (λ y e. e) in
    let ones = c.fill-2.ensures.after (λ y e. e) in
    let left : _ ≡ c.pair_up.new.m.entries.now = search rules in
    vacuum-made dim c.args.state.now _ _ _ c.requires.room
    (filled-front +0 (dim * dim) c.args.state.now c.fill.new.self zeros) (left ∙ c.pair_up.ensures.now)
    (part-back _ _ _ (filled dim +1) _ (ones ∙ filled-part +1 dim _ _ (omega arith)))
