-- `local::signs::any_below` meets its contract, by what `any` finds. Assumes nothing.
use lib.Ieee.{lt, of_bits}
use borrow.Author.Rules.{rules}
use Rattle.std.proofs.Common.{tests}
use Rattle.std.proofs.lemmas.Iterator.{YieldsList-from_slice}
use Rattle.std.proofs.lemmas.Iterator.Search.{any_from_yields_List}
use Rattle.laws.specs.Zeros.{+0}
use Rattle.local.proofs.signs.any_below.Goals as goal

pub returns : goal.returns
unfolding of_bits
returns c =
    any_from_yields_List (λ x. lt x +0) _ _ _ c.any.ensures.ran (YieldsList-from_slice c.args.signs.now cc)
    (λ x b q k. search (rules, tests))
