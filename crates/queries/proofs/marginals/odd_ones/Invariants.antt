-- `queries::marginals::odd_ones` meets its contract: the parity of the modes passed. Assumes nothing.
use Rattle.std.proofs.Common.{◌≡◌, take}
use Rattle.queries.specs.Marginals.{is_one}
use Rattle.queries.specs.Inner.{mark_at, odd_among}
use Rattle.queries.proofs.marginals.odd_ones.Given as goal

abbrev pub invariant-loop-j : goal.invariant-loop-j
invariant-loop-j l = l.odd ≡ odd_among (λ k. is_one (mark_at l.asked k)) (take l.j l.list)
