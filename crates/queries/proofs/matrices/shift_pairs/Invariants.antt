-- `queries::matrices::shift_pairs` meets its contract: a pair a turn (`shift-more`). Assumes nothing.
use Rattle.std.proofs.Common.{get_or}
use Rattle.queries.specs.Marginals.{half_spin_of, shifted}
use Rattle.queries.specs.Inner.{mark_at}
use Rattle.queries.proofs.Filling.{PairsUpTo}
use Rattle.real.specs.Squares.{cells, Same}
use Rattle.queries.proofs.matrices.shift_pairs.Given as goal

abbrev pub invariant-loop-j : goal.invariant-loop-j
invariant-loop-j l =
    Same l.initial.m l.m
    × PairsUpTo (shifted (λ j. half_spin_of (mark_at l.asked (get_or l.list j 0))) (cells l.initial.m)) l.initial.m.dim l.initial.m.entries.now l.j l.m.entries.now
