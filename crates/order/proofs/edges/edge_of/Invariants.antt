-- `order::edges::edge_of` meets its contract: the search goes along the chain. Assumes nothing.
use Rattle.order.specs.Slice.{chain_mark}
use Rattle.order.proofs.Chains.{Walks}
use Rattle.order.proofs.edges.edge_of.Given as goal

abbrev pub invariant-loop-next : goal.invariant-loop-next
invariant-loop-next l = Walks l.marks.entries.now l.m l.pair (chain_mark l.next)

-- the chain goes down
abbrev pub decreases-loop-next : goal.decreases-loop-next
decreases-loop-next l = chain_mark l.next
