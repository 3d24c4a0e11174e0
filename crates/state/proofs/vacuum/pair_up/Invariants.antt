-- `state::vacuum::pair_up` meets its contract: a turn writes the pair of a mode. Assumes nothing.
use Rattle.real.specs.Squares.{Same}
use Rattle.state.proofs.Pairs.{Paired}
use Rattle.state.proofs.vacuum.pair_up.Given as goal

abbrev pub invariant-loop-k : goal.invariant-loop-k
invariant-loop-k l = Same l.initial.m l.m × Paired l.initial.m.dim l.initial.m.entries.now l.k l.m.entries.now
