-- `num::root::whole_root` meets its contract. The loop's invariant is `Turn`: q and rem are the root and the remainder of the digits taken so far. Assumes nothing.
use Rattle.num.proofs.root.Turns.{Turn}
use Rattle.num.proofs.root.whole_root.Given as goal

abbrev pub invariant-loop-turn : goal.invariant-loop-turn
invariant-loop-turn l = Turn l.a l.top l.rem l.q l.turn
