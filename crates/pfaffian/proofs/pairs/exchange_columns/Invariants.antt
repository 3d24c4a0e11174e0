-- `pfaffian::pairs::exchange_columns` meets its contract: each turn trades two entries (`cols-exchange-more`). Assumes nothing.
use Prim.Native.Nat.{◌≤◌}
use Rattle.laws.proofs.Exchange.{ColsExchanged}
use Rattle.real.specs.Squares.{Same}
use Rattle.pfaffian.proofs.pairs.exchange_columns.Given as goal

abbrev pub invariant-loop-r : goal.invariant-loop-r
invariant-loop-r l =
    ((l.k ≤ l.r) × (l.r ≤ l.initial.m.dim)) × Same l.initial.m l.m
    × ColsExchanged l.p l.q l.k l.initial.m.dim l.initial.m.entries.now l.r l.m.entries.now
