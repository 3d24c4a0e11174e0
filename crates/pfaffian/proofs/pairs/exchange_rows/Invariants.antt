-- `pfaffian::pairs::exchange_rows` meets its contract: each turn trades two entries (`rows-exchange-more`). Assumes nothing.
use Prim.Native.Nat.{◌≤◌}
use Rattle.laws.proofs.Exchange.{RowsExchanged}
use Rattle.real.specs.Squares.{Same}
use Rattle.pfaffian.proofs.pairs.exchange_rows.Given as goal

abbrev pub invariant-loop-c : goal.invariant-loop-c
invariant-loop-c l =
    ((l.k ≤ l.c) × (l.c ≤ l.initial.m.dim)) × Same l.initial.m l.m
    × RowsExchanged l.p l.q l.k l.initial.m.dim l.initial.m.entries.now l.c l.m.entries.now
