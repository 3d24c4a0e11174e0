-- `pfaffian::pairs::pfaffian` meets its contract: what is left from pair k on gives what the whole gives (`pair_turn`). Assumes nothing.
use mathlib.Core.Path.{◌≡◌}
use Prim.Native.Nat.{◌*◌, ◌≤◌, ◌-◌, ◌/◌, ◌%◌}
use Rattle.laws.specs.Zeros.{+1}
use Rattle.laws.specs.Matrix.{at}
use Rattle.pfaffian.specs.Work.{Works}
use Rattle.pfaffian.specs.Pfaffian.{ended}
use Rattle.pfaffian.proofs.pairs.pfaffian.Given as goal

abbrev pub invariant-loop-pair : goal.invariant-loop-pair
invariant-loop-pair l =
    ((2 * l.pair ≤ l.initial.m.dim) × ((l.initial.m.dim - 2 * l.pair) % 2 ≡ 0)) × Works l.initial.m l.m
    × (ended (at l.initial.m.dim l.m.entries.now) ((l.initial.m.dim - 2 * l.pair) / 2) (2 * l.pair) l.initial.m.dim l.pf
    ≡ ended (at l.initial.m.dim l.initial.m.entries.now) (l.initial.m.dim / 2) 0 l.initial.m.dim +1)
