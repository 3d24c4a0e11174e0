-- `pfaffian::shots::measure_modes` meets its contract: the matrix stands for the one that mode k finds (`stands-turn`). Assumes nothing.
use mathlib.Core.Path.{◌≡◌}
use Prim.Native.Nat.{◌≤◌}
use lib.ListN.{length}
use Rattle.real.specs.Squares.{cells}
use Rattle.pfaffian.specs.Work.{Works}
use Rattle.pfaffian.specs.Shot.{shot, reached, draw_from}
use Rattle.pfaffian.specs.Turns.{Stands, Listed}
use Rattle.pfaffian.proofs.shots.measure_modes.Given as goal

abbrev pub invariant-loop-k : goal.invariant-loop-k
invariant-loop-k l =
    ((l.k ≤ l.n) × (l.next ≡ l.k) × (length l.bits ≡ length l.initial.bits)) × Works l.initial.m l.m
    × Stands l.initial.m.dim l.k l.fresh (reached (cells l.initial.m) (draw_from l.draws 0) l.k) l.m.entries.now
    × Listed l.k (shot (cells l.initial.m) 0 l.n (draw_from l.draws 0)) l.initial.bits l.bits
