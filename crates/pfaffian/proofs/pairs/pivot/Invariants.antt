-- `pfaffian::pairs::pivot` meets its contract: what is left of the row gives what the whole row gives. Assumes nothing.
use mathlib.Core.Path.{◌≡◌}
use Prim.Native.Nat.{◌≤◌, ◌<◌, ◌-◌, ◌+◌}
use Rattle.real.specs.Squares.{cells}
use Rattle.pfaffian.specs.Pfaffian.{pivot_of}
use Rattle.pfaffian.specs.Pfaffian as pfaffian
use Rattle.pfaffian.proofs.pairs.pivot.Given as goal

abbrev pub invariant-loop-j : goal.invariant-loop-j
invariant-loop-j l =
    ((l.k + 2 ≤ l.j) × (l.j ≤ l.m.dim)) × (l.piv < l.m.dim)
    × (pfaffian.search (cells l.m l.k) (l.m.dim - l.j) l.j l.best l.piv ≡ pivot_of (cells l.m l.k) l.k l.m.dim)
