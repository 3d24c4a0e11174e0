-- `local::both::both2` meets its contract: a turn makes two columns and two rows. Assumes nothing.
use Prim.Native.Nat.{◌*◌, ◌≤◌}
use Rattle.laws.proofs.BothSteps.{PairsTo}
use Rattle.real.specs.Maps.{local2}
use Rattle.local.proofs.both.both2.Given as goal

abbrev pub invariant-loop-t : goal.invariant-loop-t
invariant-loop-t l = (l.t ≤ l.n) × PairsTo (local2 (2 * l.mode) l.q) (2 * l.n) l.initial.m l.t l.m
