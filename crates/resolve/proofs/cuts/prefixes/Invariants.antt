-- `resolve::cuts::prefixes` meets its contract: the loop has gathered the tail up to `from`, and only floats have changed.
-- Assumes nothing.
use Prim.Native.Nat.{◌-◌}
use Rattle.work.specs.Lent.{FloatsOnly}
use Rattle.resolve.proofs.Tails.{Gathering}
use Rattle.resolve.proofs.cuts.prefixes.Given as goal

abbrev pub invariant-loop-j : goal.invariant-loop-j
invariant-loop-j l =
    FloatsOnly l.fn.work l.work
    × Gathering l.initial.work.floats l.work.floats l.fn.work.marks l.k l.fn.work.gates l.s l.row l.len l.from l.acc

abbrev pub decreases-loop-j : goal.decreases-loop-j
decreases-loop-j l = l.work.gates - l.from
