-- `resolve::events::resolve_all` meets its contract: what is left of the definition, from event i on, gives the whole.
-- Assumes nothing.
use Rattle.work.specs.Lent.{SameSizes}
use Rattle.resolve.proofs.Dealing.{Dealing}
use Rattle.resolve.proofs.events.resolve_all.Given as goal

abbrev pub invariant-loop-i : goal.invariant-loop-i
invariant-loop-i l =
    SameSizes l.fn.work l.work
    × Dealing l.rules.relabel l.rules.tol l.fn.work.floats l.fn.work.marks l.fn.work.gates l.fn.work.slots l.initial.t l.work.floats l.work.marks l.i l.t
