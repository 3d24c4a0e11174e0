-- `state::check::is_identity` meets its contract: the last entry, then an entry a turn. Assumes nothing.
use Rattle.std.proofs.Common.{◌≡◌, eqb}
use Rattle.laws.specs.Tests.{all_below}
use Rattle.laws.specs.Tables.{mode_at}
use Rattle.state.proofs.check.is_identity.Given as goal

abbrev pub invariant-loop-q : goal.invariant-loop-q
invariant-loop-q l = l.same ≡ all_below (λ q. eqb (mode_at l.table q) q) l.q
