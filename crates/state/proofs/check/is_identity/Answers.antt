-- `state::check::is_identity` meets its contract: the last entry, then an entry a turn. Assumes nothing.
use Rattle.std.proofs.Common.{length, ℕ, ◌-◌, ◌<◌, Bool, ◌&&◌, eqb, List, refl, ◌∙◌, add-one, arith, ne_eqb}
use Rattle.laws.specs.Tests.{all_below}
use Rattle.laws.specs.Tables.{mode_at}
use Rattle.laws.proofs.Tests.{all-fails}
use Rattle.state.proofs.check.is_identity.Goals as goal

abbrev own : List ℕ → ℕ → Bool
own l q = eqb (mode_at l q) q

pub returns-then-mode_at-n : goal.returns-then-mode_at-n
returns-then-mode_at-n c =
    let table = c.args.table.now in
    let n = length table in
    let some : n - 1 < n = omega (arith, c.if-n-gt0.true) in
    all-fails (own table) n (n - 1) some (ne_eqb _ _ (λ q. c.if-mode_at-n.true (c.mode_at.ensures ∙ q)))

pub loop-q-init : goal.loop-q-init
unfolding all_below
loop-q-init c = refl

pub loop-q-preserved : goal.loop-q-preserved
unfolding all_below
loop-q-preserved c =
    let l = c.loop-q in
    rw add-one (λ i. l.invariant i && own c.args.table.now l.q)
