-- `state::check::each_once` meets its contract: the marks are those of all modes. Assumes nothing.
use Rattle.std.proofs.Common.{◌≤◌, ltb, length, false, sym, ◌∙◌, arith, ltb-true}
use Rattle.std.proofs.lemmas.List.{length-take-le, get_or-take}
use Rattle.laws.specs.Tables.{mode_at}
use Rattle.laws.proofs.Tests.{all-each, all_same}
use Rattle.state.proofs.Marks.{marks-all, not-below}
use Rattle.state.proofs.check.each_once.Goals as goal

pub mark-requires : goal.mark-requires
mark-requires c =
    record { no_marks = c.requires.no_marks; below = sym c.all_below.ensures ∙ c.if-all_below.true }

pub returns-then-all_below : goal.returns-then-all_below
returns-then-all_below c =
    let table = c.args.table.now in
    let n = length table in
    let seen = c.mark.new.seen in
    let room : n ≤ length seen = omega (arith, c.mark.auto.seen, c.requires.no_marks.long) in
    let low = sym c.all_below.ensures ∙ c.if-all_below.true in
    c.all_set.ensures
    ∙ rw (length-take-le n seen room) (all_same _ _ n (λ k h. get_or-take n seen k false h))
    ∙ marks-all n table seen (omega arith) room c.mark.ensures (λ q h. ltb-true (mode_at table q) n (all-each (λ q. ltb (mode_at table q) n) n q low h))

pub returns : goal.returns
returns c = not-below (length c.args.table.now) c.args.table.now (sym c.all_below.ensures ∙ c.if-all_below.false)
