-- `resolve::events::deal` meets its contract: each kind of event by its law.
-- Assumes nothing.
use mathlib.Core.Path.{sym, ◌∙◌}
use borrow.Author.Tests.{eqb-true}
use Rattle.resolve.proofs.Dealing.{one-deals, three-deals, gone-deals}
use Rattle.resolve.proofs.events.deal.Goals as goal

pub block-requires-clause-event : goal.block-requires-clause-event
block-requires-clause-event c = (c.requires.event.0, c.requires.event.1, eqb-true _ _ (sym c.is.ensures.value ∙ c.if-is.true))

pub pass-requires : goal.pass-requires
pass-requires c = (c.requires.event.0, c.requires.event.1, eqb-true _ _ (sym c.is-2.ensures.value ∙ c.if-is-2.true))

pub returns-then-is-2 : goal.returns-then-is-2
returns-then-is-2 c = one-deals _ _ _ _ _ _ c.pass.ensures (sym c.is-2.ensures.value ∙ c.if-is-2.true)

pub returns-then-is-3 : goal.returns-then-is-3
returns-then-is-3 c = three-deals _ _ _ _ _ _ c.close.ensures (sym c.is-else-is-2.ensures.value ∙ c.if-is-3.true)

pub returns-else-is-3 : goal.returns-else-is-3
returns-else-is-3 c =
    gone-deals _ _ _ _ _ _ c.put_kind.ensures.put c.is.ensures.whole c.requires.event.0 c.requires.event.1
    (sym c.is-2.ensures.value ∙ c.if-is-2.false) (sym c.is.ensures.value ∙ c.if-is.false) (sym c.is-else-is-2.ensures.value ∙ c.if-is-3.false)
