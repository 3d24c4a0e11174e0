-- `order::edges::edge_of` meets its contract: by the laws of a walk along a chain. Assumes nothing.
use mathlib.Core.Path.{sym, ◌∙◌}
use Rattle.order.proofs.Chains.{walk_start, walk-hits, walk_more, walk-falls, walk_ends}
use Rattle.order.proofs.edges.edge_of.Goals as goal

pub loop-next-init : goal.loop-next-init
loop-next-init c =
    let pre = c.requires in
    walk_start _ _ _ _ pre.2 _ pre.1 (c.named-next.ensures ∙ c.mark.ensures)

pub returns-then-mark-pair : goal.returns-then-mark-pair
returns-then-mark-pair c =
    let w = rw c.in-Some.is at c.loop-next.invariant in
    walk-hits _ _ _ _ c.requires.2 _ w (sym c.mark-in-Some.ensures ∙ c.if-mark-pair.true)

pub loop-next-smaller : goal.loop-next-smaller
loop-next-smaller c =
    let w = rw c.in-Some.is at c.loop-next.invariant in
    rw c.in-Some.is (walk-falls _ _ _ _ c.requires.2 _ w _ (c.named-next-in-Some.ensures ∙ c.mark-in-Some-2.ensures))

pub loop-next-preserved : goal.loop-next-preserved
loop-next-preserved c =
    let w = rw c.in-Some.is at c.loop-next.invariant in
    walk_more _ _ _ _ c.requires.2 _ w _ (λ e. c.if-mark-pair.false (c.mark-in-Some.ensures ∙ e))
    (c.named-next-in-Some.ensures ∙ c.mark-in-Some-2.ensures)

pub returns : goal.returns
returns c =
    let w = rw c.in_default.is at c.loop-next.invariant in
    walk_ends _ _ _ _ c.requires.2 w
