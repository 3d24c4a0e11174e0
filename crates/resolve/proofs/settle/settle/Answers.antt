-- `resolve::settle::settle` meets its contract: its slots are emptied, then it becomes an item; the two ways are with and without renaming.
-- Assumes nothing.
use Rattle.resolve.specs.Searched.{choice_of}
use Rattle.resolve.proofs.Moves.{settles_plain, settles-swapped}
use Rattle.resolve.proofs.settle.settle.Goals as goal

pub returns-then-class : goal.returns-then-class
returns-then-class c =
    settles-swapped c.args.work.now c.exchange.new.self c.args.i (choice_of c.args.best) c.mark-a.ensures.whole c.requires.0 c.requires.1 c.if-class.true
    (rw (
      c.exchange.ensures.exchanged,
      c.put_block.ensures,
      c.put_item.ensures,
      c.empty-2.ensures,
      c.empty.ensures,
      c.item_kind.ensures,
      c.mark-wa.ensures.value,
      c.mark-wb.ensures.value,
      c.mark-a.ensures.value,
      c.mark-b.ensures.value,
    ))

pub returns-else-class : goal.returns-else-class
returns-else-class c =
    settles_plain c.args.work.now c.put_block.new.work c.args.i (choice_of c.args.best) c.mark-a.ensures.whole c.requires.0 c.requires.1 c.if-class.false
    (rw (
      c.put_block.ensures,
      c.put_item.ensures,
      c.empty-2.ensures,
      c.empty.ensures,
      c.item_kind.ensures,
      c.mark-wa.ensures.value,
      c.mark-wb.ensures.value,
      c.mark-a.ensures.value,
      c.mark-b.ensures.value,
    ))
