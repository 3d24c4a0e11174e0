-- `text::print::push_done` meets its contract: the three parts have room, and together they are the text. Assumes nothing.
use mathlib.Core.Path.{refl}
use mathlib.Core.List.{◌++◌}
use Prim.Native.Nat.{◌≤◌}
use lib.ListN.{length}
use borrow.Author.Rules.{rules}
use Rattle.text.specs.Lines.{report_line, order_line, z_lines}
use Rattle.text.specs.Print.{z_at, done_text}
use Rattle.text.proofs.Lengths.{order-front}
use Rattle.text.proofs.Pieces.{next}
use Rattle.text.proofs.print.push_done.Goals as goal

pub returns : goal.returns
unfolding done_text
returns c =
    let r = c.args.r.now in
    let room : r.n ≤ length r.order = search rules in
    let line = report_line r.n r.blocks r.gaussian r.bad r.interactions in
    let order = order_line r.ordering r.order r.n in
    let first = rw c.requires.empty at c.push_report_line.ensures.line in
    let second = next c.push_report_line.new.text.bytes c.push_order_line.new.text.bytes line _ order
    first c.push_order_line.ensures.line (order-front r.ordering r.order _ r.n refl room) in
    next c.push_order_line.new.text.bytes c.push_z_lines.new.text.bytes (line ++ order) _ (z_lines (z_at r.n c.args.state.now r.modes) r.n)
    second c.push_z_lines.ensures refl
