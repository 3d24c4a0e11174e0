-- `text::lines::push_order_line` meets its contract: the line is not too long. Assumes nothing.
use Prim.Native.Nat.{◌≤◌}
use native.Mathlib.Omega.{arith}
use lib.ListN.{length, length-append}
use Rattle.text.specs.Bounds.{max_order_line}
use Rattle.text.specs.Lines.{order_line}
use Rattle.text.proofs.Lengths.{order-long}
use Rattle.text.proofs.lines.push_order_line.Goals as goal

pub push_ordering-requires : goal.push_ordering-requires
push_ordering-requires c =
    let order = c.args.order.now in
    omega (arith, c.requires.room, order-long c.args.ordering order (length order) c.requires.few (λ k. omega (arith, c.type_inv.order k)))

pub returns-clause-bound : goal.returns-clause-bound
returns-clause-bound c =
    let order = c.args.order.now in
    let short : length (order_line c.args.ordering order (length order)) ≤ max_order_line =
    order-long c.args.ordering order (length order) c.requires.few (λ k. omega (arith, c.type_inv.order k)) in
    rw c.push_ordering.ensures (omega (arith, short, length-append c.args.text.now.bytes (order_line c.args.ordering order (length order))))
