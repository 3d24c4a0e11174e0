-- `text::lines::push_wires` meets its contract: the wires before this one have been written. Assumes nothing.
use mathlib.Core.List.{List}
use Prim.Native.Nat.{ℕ}
use lib.ListN.{length, get_or}
use Rattle.text.specs.Ascii.{ascii}
use Rattle.text.specs.Lines.{field}
use Rattle.text.proofs.Pieces.{piece_room, piece_more, no_pieces}
use Rattle.text.proofs.lines.push_wires.Goals as goal

-- what is written of mode k
abbrev piece : List ℕ → ℕ → List ℕ
piece order k = field " " (get_or order k 0)

pub loop-wire-init : goal.loop-wire-init
loop-wire-init c = no_pieces (piece c.args.order.now) c.args.text.now.bytes

pub push_field-requires : goal.push_field-requires
unfolding ascii
push_field-requires c =
    let order = c.args.order.now in
    let l = c.loop-wire in
    rw c.from.ensures (piece_room (piece order) c.args.text.now.bytes l.text.bytes l.wire-index l.invariant (length order) c.loop-wire-test.true c.requires)

pub loop-wire-preserved : goal.loop-wire-preserved
unfolding ascii
loop-wire-preserved c =
    let l = c.loop-wire in
    piece_more (piece c.args.order.now) c.args.text.now.bytes l.text.bytes l.wire-index l.invariant c.push_field.new.text.bytes
    (rw c.from.ensures at c.push_field.ensures.text)
