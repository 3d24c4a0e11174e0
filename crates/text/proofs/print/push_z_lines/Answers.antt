-- `text::print::push_z_lines` meets its contract: the lines of the first q qubits have been written. Assumes nothing.
use mathlib.Core.List.{List}
use Prim.Native.Nat.{ℕ}
use native.Mathlib.Omega.{arith}
use lib.Ieee.{Float}
use Rattle.text.specs.Lines.{z_line}
use Rattle.text.specs.Print.{z_at}
use Rattle.text.proofs.Lengths.{z-lines-long}
use Rattle.text.proofs.Pieces.{piece_room, piece_more, no_pieces}
use Rattle.text.proofs.print.push_z_lines.Goals as goal

-- the line of qubit q
abbrev piece : ℕ → List Float → List ℕ → ℕ → List ℕ
piece n state modes q = z_line q (z_at n state modes q)

pub loop-q-init : goal.loop-q-init
loop-q-init c = no_pieces (piece c.args.r.now.n c.args.state.now c.args.r.now.modes) c.args.text.now.bytes

pub push_z_line-requires : goal.push_z_line-requires
push_z_line-requires c =
    let r = c.args.r.now in
    let l = c.loop-q in
    rw c.z_of.ensures
    (piece_room (piece r.n c.args.state.now r.modes) _ _ l.q l.invariant r.n c.loop-q-test.true
    (omega (arith, c.requires.room, z-lines-long (z_at r.n c.args.state.now r.modes) r.n c.requires.few)))

pub loop-q-preserved : goal.loop-q-preserved
loop-q-preserved c =
    let r = c.args.r.now in
    piece_more (piece r.n c.args.state.now r.modes) _ _ c.loop-q.q c.loop-q.invariant _ (rw c.z_of.ensures at c.push_z_line.ensures)
