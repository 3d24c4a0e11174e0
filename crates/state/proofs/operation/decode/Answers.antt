-- `state::operation::decode` meets its contract, by its tests. Assumes nothing.
use Rattle.std.proofs.Common.{le-ltb, eq-eqb, ne_eqb}
use Rattle.state.specs.Operation.{decode_of, one_of, two_of}
use Rattle.state.proofs.operation.decode.Goals as goal

pub returns-then-kind : goal.returns-then-kind
unfolding decode_of one_of two_of
returns-then-kind c =
    let h = c.requires in
    rw (le-ltb _ _ h.room, ← h.first, ← h.second, c.if-kind.true, ← c.mode_of.ensures, c.in_ok-mode.was, c.map2_at.ensures)

pub returns-in_err-mode : goal.returns-in_err-mode
unfolding decode_of one_of two_of
returns-in_err-mode c =
    let h = c.requires in
    rw (c.from_residual.ensures, le-ltb _ _ h.room, ← h.first, ← h.second, c.if-kind.true, ← c.mode_of.ensures, c.in_err-mode.was)

pub returns-then-n-eq0 : goal.returns-then-n-eq0
unfolding decode_of one_of two_of
returns-then-n-eq0 c =
    let h = c.requires in
    rw (le-ltb _ _ h.room, ← h.first, c.if-kind.false, c.if-kind-2.true, eq-eqb _ _ c.if-n-eq0.true)

pub returns-then-kind-2 : goal.returns-then-kind-2
unfolding decode_of one_of two_of
returns-then-kind-2 c =
    let h = c.requires in
    rw (
      le-ltb _ _ h.room,
      ← h.first,
      ← h.second,
      c.if-kind.false,
      c.if-kind-2.true,
      ne_eqb _ _ c.if-n-eq0.false,
      ← c.mode_of-then-kind-2.ensures,
      c.in_ok-mode-2.was,
      c.map4_at.ensures,
    )

pub returns-in_err-mode-2 : goal.returns-in_err-mode-2
unfolding decode_of one_of two_of
returns-in_err-mode-2 c =
    let h = c.requires in
    rw (
      c.from_residual-in_err-mode-2.ensures,
      le-ltb _ _ h.room,
      ← h.first,
      ← h.second,
      c.if-kind.false,
      c.if-kind-2.true,
      ne_eqb _ _ c.if-n-eq0.false,
      ← c.mode_of-then-kind-2.ensures,
      c.in_err-mode-2.was,
    )

pub returns-then-kind-3 : goal.returns-then-kind-3
unfolding decode_of one_of two_of
returns-then-kind-3 c =
    let h = c.requires in
    rw (le-ltb _ _ h.room, ← h.first, c.if-kind.false, c.if-kind-2.false, c.if-kind-3.true, c.interaction_at.ensures)

pub returns : goal.returns
unfolding decode_of one_of two_of
returns c =
    let h = c.requires in
    rw (le-ltb _ _ h.room, ← h.first, c.if-kind.false, c.if-kind-2.false, c.if-kind-3.false)
