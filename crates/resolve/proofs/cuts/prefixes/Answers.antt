-- `resolve::cuts::prefixes` meets its contract: the loop has gathered the tail up to `from`, and what lies between two gates of the slot is passed over.
-- Assumes nothing.
use mathlib.Core.Path.{◌≡◌, refl, sym, ap, ◌∙◌}
use Rattle.gate.specs.Matrix.{id2}
use mathlib.Core.Bool.{true}
use Prim.Native.Nat.{◌+◌}
use native.Mathlib.Omega.{arith}
use Rattle.gate.specs.Lent.{store2_of}
use Rattle.gate.proofs.Stored.{mat2-back}
use Rattle.work.specs.Rows.{FloatsAt, float_place}
use Rattle.work.specs.Lent.{Lent}
use Rattle.fuse.specs.Layout.{one_at, block_at}
use Rattle.resolve.proofs.Tails.{gather_none, gather-end, gather-block, gather-over, gather-one, prefixes-after}
use Rattle.resolve.proofs.cuts.prefixes.Goals as goal

pub loop-j-init : goal.loop-j-init
loop-j-init c =
    let a = c.args in
    let w = a.work.now in
    let p = float_place 0 a.row in
    rw c.put_matrix_at.ensures.put (
      record { marks = refl; gates = refl; slots = refl },
      gather_none (store2_of w.floats p id2) w.marks a.k w.gates a.s a.row id2 c.requires.1 refl
          (mat2-back w.floats p id2 (omega (arith, c.put_matrix_at.ensures.whole.floats, c.requires))),
    )

pub loop-j-preserved : goal.loop-j-preserved
loop-j-preserved c =
    let a = c.args in
    let w = a.work.now in
    let l = c.loop-j in
    let xs = c.put_matrix_at.new.self.floats in
    let rest = l.invariant.0 in
    let gathered = l.invariant.1 in
    let next = rw (rest.marks, rest.gates) at c.in-Some.ensures in
    let room : FloatsAt xs (l.len + 1) = omega (arith, c.matrix.ensures.whole.floats, next.1, gathered.few, gathered.end, gathered.only.size, rest.gates) in
    let off = sym c.block_on.ensures.value ∙ c.if-block_on.false in
    let one : one_at w.marks a.s c.in-Some.j ≡ true = rw (rw rest.marks at off) at next.2 in
    rw c.put_matrix_at-in-Some.ensures.put (
      record { marks = rest.marks; gates = rest.gates; slots = rest.slots },
      gather-one xs l.work.floats w.marks a.k w.gates a.s a.row l.len c.in-Some.j l.acc c.requires.2 c.requires.3
          (gather-over xs l.work.floats w.marks a.k w.gates a.s a.row l.len l.from l.acc c.requires.2 c.requires.3 gathered c.in-Some.j next.0)
          c.matrix.result c.time_step-acc.result next.1 room one c.matrix.ensures.value c.time_step-acc.ensures,
    )

pub returns-then-block_on : goal.returns-then-block_on
returns-then-block_on c =
    let a = c.args in
    let w = a.work.now in
    let l = c.loop-j in
    let xs = c.put_matrix_at.new.self.floats in
    let rest = l.invariant.0 in
    let next = rw (rest.marks, rest.gates) at c.in-Some.ensures in
    let on : block_at w.marks a.s c.in-Some.j ≡ true = rw rest.marks at (sym c.block_on.ensures.value ∙ c.if-block_on.true) in
    record {
      rest = rest;
      prefixes = prefixes-after w.floats xs l.work.floats w.marks a.k w.gates a.s a.row l.len id2 c.requires.2 c.requires.3
          (ap (λ (v : Lent). v.floats) c.put_matrix_at.ensures.put)
          (gather-block xs l.work.floats w.marks a.k w.gates a.s a.row l.len c.in-Some.j l.acc c.requires.2 c.requires.3
          (gather-over xs l.work.floats w.marks a.k w.gates a.s a.row l.len l.from l.acc c.requires.2 c.requires.3 l.invariant.1 c.in-Some.j next.0)
          next.1 on);
    }

pub returns : goal.returns
returns c =
    let a = c.args in
    let w = a.work.now in
    let l = c.loop-j in
    let xs = c.put_matrix_at.new.self.floats in
    let rest = l.invariant.0 in
    let none = rw (rest.marks, rest.gates) at c.in_default.ensures in
    record {
      rest = rest;
      prefixes = prefixes-after w.floats xs l.work.floats w.marks a.k w.gates a.s a.row l.len id2 c.requires.2 c.requires.3
          (ap (λ (v : Lent). v.floats) c.put_matrix_at.ensures.put)
          (gather-end xs l.work.floats w.marks a.k w.gates a.s a.row l.len w.gates l.acc c.requires.2 c.requires.3
          (gather-over xs l.work.floats w.marks a.k w.gates a.s a.row l.len l.from l.acc c.requires.2 c.requires.3 l.invariant.1 w.gates none)
          (omega arith));
    }
