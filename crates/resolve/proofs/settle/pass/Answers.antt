-- `resolve::settle::pass` meets its contract: a law for each way out.
-- Assumes nothing.
use mathlib.Core.Path.{refl, sym, ap₂, ◌∙◌}
use Rattle.gate.specs.Matrix.{mul2_of}
use Rattle.resolve.proofs.Moves.{pass-longer, pass-taken}
use Rattle.resolve.proofs.settle.pass.Goals as goal

pub returns-then-promised-eq0 : goal.returns-then-promised-eq0
returns-then-promised-eq0 c =
    let w = c.args.work.now in
    let i = c.args.i in
    let slot = c.mark-s.ensures.value in
    let gates = c.gates.ensures.count in
    let split = rw (slot, gates) at c.mark-promised.ensures.value in
    let opened = rw slot at c.opening-x.ensures in
    rw (c.put_kind.ensures.put, c.put_matrix.ensures.put, gates, slot)
    (record {
      sizes = record { gates = refl; slots = refl };
      passed = λ t. pass-longer w.floats w.marks w.gates w.slots i c.mark-s.ensures.whole c.requires.0 c.requires.1 c.requires.2 c.mul.result t
          (sym split ∙ c.if-promised-eq0.true) (c.mul.ensures ∙ ap₂ mul2_of c.matrix.ensures.value opened);
    })

pub returns-else-promised-eq0 : goal.returns-else-promised-eq0
returns-else-promised-eq0 c =
    let w = c.args.work.now in
    let i = c.args.i in
    let slot = c.mark-s.ensures.value in
    let gates = c.gates.ensures.count in
    let split = rw (slot, gates) at c.mark-promised.ensures.value in
    rw (c.put_mark.ensures.put, split, gates, slot)
    (record {
      sizes = record { gates = refl; slots = refl };
      passed = λ t. pass-taken w.floats w.marks w.gates w.slots i c.mark-s.ensures.whole c.requires.0 c.requires.1 c.requires.2 t
          (λ z. c.if-promised-eq0.false (split ∙ z));
    })
