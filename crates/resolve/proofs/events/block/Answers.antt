-- `resolve::events::block` meets its contract: the search is the definition's, since the rows hold what the cuts take.
-- Assumes nothing.
use mathlib.Core.Path.{◌≡◌, sym, ap, ap₂, ◌∙◌}
use native.Mathlib.Omega.{arith}
use Prim.Native.Nat.{◌*◌}
use Rattle.std.specs.Prelude.{Option}
use Rattle.gate.specs.Matrix.{kron_of, mul4_of}
use Rattle.resolve.specs.declared.choose.Choice.{Choice as Candidate}
use Rattle.resolve.specs.Choose.{Search}
use Rattle.resolve.specs.Searched.{choice_of, search_of}
use Rattle.resolve.proofs.Dealing.{block-chosen, block-dealt}
use Rattle.resolve.proofs.events.block.Goals as goal

pub returns : goal.returns
returns c =
    let w = c.args.work.now in
    let i = c.args.i in
    let t = c.args.t in
    let rules = c.args.rules in
    let first = c.prefixes-la.ensures in
    let second = c.prefixes-lb.ensures in
    let ends = c.settle.ensures in
    let gates = second.rest.gates ∙ first.rest.gates in
    let slots = second.rest.slots ∙ first.rest.slots in
    let p = rw c.mark-a.ensures.value at first.prefixes in
    let q = rw (c.mark-b.ensures.value, first.rest.marks, first.rest.gates) at second.prefixes in
    let sa = c.requires.event.1.a i (omega arith) c.requires.event.0 in
    let sb = c.requires.event.1.b i (omega arith) c.requires.event.0 in
    let xs1 = c.prefixes-la.new.work.floats in
    let xs2 = c.prefixes-lb.new.work.floats in
    let ys = c.settle.new.work.floats in
    let vs = c.settle.new.work.marks in
    let la = c.prefixes-la.result in
    let lb = c.prefixes-lb.result in
    let base = c.mul-base.result in
    let angled = c.choose-s.result.angled in
    let s : Search = record { best = choice_of c.unwrap-best.result; angled = angled } in
    let found : s ≡ search_of base c.choose-s.result =
    ap (λ (o : Option Candidate). search_of base (record { best = o; angled = angled })) (sym c.unwrap-best.ensures) in
    let x = rw c.mark-a.ensures.value at c.opening-x.ensures in
    let y = rw c.mark-b.ensures.value at c.opening-y.ensures in
    let base-is = c.mul-base.ensures
    ∙ ap₂ mul4_of c.matrix.ensures.value (c.kron.ensures ∙ ap₂ kron_of x y) in
    let choice = block-chosen rules.relabel rules.tol w.floats xs1 xs2 w.marks w.gates w.slots i la lb t p q sa sb c.requires.event.2 base s base-is
    (found ∙ c.choose-s.ensures.searched) in
    let tried = c.cut_count.result * c.cut_count-2.result in
    let settled = rw (second.rest.marks ∙ first.rest.marks, gates, slots) at ends.settled tried angled t in
    rw c.counted.ensures
    (record {
      sizes = record { gates = ends.sizes.gates ∙ gates; slots = ends.sizes.slots ∙ slots };
      dealt = block-dealt rules.relabel rules.tol w.floats xs1 xs2 w.marks w.gates w.slots i la lb t p q sa sb c.requires.event.2 ys vs s tried
          (ap₂ ◌*◌ c.cut_count.ensures.0 c.cut_count-2.ensures.0) choice settled;
    })
