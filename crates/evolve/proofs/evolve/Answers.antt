-- `evolve::evolve` meets its contract: a chunk is the next operation of the slice, since the chunks to come and what lies past the program are the
-- slice from there. Assumes nothing.
use mathlib.Core.Path.{◌≡◌, sym, ap, ◌∙◌}
use mathlib.Core.List.{List, [], ◌∷◌, ◌++◌, append_assoc}
use Prim.Native.Nat.{ℕ, ◌+◌, ◌*◌}
use native.Mathlib.Omega.{arith}
use lib.ListN.{length, take, drop, length-append, length-take, take-append-drop}
use lib.Seq.{take_at, drop_at, drop-drop}
use lib.Ieee.{Float}
use Rattle.laws.specs.Bounds.{op_places}
use Rattle.laws.specs.Lists.{in_order}
use Rattle.local.specs.State.{stored, vacuum}
use Rattle.state.specs.Bounds.{dim_of}
use Rattle.state.specs.Operation.{decode_of}
use Rattle.state.specs.Calls.{decoded_state}
use Rattle.evolve.specs.Evolve.{held_in, evolved_in}
use Rattle.evolve.proofs.Evolving.{evolve-more}
use Rattle.evolve.proofs.evolve.Goals as goal

-- the chunk that comes is the next operation, and the others begin after it
chunk : (k : ℕ) (op rest past ops : List Float) → length op ≡ op_places → (op ++ rest) ++ past ≡ drop (op_places * k) ops
    → (take op_places (drop (op_places * k) ops) ≡ op) × (rest ++ past ≡ drop (op_places * (k + 1)) ops)
chunk k op rest past ops long e =
    let whole : op ++ (rest ++ past) ≡ drop (op_places * k) ops = sym (append_assoc op rest past) ∙ e in
    let sum : op_places * k + op_places ≡ op_places * (k + 1) = omega arith in (
      ap (take op_places) (sym whole) ∙ take_at op (rest ++ past) op_places long,
      sym (drop_at op (rest ++ past) op_places long) ∙ ap (drop op_places) whole ∙ drop-drop op_places (op_places * k) ops ∙ ap (λ j. drop j ops) sum,
    )

pub loop-op-init : goal.loop-op-init
unfolding in_order held_in
loop-op-init c =
    let made = c.into_iter-op-iterator.ensures.into_iter_gives in
    let chunks = c.chunks_exact-op-items.ensures in
    let first = c.into_iter-op-iterator.result.rest.now in (
      ap (λ s. s.size) made ∙ chunks.size,
      (let rest : first ≡ take (op_places * c.args.count) c.args.ops.now = ap (λ s. s.rest.now) made ∙ chunks.rest in
          omega (arith, ap length rest, length-take (op_places * c.args.count) c.args.ops.now, c.requires.count_in_bounds)),
      (let rest : first ≡ take (op_places * c.args.count) c.args.ops.now = ap (λ s. s.rest.now) made ∙ chunks.rest in
          ap (λ m. m ++ drop (op_places * c.args.count) c.args.ops.now) rest ∙ take-append-drop (op_places * c.args.count) c.args.ops.now),
      (let empty : c.vacuum.new.state ≡ stored (dim_of c.args.n) vacuum c.args.state.now = c.vacuum.ensures in empty),
    )

pub loop-op-preserved : goal.loop-op-preserved
loop-op-preserved c =
    let l = c.loop-op in
    let a = c.args in
    let k = length l.yielded in
    let step = c.in-Some.ensures.steps in
    let op = c.in-Some.op.now in
    let rest = c.next.new.self.rest.now in
    let past = drop (op_places * a.count) a.ops.now in
    let more : length (l.yielded ++ (c.in-Some.op ∷ [])) ≡ k + 1 = length-append l.yielded (c.in-Some.op ∷ []) in
    let long : length op ≡ op_places = step.1.1 ∙ l.invariant.0 in
    let at = chunk k op rest past a.ops.now long (ap (λ m. m ++ past) (sym step.1.0) ∙ l.invariant.2) in (
      step.0 ∙ l.invariant.0,
      omega (arith, more, long, l.invariant.1, ap length step.1.0, length-append op rest),
      at.1 ∙ ap (λ j. drop (op_places * j) a.ops.now) (sym more),
      c.apply_places-answer.ensures.state ∙ ap (λ m. decoded_state a.n l.state (decode_of a.n m)) (sym at.0)
          ∙ evolve-more a.n k a.ops.now a.state.now l.state c.requires.has_state.room l.invariant.3
          ∙ ap (λ j. stored (dim_of a.n) (evolved_in a.n j a.ops.now vacuum) a.state.now) (sym more),
    )

pub returns : goal.returns
returns c =
    let l = c.loop-op in
    let a = c.args in
    let last : length l.yielded ≡ a.count = omega (arith, l.invariant.0, l.invariant.1, c.in-None.ensures.steps.1.0) in
    l.invariant.3 ∙ ap (λ j. stored (dim_of a.n) (evolved_in a.n j a.ops.now vacuum) a.state.now) last
