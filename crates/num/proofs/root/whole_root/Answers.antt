-- `num::root::whole_root` meets its contract. The loop's invariant is `Turn`: q and rem are the root and the remainder of the digits taken so far. Assumes nothing.
use mathlib.Core.Path.{sym, subst₂}
use Prim.Native.Nat.{ℕ, ◌+◌, ◌*◌, ◌%◌, ◌^◌, ◌<◌}
use native.Mathlib.Omega.{arith}
use Rattle.num.proofs.root.Turns.{Turn, q-fits, zero-digit, one-digit}
use Rattle.num.proofs.root.whole_root.Goals as goal
use Rattle.num.proofs.root.whole_root.Goals.{then-t-d, else-t-d}
use Rattle.num.proofs.root.whole_root.Goals.{In-loop-turn}

short : (c : In-loop-turn) → c.loop-turn.q < 2 ^ 54
short c = q-fits c.args.a c.loop-turn.top c.loop-turn.rem c.loop-turn.q c.loop-turn.turn c.loop-turn.invariant

pub overflow_mul-d : goal.overflow_mul-d
overflow_mul-d c = omega (arith, short c)

pub overflow_add-d : goal.overflow_add-d
overflow_add-d c = omega (arith, short c)

pub overflow_mul-t : goal.overflow_mul-t
overflow_mul-t c = omega (arith, short c)

pub overflow_add-t : goal.overflow_add-t
overflow_add-t c = omega (arith, short c)

pub loop-turn-preserved : goal.loop-turn-preserved
loop-turn-preserved c =
    let l = c.loop-turn in
    let a = c.args.a in
    let P : ℕ → ℕ → Type 0 = λ r q. Turn a (l.top % 2 ^ 52 * 4) r q (l.turn + 1) in
    elim c.if-t-d.branch [
      | then-t-d w ↦ subst₂ P (sym w.rem-is) (sym w.q-is) (one-digit a l.top l.rem l.q l.turn l.invariant (omega arith) w.if-t-d.true)
      | else-t-d w ↦ subst₂ P (sym w.rem-is) (sym w.q-is) (zero-digit a l.top l.rem l.q l.turn l.invariant (omega arith) w.if-t-d.false)
    ]
