-- `pfaffian::shots::word` meets its contract: from the highest bit down, each turn puts a bit below those above it. Assumes nothing.
use mathlib.Core.Path.{◌≡◌, refl}
use mathlib.Core.Bool.{Bool}
use Prim.Native.Nat.{ℕ, ◌<◌, ◌-◌, ◌+◌, ◌^◌}
use native.Mathlib.Nat.{le_trans}
use native.Mathlib.Omega.{arith}
use lib.Pow.{pow_mono}
use Rattle.pfaffian.specs.Shot.{word_of}
use Rattle.pfaffian.proofs.Listing.{word-turn, word_below}
use Rattle.pfaffian.proofs.shots.word.Goals as goal
use Rattle.pfaffian.proofs.shots.word.Goals.{In-loop-i}

-- there is room for one bit more
room : (bit : ℕ → Bool) (low i w : ℕ) → 0 < i → w ≡ word_of bit (low + i) (64 - i) → w < 2 ^ 63
room bit low i w h e = rw e (le_trans (word_below _ _ (64 - i)) (pow_mono {j = 63} (omega arith)))

pub loop-i-init : goal.loop-i-init
unfolding word_of
loop-i-init c = (omega arith, refl)

pub overflow_mul-w : goal.overflow_mul-w
overflow_mul-w c = omega (arith, room _ _ c.loop-i.i _ c.loop-i-test.true c.loop-i.invariant.1)

pub overflow_add-w : goal.overflow_add-w
overflow_add-w c = omega (arith, room _ _ c.loop-i.i _ c.loop-i-test.true c.loop-i.invariant.1, c.qubit_bit.ensures.bound)

pub loop-i-preserved : goal.loop-i-preserved
loop-i-preserved c =
    let l = c.loop-i in (
      omega arith,
      rw (c.qubit_bit.ensures.value, l.invariant.1) (word-turn _ c.args.low 64 l.i c.loop-i-test.true l.invariant.0),
    )
