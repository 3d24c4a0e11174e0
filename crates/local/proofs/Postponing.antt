-- Signs that are 1.0 or -1.0, of which `turned` says the second: which of them a map settles, which it leaves, and what a step makes of them: the later
-- ones turn where the step is odd. Assumes nothing.
use mathlib.Core.Path.{◌≡◌, refl, ap, ◌∙◌}
use mathlib.Core.Bool.{Bool, true, false, not, xor, ◌&&◌, cond, and-false}
use Prim.Native.Nat.{ℕ, ◌+◌, ◌<◌}
use native.Mathlib.Omega.{arith}
use lib.Ieee.{neg, lt}
use Rattle.laws.specs.Zeros.{+0, +1, sg}
use Rattle.laws.specs.Maps.{Local, inside}
use Rattle.laws.proofs.Zeros.{lt-sign}
use Rattle.laws.proofs.Maps.{inside-yes}
use Rattle.local.specs.State.{State}
use Rattle.local.specs.Apply.{later, step}

-- a sign that is left: that of another index than the map's
abbrev pub left : Local → (ℕ → Bool) → ℕ → Bool
left o turned i = turned i && not (inside o i)

-- no sign of the map's own is
pub left-own : (o : Local) (turned : ℕ → Bool) (i : ℕ) → inside o i ≡ true → left o turned i ≡ false
left-own o turned i h = ap (λ b. turned i && not b) h ∙ and-false (turned i)

pub left-at : (o : Local) (turned : ℕ → Bool) (j : ℕ) → j < o.width → left o turned (o.start + j) ≡ false
left-at o turned j l = left-own o turned (o.start + j) (inside-yes o (o.start + j) (omega arith) (omega arith))

module _ (t : State) (turned : ℕ → Bool) (i : ℕ) (h : t.d i ≡ sg (turned i) +1) where
  -- what the test of a sign finds
  pub below_is : lt (t.d i) +0 ≡ turned i
  below_is = ap (λ y. lt y +0) h ∙ lt-sign (turned i)

  pub step-signs : (is_odd : Local → Bool) (o : Local) → (step is_odd o t).d i ≡ sg (xor (left o turned i) (is_odd o && later o i)) +1
  unfolding neg xor
  step-signs is_odd o =
      let late = is_odd o && later o i in
      ap (λ y. cond late (neg (cond (inside o i && lt y +0) +1 y)) (cond (inside o i && lt y +0) +1 y)) h
      ∙ ap (λ b. cond late (neg (cond (inside o i && b) +1 (sg (turned i) +1))) (cond (inside o i && b) +1 (sg (turned i) +1))) (lt-sign (turned i))
      ∙ go (turned i) (inside o i) late
    where
      go : (a b c : Bool) → cond c (neg (cond (b && a) +1 (sg a +1))) (cond (b && a) +1 (sg a +1)) ≡ sg (xor (a && not b) c) +1
      go false false false = refl
      go false false true = refl
      go false true false = refl
      go false true true = refl
      go true false false = refl
      go true false true = refl
      go true true false = refl
      go true true true = refl
