-- The engine's step is the formula at binary64 (specs/Steps.antt). Assumes nothing.
use mathlib.Core.Path.{◌≡◌, refl, ap, ◌∙◌}
use mathlib.Core.Bool.{Bool, true, false, cond, ◌&&◌}
use Prim.Native.Nat.{ℕ, zero, suc, ◌+◌, ◌-◌}
use lib.Ieee.{Float, binary64, add, mul, neg}
use Rattle.laws.specs.Zeros.{sg}
use Rattle.laws.specs.Matrix.{Mat}
use Rattle.laws.specs.Maps.{Local, inside, dot, rows, cols}
use Rattle.laws.specs.Steps.{negated}
use Rattle.local.specs.State.{State}
use Rattle.local.specs.Apply.{later, unsettled, calm, step}
use Rattle.rings.specs.Rings.{sg as sg'}
use Rattle.formulas.specs.Engine.{Local as Local', dot as dot', rows as rows', cols as cols', negated as negated', step as step'}
use Rattle.rounded.specs.Floats.{floats, below_zero, as_local, as_state}
use Rattle.rounded.specs.Steps.{RoundedSteps}

-- ---- signs

pub sg-is : (b : Bool) (x : Float) → sg b x ≡ sg' floats b x
sg-is true x = refl
sg-is false x = refl

pub negated-is : (b : ℕ → Bool) (f : Mat) → negated b f ≡ negated' floats b f
negated-is b f = λ i r c. (ap (sg (b r)) (sg-is (b c) (f r c)) ∙ sg-is (b r) (sg' floats (b c) (f r c))) i

-- ---- rows and columns under a map

dot-is : (q v : ℕ → Float) (k : ℕ) → dot q v k ≡ dot' floats q v k
unfolding dot dot'
dot-is q v zero = refl
dot-is q v (suc k) = λ i. add binary64 (dot-is q v k i) (mul binary64 (q k) (v k))

module _ (o : Local) where
  rows-is : (f : Mat) → rows o f ≡ rows' floats (as_local o) f
  rows-is f = λ i r c. cond (inside o r) (dot-is (o.map (r - o.start)) (λ j. f (o.start + j) c) o.width i) (f r c)

  cols-is : (f : Mat) → cols o f ≡ cols' floats (as_local o) f
  cols-is f = λ i r c. cond (inside o c) (dot-is (o.map (c - o.start)) (λ j. f r (o.start + j)) o.width i) (f r c)

  pub under-is : (f : Mat) → cols o (rows o f) ≡ cols' floats (as_local o) (rows' floats (as_local o) f)
  under-is f = ap (cols o) (rows-is f) ∙ cols-is (rows' floats (as_local o) f)

-- ---- the step

map-is : (odd : Local' floats → Bool) (o : Local) (t : State)
    → as_state (step (λ p. odd (as_local p)) o t) ≡ step' floats below_zero odd (as_local o) (as_state t)
map-is odd o t =
    let own = unsettled o t.d in
    λ i. record {
      m = (ap (λ f. cols o (rows o f)) (negated-is own t.m) ∙ under-is o (negated' floats own t.m)) i;
      d = λ j. cond (odd (as_local o) && later o j) (neg (calm o t.d j)) (calm o t.d j);
    }

pub rounded-steps : RoundedSteps
rounded-steps = record { map = map-is; entry = λ t. refl; start = refl }
