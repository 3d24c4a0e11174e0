-- The engine's shot is the formula at binary64 (specs/Shots.antt). Assumes nothing.
use mathlib.Core.Path.{◌≡◌, refl, ap, ◌∙◌}
use mathlib.Core.Bool.{Bool, cond}
use mathlib.Core.List.{◌∷◌}
use Prim.Native.Nat.{ℕ, zero, suc}
use lib.Ieee.{Float, binary64, add, sub, mul, div, le}
use Rattle.laws.specs.Zeros.{+1}
use Rattle.laws.specs.Matrix.{Mat}
use Rattle.pfaffian.specs.Shot.{half, tiny, mab_of, drawn, updated, after_mode, shot}
use Rattle.answers.specs.Shots.{updated as updated', after_mode as after', shot as shot'}
use Rattle.rounded.specs.Floats.{floats, float_tests, float_draws}
use Rattle.rounded.specs.Shots.{RoundedShots}
use Rattle.rounded.proofs.Steps.{sg-is}

updated-is : (m : Mat) (f : Float) (k : ℕ) → updated m f k ≡ updated' floats half float_tests float_draws m f k
unfolding sub
updated-is m f k = refl

after-is : (m : Mat) (k : ℕ) (one : Bool) → after_mode m k one ≡ after' floats half float_tests float_draws m k one
after-is m k one =
    λ i. let den = add binary64 +1 (mul binary64 (sg-is one +1 i) (mab_of m k)) in
    cond (le den tiny) m (updated-is m (div binary64 (sg-is one +1 i) den) k i)

pub rounded-shots : RoundedShots
unfolding shot shot'
rounded-shots m k zero t = refl
rounded-shots m k (suc n) t =
    let one = drawn m k (t k) in
    ap (λ w. one ∷ w)
    (rounded-shots (after_mode m k one) (suc k) n t ∙ ap (λ x. shot' floats half float_tests float_draws x (suc k) n t) (after-is m k one))
