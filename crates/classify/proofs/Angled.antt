-- The flag of a class is `angled_of`: yes exactly if an off-diagonal test that 000 makes on the block passed. The flag goes through every choice of the
-- classification, and what is left is a law of five tests. Assumes nothing.
use mathlib.Core.Path.{◌≡◌, refl}
use mathlib.Core.Bool.{Bool, true, false, cond, not, ◌&&◌, ◌||◌}
use lib.Ieee.{Float, le}
use Rattle.num.specs.Order.{min_of}
use Rattle.gate.specs.declared.matrix.Mat4.{Mat4}
use Rattle.majorana.specs.Majorana.{swap4_of}
use Rattle.classify.specs.declared.classify.Class2.{Class2}
use Rattle.classify.specs.Diagonal.{interaction_of, phase_none_of}
use Rattle.classify.specs.Classify.{diagonal_of, without_phase_of, residual2_of, plain_of, fallback_of, swapped_of, classify2_of, third_of, angled_of}

-- the flag of a choice
either : (b : Bool) (x y : Class2) → (cond b x y).angled ≡ cond b x.angled y.angled
either true x y = refl
either false x y = refl

-- ---- the steps from the last on; d and e are the off-diagonal tests of u and of v

plain-flag : (d : Bool) (r : Float) (u : Mat4) → (plain_of d r u).angled ≡ d
unfolding plain_of
plain-flag true r u = refl
plain-flag false r u = refl

fallback-flag : (d e : Bool) (r : Float) (u v : Mat4) → (fallback_of d e r u v).angled ≡ (d || e)
unfolding fallback_of
fallback-flag true e r u v = refl
fallback-flag false true r u v = refl
fallback-flag false false r u v = refl

swapped-flag : (tol : Float) (d : Bool) (r : Float) (u v : Mat4) → (swapped_of tol d r u v).angled ≡ (d || diagonal_of tol v)
unfolding swapped_of without_phase_of
swapped-flag tol d r u v =
    rw (either, either, fallback-flag d (diagonal_of tol v) (min_of r (residual2_of v)) u v)
    (tests d (diagonal_of tol v) (phase_none_of tol (interaction_of v)) (le (residual2_of v) tol))
  where
    tests : (d e p m : Bool) → cond (e && p) true (cond m (d || e) (d || e)) ≡ (d || e)
    tests true true true m = refl
    tests false true true m = refl
    tests d true false true = refl
    tests d true false false = refl
    tests d false p true = refl
    tests d false p false = refl

pub angled-is : (relabel : Bool) (tol : Float) (u : Mat4) → (classify2_of relabel tol u).angled ≡ angled_of relabel tol u
unfolding classify2_of angled_of third_of without_phase_of
angled-is relabel tol u =
    rw (
      either,
      either,
      either,
      swapped-flag tol (diagonal_of tol u) (residual2_of u) u (swap4_of u),
      plain-flag (diagonal_of tol u) (residual2_of u) u,
    ) (tests (diagonal_of tol u) (phase_none_of tol (interaction_of u)) (le (residual2_of u) tol) relabel (diagonal_of tol (swap4_of u)))
  where
    tests : (d p m r e : Bool) → cond (d && p) true (cond m d (cond r (d || e) d)) ≡ (d || ((r && (not (d && p) && not m)) && e))
    tests true true m r e = refl
    tests true false true r e = refl
    tests true false false true e = refl
    tests true false false false e = refl
    tests false p true true e = refl
    tests false p true false e = refl
    tests false p false true e = refl
    tests false p false false e = refl
