-- The largest of some roots is the root of the largest, over the number of them; so a residual takes one root. Assumes nothing.
use mathlib.Core.Path.{◌≡◌, refl, ap, sym, ◌∙◌}
use mathlib.Core.List.{List, [], ◌∷◌}
use lib.Dec.{T}
use lib.Ieee.{Float, binary64, fits, of_bits}
use lib.Ieee.Fits.{div-fits}
use lib.Ieee.Bits.{of_bits-fits}
use Rattle.num.specs.Order.{max_of}
use Rattle.num.specs.Root.{sqrt_of}
use Rattle.num.proofs.OrderLaws.{max-fits}
use Rattle.num.proofs.SqrtMax.{sqrt-max}
use Rattle.gate.specs.Complex.{f0}
use Rattle.gate.specs.declared.matrix.Mat2.{Mat2}
use Rattle.gate.specs.declared.matrix.Mat4.{Mat4}
use Rattle.majorana.specs.Majorana.{largest_root_of, distance2_of, map_distance2_of, distance4_of, map_distance4_of}
use Rattle.majorana.specs.Parts.{largest_of}

-- every number of the list is an f64
pub data Held : List Float → Type 0 where
  none : Held []
  more : {x : Float} {xs : List Float} → T (fits binary64 x) → Held xs → Held (x ∷ xs)

largest-root : (s : Float) (xs : List Float) → T (fits binary64 s) → Held xs → largest_root_of (sqrt_of s) xs ≡ sqrt_of (largest_of s xs)
unfolding largest_root_of largest_of
largest-root s [] f none = refl
largest-root s (x ∷ xs) f (more g h) = ap (λ z. largest_root_of z xs) (sym (sqrt-max s x f g)) ∙ largest-root (max_of s x) xs (max-fits binary64 s x f g) h

root-zero : sqrt_of f0 ≡ f0
unfolding sqrt_of of_bits
root-zero = refl

-- from 0.0 on, as the residual is taken
pub one-root : (xs : List Float) → Held xs → largest_root_of f0 xs ≡ sqrt_of (largest_of f0 xs)
one-root xs h = ap (λ z. largest_root_of z xs) (sym root-zero) ∙ largest-root f0 xs (of_bits-fits binary64 0) h

-- ---- the parts of a residual are quotients, so each is an f64

pub distance2-fits : (c u : Mat2) → T (fits binary64 (map_distance2_of c u))
unfolding map_distance2_of distance2_of
distance2-fits c u = div-fits binary64 _ _

pub distance4-fits : (c u : Mat4) → T (fits binary64 (map_distance4_of c u))
unfolding map_distance4_of distance4_of
distance4-fits c u = div-fits binary64 _ _
