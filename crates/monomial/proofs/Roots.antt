-- Roots at 0, 1, 2 and 4, and the largest root of a list whose numbers are all 0 or all 1. Assumes nothing.
use mathlib.Core.Path.{◌≡◌, refl, ap, ◌∙◌, subst}
use mathlib.Core.Bool.{false}
use mathlib.Core.List.{List, [], ◌∷◌}
use Prim.Native.Nat.{zero, suc}
use lib.Dec.{T, lit<}
use lib.IntN.{pos}
use lib.Ieee.{Float, nan, inf, fin, binary64, fits, is_nan, of_bits}
use lib.Ieee.Bits.{of_bits-fits}
use Rattle.laws.specs.Dyadic.{Dy}
use Rattle.laws.specs.Lists.{All}
use Rattle.laws.proofs.Dyadic.{zero-nz}
use Rattle.laws.proofs.DyadicOrder.{lt-dy}
use Rattle.laws.proofs.DyadicFloat.{is-float}
use Rattle.laws.proofs.Lists.{all_map}
use Rattle.num.specs.Root.{sqrt_of}
use Rattle.num.specs.Order.{max_of}
use Rattle.num.proofs.OrderLaws.{max-first, max-second}
use Rattle.gate.specs.Complex.{f0, f1, f2}
use Rattle.majorana.specs.Majorana.{f4, largest_root_of}
use Rattle.monomial.proofs.Complexes.{zero_is}
use Rattle.monomial.proofs.Operators.{one-is}
use Rattle.monomial.proofs.Traces.{two-known, four-known}

-- ---- roots

-- the f64 nearest the root of 2
abbrev pub √2 : Float
√2 = of_bits binary64 0x3ff6_a09e_667f_3bcd

root1 : sqrt_of f1 ≡ f1
unfolding sqrt_of of_bits
root1 = refl

root2 : sqrt_of f2 ≡ √2
unfolding sqrt_of of_bits
root2 = refl

root4 : sqrt_of f4 ≡ f2
unfolding sqrt_of of_bits
root4 = refl

-- a zero is its own root
pub root-zero : (x : Float) → Dy 0 (pos 0) x → sqrt_of x ≡ x
unfolding sqrt_of
root-zero nan d = absurd d
root-zero (inf s) d = absurd d
root-zero (fin s zero e) d = refl
root-zero (fin s (suc m) e) d = absurd (subst some (zero-nz 0 (fin s (suc m) e) d) tt)
  where
    some : Float → Type 0
    some nan = ⊥
    some (inf s) = ⊥
    some (fin s zero e) = ⊥
    some (fin s (suc m) e) = Unit {0}

pub root-one : (x : Float) → T (fits binary64 x) → Dy 0 (pos 1) x → sqrt_of x ≡ f1
root-one x f d = ap sqrt_of (is-float 0 (pos 1) x f1 (lit< tt) f (of_bits-fits binary64 0x3ff0_0000_0000_0000) d one-is) ∙ root1

pub root-two : (x : Float) → T (fits binary64 x) → Dy 0 (pos 2) x → sqrt_of x ≡ √2
root-two x f d = ap sqrt_of (is-float 0 (pos 2) x f2 (lit< tt) f (of_bits-fits binary64 0x4000_0000_0000_0000) d two-known.1) ∙ root2

pub root-four : (x : Float) → T (fits binary64 x) → Dy 0 (pos 4) x → sqrt_of x ≡ f2
root-four x f d = ap sqrt_of (is-float 0 (pos 4) x f4 (lit< tt) f (of_bits-fits binary64 0x4010_0000_0000_0000) d four-known.1) ∙ root4

-- ---- the largest of a list

-- no root is above s
stays : (s : Float) (xs : List Float) → All (λ x. max_of s (sqrt_of x) ≡ s) xs → largest_root_of s xs ≡ s
unfolding largest_root_of
stays s [] h = refl
stays s (x ∷ xs) h = ap (λ (t : Float). largest_root_of t xs) h.0 ∙ stays s xs h.1

number0 : is_nan f0 ≡ false
unfolding is_nan of_bits
number0 = refl

number1 : is_nan f1 ≡ false
unfolding is_nan of_bits
number1 = refl

pub largest-zero : (xs : List Float) → All (Dy 0 (pos 0)) xs → largest_root_of f0 xs ≡ f0
largest-zero xs h =
    stays f0 xs
    (all_map
    (λ x d. ap (max_of f0) (root-zero x d) ∙ max-first f0 x number0 (lt-dy 0 (pos 0) (pos 0) f0 x zero_is d))
    xs h)

-- x is 1.0, by its value
abbrev pub One : Float → Type 0
One x = T (fits binary64 x) × Dy 0 (pos 1) x

pub largest-one : (x : Float) (xs : List Float) → One x → All One xs → largest_root_of f0 (x ∷ xs) ≡ f1
unfolding largest_root_of
largest-one x xs o h =
    ap (λ (t : Float). largest_root_of t xs)
    (ap (max_of f0) (root-one x o.0 o.1) ∙ max-second f0 f1 number0 (lt-dy 0 (pos 0) (pos 1) f0 f1 zero_is one-is))
    ∙ stays f1 xs
    (all_map
    (λ y d. ap (max_of f1) (root-one y d.0 d.1) ∙ max-first f1 f1 number1 (lt-dy 0 (pos 1) (pos 1) f1 f1 one-is one-is))
    xs h)
