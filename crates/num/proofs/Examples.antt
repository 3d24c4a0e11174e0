-- Roots, larger, smaller and clamped numbers that a reader knows, each by computing. Assumes nothing.
use mathlib.Core.Path.{◌≡◌, refl}
use mathlib.Core.Bool.{true, false}
use lib.IntN.{pos, negsuc}
use lib.Ieee.{Float, nan, inf, fin, binary64, is_nan, lt, of_bits, to_bits}
use Rattle.num.specs.Root.{sqrt_of}
use Rattle.num.specs.Order.{abs_of, max_of, min_of, clamp_of}
use Rattle.num.specs.Bits.{bits_of}

-- ---- numbers

abbrev plus-zero : Float
plus-zero = fin false 0 (pos 0)

abbrev minus-zero : Float
minus-zero = fin true 0 (pos 0)

abbrev one : Float
one = fin false 1 (pos 0)

abbrev minus_one : Float
minus_one = fin true 1 (pos 0)

-- the smallest above zero, and the largest
abbrev smallest : Float
smallest = of_bits binary64 0x0000_0000_0000_0001

abbrev largest : Float
largest = of_bits binary64 0x7fef_ffff_ffff_ffff

-- ---- roots

root-of-zero : sqrt_of plus-zero ≡ plus-zero
unfolding sqrt_of
root-of-zero = refl

root-of-minus-zero : sqrt_of minus-zero ≡ minus-zero
unfolding sqrt_of
root-of-minus-zero = refl

root-of-one : sqrt_of one ≡ one
unfolding sqrt_of
root-of-one = refl

-- 1.4142135623730951
root-of-two : sqrt_of (fin false 1 (pos 1)) ≡ of_bits binary64 0x3ff6_a09e_667f_3bcd
unfolding sqrt_of of_bits
root-of-two = refl

root-of-four : sqrt_of (fin false 1 (pos 2)) ≡ fin false 1 (pos 1)
unfolding sqrt_of
root-of-four = refl

root-of-quarter : sqrt_of (fin false 1 (negsuc 1)) ≡ fin false 1 (negsuc 0)
unfolding sqrt_of
root-of-quarter = refl

-- 2 ^ -537
root-of-smallest : sqrt_of smallest ≡ fin false 1 (negsuc 536)
unfolding sqrt_of of_bits
root-of-smallest = refl

-- 1.3407807929942596e154
root-of-largest : sqrt_of largest ≡ of_bits binary64 0x5fef_ffff_ffff_ffff
unfolding sqrt_of of_bits
root-of-largest = refl

root-of-minus-one : sqrt_of minus_one ≡ nan
unfolding sqrt_of
root-of-minus-one = refl

root-of-inf : sqrt_of (inf false) ≡ inf false
unfolding sqrt_of
root-of-inf = refl

root-of-minus-inf : sqrt_of (inf true) ≡ nan
unfolding sqrt_of
root-of-minus-inf = refl

root-of-nan : sqrt_of nan ≡ nan
unfolding sqrt_of
root-of-nan = refl

-- ---- sign and order

abs-of-minus-zero : abs_of minus-zero ≡ plus-zero
unfolding abs_of
abs-of-minus-zero = refl

max-past-nan : (max_of nan one ≡ one) × (max_of one nan ≡ one)
unfolding max_of is_nan lt
max-past-nan = (refl, refl)

min-past-nan : (min_of nan one ≡ one) × (min_of one nan ≡ one)
unfolding min_of is_nan lt
min-past-nan = (refl, refl)

max-of-zeros : (max_of plus-zero minus-zero ≡ plus-zero) × (max_of minus-zero plus-zero ≡ minus-zero)
unfolding max_of is_nan lt
max-of-zeros = (refl, refl)

min-of-zeros : (min_of plus-zero minus-zero ≡ plus-zero) × (min_of minus-zero plus-zero ≡ minus-zero)
unfolding min_of is_nan lt
min-of-zeros = (refl, refl)

clamp-of-inf : clamp_of (inf true) minus_one one ≡ minus_one
unfolding clamp_of lt
clamp-of-inf = refl

clamp-of-nan : clamp_of nan minus_one one ≡ nan
unfolding clamp_of lt
clamp-of-nan = refl

-- ---- bits

bits-of-minus-one : bits_of minus_one ≡ 0xbff0_0000_0000_0000
unfolding bits_of is_nan to_bits
bits-of-minus-one = refl

bits_of_nan : bits_of nan ≡ 0x7ff8_0000_0000_0000
unfolding bits_of is_nan
bits_of_nan = refl

-- any other NaN pattern reads as the one NaN
nan-of-bits : of_bits binary64 0xfff0_0000_0000_0001 ≡ nan
unfolding of_bits
nan-of-bits = refl

-- bounds the wrong way round: the upper one, and a NaN all the same
clamp-turned : (clamp_of plus-zero one minus_one ≡ minus_one) × (clamp_of nan one minus_one ≡ nan)
unfolding clamp_of lt
clamp-turned = (refl, refl)
