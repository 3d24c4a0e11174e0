-- Rows of the printing rule and of the lines, each computed. Assumes nothing.
use mathlib.Core.Path.{◌≡◌, refl}
use mathlib.Core.List.{[], ◌∷◌}
use Prim.Native.Nat.{ℕ}
use Prim.Native.String.{String}
use lib.Ieee.{binary64, neg, lt, of_bits}
use Rattle.order.specs.declared.choice.Ordering.TheVariants.{Identity}
use Rattle.text.specs.Ascii.{ascii, digits_of, decimal}
use Rattle.text.specs.Millionths.{rounded, millionths, in_range, signed, z_text}
use Rattle.text.specs.Lines.{pieces, report_line, name_of, order_line, z_line, refused_line, too_big_line}

-- Z of the f64 with the pattern b, as text
abbrev Prints : ℕ → String → Type 0
Prints b word = z_text (of_bits binary64 b) ≡ ascii word

-- "1/128 is printed 7812 where it was 7813, 3/128 stays 23438, and the negatives mirror them": they are 7812.5 and 23437.5 millionths; and 5 / 128
halves : Prints 0x3f80_0000_0000_0000 "7812" × Prints 0x3f98_0000_0000_0000 "23438" × Prints 0x3fa4_0000_0000_0000 "39062"
    × Prints 0xbf80_0000_0000_0000 "-7812" × Prints 0xbf98_0000_0000_0000 "-23438" × Prints 0xbfa4_0000_0000_0000 "-39062"
unfolding ascii digits_of decimal of_bits neg lt in_range rounded millionths signed z_text
halves = (refl, refl, refl, refl, refl, refl)

-- the f64s before and after 1 / 128 and 3 / 128
beside : Prints 0x3f7f_ffff_ffff_ffff "7812" × Prints 0x3f80_0000_0000_0001 "7813"
    × Prints 0x3f97_ffff_ffff_ffff "23437" × Prints 0x3f98_0000_0000_0001 "23438"
unfolding ascii digits_of decimal of_bits neg lt in_range rounded millionths signed z_text
beside = (refl, refl, refl, refl)

-- "0 without a sign": 0.0, -0.0, the smallest f64 below zero, and -2 ^ -22; -2 ^ -20 is nearer to one millionth
zeros : Prints 0x0000_0000_0000_0000 "0" × Prints 0x8000_0000_0000_0000 "0" × Prints 0x8000_0000_0000_0001 "0"
    × Prints 0xbe90_0000_0000_0000 "0" × Prints 0xbeb0_0000_0000_0000 "-1"
unfolding ascii digits_of decimal of_bits neg lt in_range rounded millionths signed z_text
zeros = (refl, refl, refl, refl, refl)

-- "`out` for NaN or magnitude 2 and more": the f64 before 2.0 is printed
ends : Prints 0x3fff_ffff_ffff_ffff "2000000" × Prints 0x4000_0000_0000_0000 "out" × Prints 0xc000_0000_0000_0000 "out"
    × Prints 0x7ff0_0000_0000_0000 "out" × Prints 0x7ff8_0000_0000_0000 "out"
unfolding ascii digits_of decimal of_bits neg lt in_range rounded millionths signed z_text
ends = (refl, refl, refl, refl, refl)

-- the lines of the example, and those that stand alone
z_lines : (z_line 0 (of_bits binary64 0x3ff0_0000_0000_0000) ≡ ascii "q0 1000000\n")
    × (z_line 1 (of_bits binary64 0xbff0_0000_0000_0000) ≡ ascii "q1 -1000000\n")
unfolding ascii digits_of decimal of_bits neg lt in_range rounded millionths signed z_text z_line
z_lines = (refl, refl)

lines : (report_line 2 1 1 0 0 ≡ ascii "qubits 2 blocks 1 gaussian 1 bad 0 interactions 0\n")
    × (order_line Identity (0 ∷ 1 ∷ []) 2 ≡ ascii "order identity 0 1\n")
    × (refused_line 12 0 ≡ ascii "refused 12 at 0\n")
    × (too_big_line ≡ ascii "too big\n")
unfolding ascii digits_of decimal pieces report_line name_of order_line refused_line too_big_line
lines = (refl, refl, refl, refl)
