-- Complex numbers: a struct of two f64, with the arithmetic of num-complex. Each operation on the parts is IEEE 754's, rounded to the nearest f64.
-- A public promise rests on this.
use Rattle.std.specs.Prelude.{Bool, ◌&&◌, Float}
use Rattle.std.specs.Float.{binary64}
use Rattle.std.specs.Float.Ieee.{add, sub, mul, neg, eq, of_bits}
use Rattle.gate.specs.declared.complex.Complex.{Complex}

infixl 6 ◌+ℂ◌
infixl 6 ◌-ℂ◌
infixl 7 ◌*ℂ◌
abbrev pub ◌+ℂ◌ : Complex → Complex → Complex
a +ℂ b = record { re = add binary64 a.re b.re; im = add binary64 a.im b.im }

abbrev pub ◌-ℂ◌ : Complex → Complex → Complex
a -ℂ b = record { re = sub binary64 a.re b.re; im = sub binary64 a.im b.im }

-- "Rust's complex product": (a + ib)(c + id) = (ac - bd) + i(ad + bc)
abbrev pub ◌*ℂ◌ : Complex → Complex → Complex
a *ℂ b = record {
  re = sub binary64 (mul binary64 a.re b.re) (mul binary64 a.im b.im);
  im = add binary64 (mul binary64 a.re b.im) (mul binary64 a.im b.re);
}

-- the product with a real number: each part times x
abbrev pub scale_of : Complex → Float → Complex
scale_of a x = record { re = mul binary64 a.re x; im = mul binary64 a.im x }

abbrev pub conj_of : Complex → Complex
conj_of a = record { re = a.re; im = neg a.im }

-- the square of the absolute value
abbrev pub norm_sqr_of : Complex → Float
norm_sqr_of a = add binary64 (mul binary64 a.re a.re) (mul binary64 a.im a.im)

-- 0.0, 1.0 and 2.0
abbrev pub f0 : Float
f0 = of_bits binary64 0

abbrev pub f1 : Float
f1 = of_bits binary64 0x3ff0_0000_0000_0000

abbrev pub f2 : Float
f2 = of_bits binary64 0x4000_0000_0000_0000

-- the number with these parts
abbrev pub cx : Float → Float → Complex
cx x y = record { re = x; im = y }

-- 0 and 1
abbrev pub c0 : Complex
c0 = cx f0 f0

abbrev pub c1 : Complex
c1 = cx f1 f0

-- it equals 0, whatever the signs of its zeros
unfoldable pub is_zero_of : Complex → Bool
is_zero_of a = eq a.re f0 && eq a.im f0
