-- Laws on `abs_of`, `max_of`, `min_of` and `clamp_of`: what each gives by its tests, and what holds of the result where it holds of the operands, as that
-- it fits a format. Assumes nothing.
use mathlib.Core.Path.{◌≡◌, refl}
use Prim.Native.Nat.{zero, suc}
use mathlib.Core.Bool.{Bool, true, false, cond, false≢true}
use lib.Dec.{T}
use lib.Ieee.{Float, nan, inf, fin, Format, fits, is_nan, lt}
use lib.Ieee.Scale.{finite}
use Rattle.num.specs.Root.{plain}
use Rattle.num.specs.Order.{abs_of, max_of, min_of, clamp_of}

-- ---- abs

-- a NaN stays, and nothing else becomes one
pub abs-nan : (x : Float) → is_nan x ≡ true → x ≡ abs_of x
unfolding abs_of is_nan
abs-nan nan h = refl
abs-nan (inf s) h = absurd (false≢true h)
abs-nan (fin s m e) h = absurd (false≢true h)

pub abs-number : (x : Float) → is_nan x ≡ false → is_nan (abs_of x) ≡ false
unfolding abs_of is_nan
abs-number nan h = h
abs-number (inf s) h = refl
abs-number (fin s m e) h = refl

pub abs-fits : (f : Format) (x : Float) → T (fits f x) → T (fits f (abs_of x))
unfolding abs_of fits
abs-fits f nan h = h
abs-fits f (inf s) h = h
abs-fits f (fin s zero e) h = h
abs-fits f (fin s (suc m) e) h = h

pub abs-plain : (x : Float) → T (finite x) → T (plain (abs_of x))
unfolding abs_of
abs-plain nan h = h
abs-plain (inf s) h = h
abs-plain (fin s m e) h = tt

-- ---- max and min, by the tests

pub max-nan : (b : Float) → max_of nan b ≡ b
unfolding max_of is_nan
max-nan b = refl

pub max-nan-right : (a : Float) → max_of a nan ≡ a
unfolding max_of is_nan lt
max-nan-right nan = refl
max-nan-right (inf s) = refl
max-nan-right (fin s m e) = refl

pub max-first : (a b : Float) → is_nan a ≡ false → lt a b ≡ false → max_of a b ≡ a
unfolding max_of
max-first a b n l = rw (n, l)

pub max-second : (a b : Float) → is_nan a ≡ false → lt a b ≡ true → max_of a b ≡ b
unfolding max_of
max-second a b n l = rw (n, l)

pub min-nan : (b : Float) → min_of nan b ≡ b
unfolding min_of is_nan
min-nan b = refl

pub min-nan-right : (a : Float) → min_of a nan ≡ a
unfolding min_of is_nan lt
min-nan-right nan = refl
min-nan-right (inf s) = refl
min-nan-right (fin s m e) = refl

pub min-first : (a b : Float) → is_nan a ≡ false → lt b a ≡ false → min_of a b ≡ a
unfolding min_of
min-first a b n l = rw (n, l)

pub min-second : (a b : Float) → is_nan a ≡ false → lt b a ≡ true → min_of a b ≡ b
unfolding min_of
min-second a b n l = rw (n, l)

-- ---- the result is one of the operands, so what holds of them holds of it

either : (P : Float → Type 0) (t : Bool) (x y : Float) → P x → P y → P (cond t x y)
either P true x y p q = p
either P false x y p q = q

pub max-either : (P : Float → Type 0) (a b : Float) → P a → P b → P (max_of a b)
unfolding max_of
max-either P a b p q = search (either P)

pub min-either : (P : Float → Type 0) (a b : Float) → P a → P b → P (min_of a b)
unfolding min_of
min-either P a b p q = search (either P)

pub clamp-either : (P : Float → Type 0) (x lo hi : Float) → P x → P lo → P hi → P (clamp_of x lo hi)
unfolding clamp_of
clamp-either P x lo hi p q r = search (either P)

pub max-fits : (f : Format) (a b : Float) → T (fits f a) → T (fits f b) → T (fits f (max_of a b))
max-fits f = max-either (λ x. T (fits f x))

pub min-fits : (f : Format) (a b : Float) → T (fits f a) → T (fits f b) → T (fits f (min_of a b))
min-fits f = min-either (λ x. T (fits f x))

pub clamp-fits : (f : Format) (x lo hi : Float) → T (fits f x) → T (fits f lo) → T (fits f hi) → T (fits f (clamp_of x lo hi))
clamp-fits f = clamp-either (λ x. T (fits f x))
