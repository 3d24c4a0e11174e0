-- The square root of an f64, stated over whole numbers. Every finite f64 is a whole number of the smallest one above zero, 2 ^ -1074: its grains.
-- With c for the grains of x, the root of x counted in grains is the root of the whole number c * 2 ^ 1074. `Nearest` compares that with the middles between
-- two f64, by squares; `RootOf` is the root as IEEE 754 has it, and `sqrt_of` the same as a function that computes. Definitions only.
-- A public promise rests on this.
use Rattle.std.specs.Prelude.{◌≡◌, ℕ, zero, suc, ◌+◌, ◌-◌, ◌*◌, ◌/◌, ◌^◌, ◌<◌, Bool, true, false, cond, T, leb, Float}
use Rattle.std.specs.Float.{nan, inf, fin, binary64}
use Rattle.std.specs.Float.Ieee.{fits, up, down, size, odd}

-- ---- grains

-- how many grains 1.0 has
abbrev pub per_one : ℕ
per_one = 2 ^ 1074

-- how many grains a finite x has, its sign aside; the division leaves no rest (law `grains-exact`)
unfoldable pub grains : Float → ℕ
grains nan = 0
grains (inf s) = 0
grains (fin s m e) = m * up e * per_one / down e

-- finite, and no minus sign
abbrev pub plain : Float → Bool
plain nan = false
plain (inf s) = false
plain (fin true m e) = false
plain (fin false m e) = true

-- ---- the root

-- the square of the root of x, counted in grains
abbrev pub squared : Float → ℕ
squared x = grains x * per_one

-- r is nearer the root of x than every other f64 y: the root lies on r's side of the middle between r and y.
-- With v for `squared x`, that is v < ((r + y) / 2) ^ 2 where y is above r, and ((r + y) / 2) ^ 2 < v where y is below r.
-- No tie is left over, so there is one such r (law `nearest-unique`). An infinity or a NaN as y has no grains, and counts as zero.
pub record Nearest (x r : Float) : Type 0 where
  pub held : T (fits binary64 r)
  pub sign : T (plain r)
  pub above : (y : Float) → T (fits binary64 y) → grains r < grains y → 4 * squared x < (grains r + grains y) * (grains r + grains y)
  pub below : (y : Float) → T (fits binary64 y) → grains y < grains r → (grains r + grains y) * (grains r + grains y) < 4 * squared x

-- r is the root of x: a NaN for a NaN and below zero, a zero for itself, infinity for infinity, and the nearest f64 for every other x
unfoldable pub RootOf : Float → Float → Type 0
RootOf nan r = r ≡ nan
RootOf (inf true) r = r ≡ nan
RootOf (inf false) r = r ≡ inf false
RootOf (fin s zero e) r = r ≡ fin s zero e
RootOf (fin true (suc m) e) r = r ≡ nan
RootOf (fin false (suc m) e) r = Nearest (fin false (suc m) e) r

-- ---- the root, computed (law `sqrt_of-root`)

-- the whole part of the root of an n below 4 ^ k, one binary digit a step
unfoldable pub whole : ℕ → ℕ → ℕ
whole zero n = 0
whole (suc k) n = let q = 2 * whole k (n / 4) in cond (leb ((q + 1) * (q + 1)) n) (q + 1) q

-- v is an m of 105 or 106 binary digits times 4 ^ g: the root of 4 * m has 54 digits before the point, one more than an f64 keeps
unfoldable pub root_at : ℕ → ℕ → Float
unfolding whole odd
root_at v g = odd 54 false ((whole 54 (4 * (v / (2 ^ g * 2 ^ g))) + 1) / 2) g 1074

-- the root of x
unfoldable pub sqrt_of : Float → Float
unfolding grains root_at size
sqrt_of nan = nan
sqrt_of (inf true) = nan
sqrt_of (inf false) = inf false
sqrt_of (fin s zero e) = fin s zero e
sqrt_of (fin true (suc m) e) = nan
sqrt_of (fin false (suc m) e) = root_at (squared (fin false (suc m) e)) ((size (squared (fin false (suc m) e)) - 105) / 2)
