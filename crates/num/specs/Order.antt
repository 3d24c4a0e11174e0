-- Rust's methods of f64 that go by sign and order: `abs`, `max`, `min`, `clamp`. Definitions only. A public promise rests on this.
use Rattle.std.specs.Prelude.{Bool, false, cond, Float}
use Rattle.std.specs.Float.{nan, inf, fin}
use Rattle.std.specs.Float.Ieee.{is_nan, lt}

-- the sign cleared, of a zero too
unfoldable pub abs_of : Float → Float
abs_of nan = nan
abs_of (inf s) = inf false
abs_of (fin s m e) = fin false m e

-- b where a is a NaN, or where `second` says so; else a
abbrev pub pick_of : Float → Float → Bool → Float
pick_of a b second = cond (is_nan a) b (cond second b a)

-- the larger. Nothing is below a NaN, so of a NaN and a number it is the number, on either side.
-- Which of two zeros of different sign it is Rust leaves open: here it is a.
unfoldable pub max_of : Float → Float → Float
max_of a b = pick_of a b (lt a b)

-- the smaller, alike
unfoldable pub min_of : Float → Float → Float
min_of a b = pick_of a b (lt b a)

-- lo where x is below it, then hi where that is above it. A NaN x stays, and a NaN bound does nothing. Rust panics unless lo ≤ hi; this is total.
unfoldable pub clamp_of : Float → Float → Float → Float
clamp_of x lo hi = let y = cond (lt x lo) lo x in cond (lt hi y) hi y
