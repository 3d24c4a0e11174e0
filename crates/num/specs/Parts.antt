-- The words of the contracts of the inner functions of `root`, over whole numbers. Definitions only. Only inner functions rest on this.
use Rattle.std.specs.Prelude.{◌≡◌, ℕ, ◌+◌, ◌-◌, ◌*◌, ◌/◌, ◌%◌, ◌^◌, ◌≤◌, ◌<◌, not, T}
use Rattle.std.specs.Float.{binary64}
use Rattle.std.specs.Float.Ieee.{of_bits, nan_bits}
use Rattle.num.specs.Root.{grains, Nearest}

-- ---- the parts of a pattern

-- m is t moved up by s places, so that its leading digit stands at the place 52
pub record Moved (t m s : ℕ) : Type 0 where
  pub is : m ≡ t * 2 ^ s
  pub high : 2 ^ 52 ≤ m
  pub short : m < 2 ^ 53
  pub few : s ≤ 52

-- the number with the pattern b has n * 2 ^ (w - 1) grains; its digits m are n moved up by s places, and its exponent u goes down by as many
pub record PartsOf (b m u : ℕ) : Type 0 where
  pub n : ℕ
  pub w : ℕ
  pub s : ℕ
  pub value : grains (of_bits binary64 b) ≡ n * 2 ^ (w - 1)
  pub moved : Moved n m s
  pub first : 1 ≤ w
  pub last : w ≤ b / 2 ^ 52 + 1
  pub sum : u + s ≡ w + 1023

-- r is m or twice m, by whether u is even
pub record Evened (u m r : ℕ) : Type 0 where
  pub even : u % 2 ≡ 0 → r ≡ m
  pub odd : u % 2 ≡ 1 → r ≡ m * 2
  pub high : m ≤ r
  pub short : r + 2 ≤ 2 ^ 54

-- ---- roots of whole numbers

-- q is the whole part of the root of n
pub record WholeRoot (n q : ℕ) : Type 0 where
  pub low : q * q ≤ n
  pub high : n < (q + 1) * (q + 1)
  pub short : q < 2 ^ 54

-- r is the whole number nearest the root of a * 2 ^ 52
pub record Rounded (a r : ℕ) : Type 0 where
  pub low : (2 * r - 1) * (2 * r - 1) < 4 * (a * 2 ^ 52)
  pub high : 4 * (a * 2 ^ 52) < (2 * r + 1) * (2 * r + 1)

-- r * r is k * 2 ^ 52 + low
pub record SquareOf (r k low : ℕ) : Type 0 where
  pub is : r * r ≡ k * 2 ^ 52 + low
  pub short : low < 2 ^ 53
  pub few : k ≤ 2 ^ 55

-- ---- the whole

-- r is the pattern of the root of the number with the pattern b
pub record RootBits (b r : ℕ) : Type 0 where
  pub near : Nearest (of_bits binary64 b) (of_bits binary64 r)
  pub number : T (not (nan_bits binary64 r))
