-- WHAT HALF TO EVEN IS, without a quotient or a remainder: no whole number is nearer, and where another one is as near, the even one is meant. There is just
-- one such number, and it is the one that the rule gives. Assumes nothing. A public promise rests on this.
use Rattle.std.specs.Prelude.{◌≡◌, ◌≢◌, ◌↔◌, ℕ, ◌+◌, ◌-◌, ◌*◌, ◌%◌, ◌<◌, ◌≤◌}
use Rattle.text.specs.Millionths.{rounded}

-- how far apart two numbers are; whichever is less, the one difference is 0
abbrev pub apart : ℕ → ℕ → ℕ
apart a b = (a - b) + (b - a)

-- num / den is as far from k as num is from k * den, counted in parts of den
pub record NearestEven (num den r : ℕ) : Type 0 where
  pub nearest : (k : ℕ) → apart num (r * den) ≤ apart num (k * den)
  pub even : (k : ℕ) → k ≢ r → apart num (k * den) ≡ apart num (r * den) → r % 2 ≡ 0

-- THE STATEMENT
abbrev pub HalfEven : Type 0
HalfEven = (num den r : ℕ) → 0 < den → (r ≡ rounded num den) ↔ NearestEven num den r
