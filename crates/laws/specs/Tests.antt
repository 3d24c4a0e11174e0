-- Tests of the numbers below n: that every one passes, and how many do. Assumes nothing. A public promise rests on this.
use Rattle.std.specs.Prelude.{Bool, true, cond, ◌&&◌, ℕ, zero, suc, ◌+◌}

-- f holds of every number below n
unfoldable pub all_below : (ℕ → Bool) → ℕ → Bool
all_below f zero = true
all_below f (suc n) = all_below f n && f n

-- how many of 0, .., n - 1 pass
unfoldable pub count : (ℕ → Bool) → ℕ → ℕ
count p zero = 0
count p (suc i) = cond (p i) 1 0 + count p i
