-- What holds of each number below two, or below four. By cases. Assumes nothing.
use Prim.Native.Nat.{ℕ, zero, suc, ◌<◌}
use native.Mathlib.Omega.{arith}

pub below-two : (P : ℕ → Type 0) → P 0 → P 1 → (a : ℕ) → a < 2 → P a
below-two P p q zero h = p
below-two P p q (suc zero) h = q
below-two P p q (suc (suc a)) h = absurd (omega arith)

pub below-four : (P : ℕ → Type 0) → P 0 → P 1 → P 2 → P 3 → (a : ℕ) → a < 4 → P a
below-four P p q r s zero h = p
below-four P p q r s (suc zero) h = q
below-four P p q r s (suc (suc zero)) h = r
below-four P p q r s (suc (suc (suc zero))) h = s
below-four P p q r s (suc (suc (suc (suc a)))) h = absurd (omega arith)
