-- Squares of whole numbers: their order, and the square of a product, of a sum, of the next number and of an odd one. Assumes nothing.
use mathlib.Core.Path.{◌≡◌, ap, ◌∙◌}
use Prim.Native.Nat.{ℕ, ◌+◌, ◌*◌, ◌≤◌, ◌<◌}
use native.Mathlib.Nat.{le_of_lt, lt_of_le_of_lt, lt_of_not-le, not-le_of_lt, mul_comm, mul-add, add-mul, mul-mul-mul_comm, mul-le-mul, mul-le-mul_left, mul-lt-mul_of_pos_right}
use native.Mathlib.Omega.{arith}

-- ---- order

pub sq-le : (a b : ℕ) → a ≤ b → a * a ≤ b * b
sq-le a b h = mul-le-mul h h

pub sq-lt : (a b : ℕ) → a < b → a * a < b * b
sq-lt a b h = lt_of_le_of_lt (mul-le-mul_left a (le_of_lt h)) (mul-lt-mul_of_pos_right h (omega arith))

pub root-lt : (a b : ℕ) → a * a < b * b → a < b
root-lt a b h = lt_of_not-le (λ (g : b ≤ a). not-le_of_lt h (sq-le b a g))

-- ---- equations

pub sq-mul : (a p : ℕ) → a * p * (a * p) ≡ a * a * (p * p)
sq-mul a p = mul-mul-mul_comm a p a p

pub sq-sum : (a b : ℕ) → (a + b) * (a + b) ≡ a * a + 2 * (a * b) + b * b
sq-sum a b =
    add-mul a b (a + b)
    ∙ ap (λ (z : ℕ). z + b * (a + b)) (mul-add a a b)
    ∙ ap (λ (z : ℕ). a * a + a * b + z) (mul-add b a b ∙ ap (λ (z : ℕ). z + b * b) (mul_comm b a))
    ∙ sum (a * a) (a * b) (b * b)
  where
    sum : (x y z : ℕ) → x + y + (y + z) ≡ x + 2 * y + z
    sum x y z = omega arith

pub sq-next : (a : ℕ) → (a + 1) * (a + 1) ≡ a * a + 2 * a + 1
sq-next a = sq-sum a 1 ∙ sum (a * a) a
  where
    sum : (s a : ℕ) → s + 2 * (a * 1) + 1 * 1 ≡ s + 2 * a + 1
    sum s a = omega arith

-- an odd square is one more than a multiple of 4
pub odd-sq : (h : ℕ) → (2 * h + 1) * (2 * h + 1) ≡ 4 * (h * h + h) + 1
odd-sq h = sq-next (2 * h) ∙ sum (2 * h * (2 * h)) (h * h) h (sq-mul 2 h)
  where
    sum : (t s h : ℕ) → t ≡ 4 * s → t + 2 * (2 * h) + 1 ≡ 4 * (s + h) + 1
    sum t s h e = omega arith
