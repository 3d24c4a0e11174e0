-- Exact numbers, and what the engine asks of numbers beside their sums and products: quotients, sizes, tests. IEEE binary64 has the second too, but is not
-- exact. Assumes nothing. A public promise rests on this.
use Rattle.std.specs.Prelude.{◌≡◌, ◌⊎◌, Bool, true, false}
use Rattle.rings.specs.Rings.{Ops, IsCommutative}

-- exact numbers: a commutative ring with i and a half, in which 1 has no square roots but 1 and -1, and with a test that tells -1 from 1. So is every field
-- with i in which 2 is not 0, with such a test
pub record Exact (𝓝 : Ops) (below : 𝓝.N → Bool) : Type 0 where
  pub laws : IsCommutative 𝓝
  pub i : 𝓝.N
  pub i-square : 𝓝.mul i i ≡ 𝓝.neg 𝓝.one
  pub half : 𝓝.N
  pub halves : 𝓝.add half half ≡ 𝓝.one
  pub roots : (x : 𝓝.N) → 𝓝.mul x x ≡ 𝓝.one → (x ≡ 𝓝.one) ⊎ (x ≡ 𝓝.neg 𝓝.one)
  pub not-below : below 𝓝.one ≡ false
  pub is-below : below (𝓝.neg 𝓝.one) ≡ true

-- what an elimination asks
pub record Tests (𝓝 : Ops) : Type 0 where
  pub div : 𝓝.N → 𝓝.N → 𝓝.N
  -- is it zero?
  pub null : 𝓝.N → Bool
  -- the absolute value, and whether a first one is below a second
  pub size : 𝓝.N → 𝓝.N
  pub less : 𝓝.N → 𝓝.N → Bool
  -- is the absolute value of the first not below that of the second? By another order, in binary64, which has a place for NaNs
  pub not_below : 𝓝.N → 𝓝.N → Bool
  -- the head of an empty row, which is never met
  pub nothing : 𝓝.N

-- x / y * y is x unless y is zero; only zero has the size of zero, and by either order no number is below it
pub record Divides (𝓝 : Ops) (𝓣 : Tests 𝓝) : Type 0 where
  pub quotient : (x y : 𝓝.N) → 𝓣.null y ≡ false → 𝓝.mul (𝓣.div x y) y ≡ x
  pub is-null : (y : 𝓝.N) → 𝓣.null y ≡ true → y ≡ 𝓝.zero
  pub zero-null : 𝓣.null 𝓝.zero ≡ true
  pub size-null : (y : 𝓝.N) → 𝓣.null (𝓣.size y) ≡ 𝓣.null y
  pub larger : (x y : 𝓝.N) → 𝓣.less (𝓣.size x) (𝓣.size y) ≡ true → 𝓣.null y ≡ true → 𝓣.null x ≡ true
  pub not-larger : (x y : 𝓝.N) → 𝓣.less (𝓣.size x) (𝓣.size y) ≡ false → 𝓣.null x ≡ true → 𝓣.null y ≡ true
  pub smallest : (x y : 𝓝.N) → 𝓣.not_below x y ≡ true → 𝓣.null x ≡ true → 𝓣.null y ≡ true
  pub smaller : (x y : 𝓝.N) → 𝓣.not_below x y ≡ false → 𝓣.null y ≡ true → 𝓣.null x ≡ true
