-- Numbers with a sum, a product and a negative, and the laws of a ring. Operators are such numbers too: their product need not commute. Assumes nothing.
-- A public promise rests on this.
use Rattle.std.specs.Prelude.{◌≡◌, Bool, true, false, List, [], ◌∷◌}

pub record Ops : Type 1 where
  pub N : Type 0
  pub zero : N
  pub one : N
  pub add : N → N → N
  pub mul : N → N → N
  pub neg : N → N

-- x, negated if b
abbrev pub sg : (𝓝 : Ops) → Bool → 𝓝.N → 𝓝.N
sg 𝓝 false x = x
sg 𝓝 true x = 𝓝.neg x

-- the product of f over a list
abbrev pub times : (𝓝 : Ops) {A : Type 0} → (A → 𝓝.N) → List A → 𝓝.N
times 𝓝 f [] = 𝓝.one
times 𝓝 f (x ∷ xs) = 𝓝.mul (f x) (times 𝓝 f xs)

-- the laws of a ring with one
pub record IsRing (𝓝 : Ops) : Type 0 where
  pub add-assoc : (x y z : 𝓝.N) → 𝓝.add (𝓝.add x y) z ≡ 𝓝.add x (𝓝.add y z)
  pub add-comm : (x y : 𝓝.N) → 𝓝.add x y ≡ 𝓝.add y x
  pub add-zero : (x : 𝓝.N) → 𝓝.add x 𝓝.zero ≡ x
  pub add-neg : (x : 𝓝.N) → 𝓝.add x (𝓝.neg x) ≡ 𝓝.zero
  pub mul-assoc : (x y z : 𝓝.N) → 𝓝.mul (𝓝.mul x y) z ≡ 𝓝.mul x (𝓝.mul y z)
  pub one-mul : (x : 𝓝.N) → 𝓝.mul 𝓝.one x ≡ x
  pub mul-one : (x : 𝓝.N) → 𝓝.mul x 𝓝.one ≡ x
  pub left : (x y z : 𝓝.N) → 𝓝.mul x (𝓝.add y z) ≡ 𝓝.add (𝓝.mul x y) (𝓝.mul x z)
  pub right : (x y z : 𝓝.N) → 𝓝.mul (𝓝.add x y) z ≡ 𝓝.add (𝓝.mul x z) (𝓝.mul y z)

-- and of a commutative one
pub record IsCommutative (𝓝 : Ops) : Type 0 where
  pub ring : IsRing 𝓝
  pub comm : (x y : 𝓝.N) → 𝓝.mul x y ≡ 𝓝.mul y x
