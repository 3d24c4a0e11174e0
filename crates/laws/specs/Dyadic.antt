-- Small dyadic numbers as floats: `Dy j z x` says that the float x is finite and its value is z / 2 ^ j.
-- It forgets the sign of a zero: a zero of either sign is `Dy j (pos 0)`. Assumes nothing. Only inner functions rest on this.
use Rattle.std.specs.Prelude.{◌≡◌, Bool, true, false, ℕ, ◌*◌, ◌^◌, eqb, ℤ, pos, negsuc, neg_ℤ, Float}
use Rattle.std.specs.Float.{nan, inf, fin}
use Rattle.std.specs.Float.Ieee.{up, down}

-- k, negated if s
abbrev pub with_sign : Bool → ℕ → ℤ
with_sign false k = pos k
with_sign true k = neg_ℤ (pos k)

-- x is z / 2 ^ j: its size m * 2 ^ e is k / 2 ^ j, and k with its sign is z
abbrev pub Dy : ℕ → ℤ → Float → Type 0
Dy j z nan = ⊥
Dy j z (inf s) = ⊥
Dy j z (fin s m e) = (k : ℕ) × (m * up e * 2 ^ j ≡ k * down e) × (with_sign s k ≡ z)

-- z = w, as a test that computes
abbrev pub eq_z : ℤ → ℤ → Bool
eq_z (pos a) (pos b) = eqb a b
eq_z (pos a) (negsuc b) = false
eq_z (negsuc a) (pos b) = false
eq_z (negsuc a) (negsuc b) = eqb a b

-- every whole number below this is a float
abbrev pub cap : ℕ
cap = 2 ^ 53

-- 2 ^ -finest is the smallest float above zero
abbrev pub finest : ℕ
finest = 1074
