-- Signed Pauli strings: a phase i^k and a Pauli at each mode; their product on n modes; and the value of such an operator in the vacuum |0..0>,
-- of which the real part is 0, 1 or -1. Assumes nothing. A public promise rests on this.
use Rattle.std.specs.Prelude.{Bool, true, false, not, ◌&&◌, cond, ℕ, zero, suc, pos, Float}
use Rattle.std.specs.Float.{fin}
use Rattle.laws.specs.Phase.{Phase, i0, i1, i2, i3, ◌⊕◌}
use Rattle.laws.specs.Zeros.{+0, +1}

-- -1 if b, else 1
abbrev pub sgn : Bool → Phase
sgn false = i0
sgn true = i2

-- ---- Paulis: p q = i^(ph p q) (pr p q)

pub data Pauli : Type 0 where
  p_i p_x p_y p_z : Pauli

abbrev pub pr : Pauli → Pauli → Pauli
pr p_i q = q
pr p_x p_i = p_x
pr p_x p_x = p_i
pr p_x p_y = p_z
pr p_x p_z = p_y
pr p_y p_i = p_y
pr p_y p_x = p_z
pr p_y p_y = p_i
pr p_y p_z = p_x
pr p_z p_i = p_z
pr p_z p_x = p_y
pr p_z p_y = p_x
pr p_z p_z = p_i

abbrev pub ph : Pauli → Pauli → Phase
ph p_i q = i0
ph p_x p_i = i0
ph p_x p_x = i0
ph p_x p_y = i1
ph p_x p_z = i3
ph p_y p_i = i0
ph p_y p_x = i3
ph p_y p_y = i0
ph p_y p_z = i1
ph p_z p_i = i0
ph p_z p_x = i1
ph p_z p_y = i3
ph p_z p_z = i0

-- ---- strings

pub record Str : Type 0 where
  pub phase : Phase
  pub at : ℕ → Pauli

-- a phase in front
abbrev pub times : Phase → Str → Str
times k s = record { phase = k ⊕ s.phase; at = s.at }

-- a sign in front
abbrev pub signed : Bool → Str → Str
signed b s = times (sgn b) s

-- what the Paulis of the first n modes give to the product's phase
unfoldable pub phases : ℕ → (ℕ → Pauli) → (ℕ → Pauli) → Phase
phases zero f g = i0
phases (suc n) f g = phases n f g ⊕ ph (f n) (g n)

-- the product of two operators on n modes
abbrev pub mul : ℕ → Str → Str → Str
mul n s t = record { phase = s.phase ⊕ t.phase ⊕ phases n s.at t.at; at = λ w. pr (s.at w) (t.at w) }

-- the identity
abbrev pub identity : Str
identity = record { phase = i0; at = λ w. p_i }

-- ---- the value in the vacuum

pub data Value : Type 0 where
  nought plus minus : Value

-- with the other sign, if b
abbrev pub turn : Bool → Value → Value
turn false v = v
turn true nought = nought
turn true plus = minus
turn true minus = plus

-- 0.0, 1.0, -1.0
abbrev pub float : Value → Float
float nought = +0
float plus = +1
float minus = fin true 1 (pos 0)

abbrev pub real : Phase → Value
real i0 = plus
real i1 = nought
real i2 = minus
real i3 = nought

-- X and Y turn |0> into |1>, up to a phase; I and Z leave it
abbrev pub flips : Pauli → Bool
flips p_i = false
flips p_x = true
flips p_y = true
flips p_z = false

-- none of the first n modes is turned
unfoldable pub still : ℕ → (ℕ → Pauli) → Bool
still zero f = true
still (suc n) f = still n f && not (flips (f n))

-- the real part of <0..0| s |0..0>, on n modes: a string that turns a mode has none, and any other is its phase
unfoldable pub expectation : ℕ → Str → Value
expectation n s = cond (still n s.at) (real s.phase) nought
