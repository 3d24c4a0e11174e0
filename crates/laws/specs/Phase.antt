-- Phases: k stands for i ^ k. Their sum is the product of the powers, `minus` the conjugate; the parts of i ^ k are whole numbers. Assumes nothing.
-- A public promise rests on this.
use Rattle.std.specs.Prelude.{Bool, true, false, ℤ, pos, negsuc}

pub data Phase : Type 0 where
  i0 i1 i2 i3 : Phase

-- times i
abbrev pub next : Phase → Phase
next i0 = i1
next i1 = i2
next i2 = i3
next i3 = i0

infixl 65 ◌⊕◌
-- the product of two phases: the exponents add up
abbrev pub ◌⊕◌ : Phase → Phase → Phase
i0 ⊕ l = l
i1 ⊕ l = next l
i2 ⊕ l = next (next l)
i3 ⊕ l = next (next (next l))

abbrev pub minus : Phase → Phase
minus i0 = i0
minus i1 = i3
minus i2 = i2
minus i3 = i1

abbrev pub is_odd : Phase → Bool
is_odd i0 = false
is_odd i1 = true
is_odd i2 = false
is_odd i3 = true

-- i ^ k is real_z k + i imag_z k
abbrev pub real_z : Phase → ℤ
real_z i0 = pos 1
real_z i1 = pos 0
real_z i2 = negsuc 0
real_z i3 = pos 0

abbrev pub imag_z : Phase → ℤ
imag_z i0 = pos 0
imag_z i1 = pos 1
imag_z i2 = pos 0
imag_z i3 = negsuc 0
