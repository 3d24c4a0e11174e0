-- The register on small tapes, by computing: document 01's printed example, Y and Swap. Assumes nothing.
use mathlib.Core.Path.{◌≡◌, refl}
use mathlib.Core.Bool.{true, false}
use mathlib.Core.List.{List, [], ◌∷◌}
use Rattle.named.specs.Table.{gate_x, gate_y, gate_z, gate_swap, gate_i_swap}
use Rattle.tape.specs.declared.gates.Gate.{Gate}
use Rattle.tape.specs.declared.gates.Gate.TheVariants.{One, Two}
use Rattle.register.specs.Register.{register_from, register_bits}

-- X on 0, then ISwap on 0 and 1: "q0 1000000", "q1 -1000000"
abbrev printed : List Gate
printed = One 0x02 0 gate_x ∷ Two 0x13 0 1 gate_i_swap ∷ []

printed-0 : register_bits printed 0 ≡ false
unfolding register_bits register_from
printed-0 = refl

printed-1 : register_bits printed 1 ≡ true
unfolding register_bits register_from
printed-1 = refl

-- Y on 1, Z on 1, Swap of 1 and 2, X on 2, Swap of 2 and 0: all bits are 0 again; X on 0 sets one
abbrev longer : List Gate
longer = One 0x03 1 gate_y ∷ One 0x04 1 gate_z ∷ Two 0x12 1 2 gate_swap ∷ One 0x02 2 gate_x ∷ Two 0x12 2 0 gate_swap ∷ One 0x02 0 gate_x ∷ []

longer-bits : (register_bits longer 0 ≡ true) × (register_bits longer 1 ≡ false) × (register_bits longer 2 ≡ false)
unfolding register_bits register_from
longer-bits = (refl, refl, refl)
