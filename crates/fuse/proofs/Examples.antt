-- Worked values of the definitions, by computation. Lists of events are the newest first. Assumes nothing.
use mathlib.Core.Path.{◌≡◌, refl}
use mathlib.Core.Bool.{true, false}
use mathlib.Core.List.{List, [], ◌∷◌, map}
use Prim.Native.Nat.{ℕ}
use lib.Ieee.{add, sub, mul, eq, of_bits}
use Rattle.laws.specs.Views.{until, from, up_from}
use Rattle.gate.specs.Complex.{is_zero_of}
use Rattle.gate.specs.Matrix.{mul2_of, dot2_of, mul4_of, kron_of, mat4_swap_qubits_of}
use Rattle.named.specs.Table.{gate_x, gate_z, gate_s, gate_cnot, gate_swap, gate_i_swap}
use Rattle.tape.specs.declared.gates.Gate.TheVariants.{One, Two}
use Rattle.fuse.specs.Events.{Event, gone, one, two, three, product}
use Rattle.fuse.specs.Relabel.{labelled, unlabelled}
use Rattle.fuse.specs.Fuse.{fused}
use Rattle.fuse.specs.Compress.{diagonal2_of, compressed}

-- an event without its matrix
abbrev shape : Event → List ℕ
shape gone = []
shape (one w m) = 1 ∷ w ∷ []
shape (two a b u) = 2 ∷ a ∷ b ∷ []
shape (three a b c) = 3 ∷ a ∷ b ∷ c ∷ []

-- ---- relabelling

-- a Swap renames: the X after it is on the other slot
renamed : labelled true (Two 0x12 0 1 gate_swap ∷ One 0x02 0 gate_x ∷ []) (unlabelled 2) ≡ record { lab = 1 ∷ 0 ∷ []; events = one 1 gate_x ∷ gone ∷ []; swaps = 1 }
unfolding labelled unlabelled up_from
renamed = refl

-- without the flag it is a gate, and so is the given matrix of a Swap with it
unflagged : labelled false (Two 0x12 0 1 gate_swap ∷ []) (unlabelled 2) ≡ record { lab = 0 ∷ 1 ∷ []; events = two 0 1 gate_swap ∷ []; swaps = 0 }
unfolding labelled unlabelled up_from
unflagged = refl

given : labelled true (Two 0x1f 0 1 gate_swap ∷ []) (unlabelled 2) ≡ record { lab = 0 ∷ 1 ∷ []; events = two 0 1 gate_swap ∷ []; swaps = 0 }
unfolding labelled unlabelled up_from
given = refl

-- ---- blocks

-- the pair named the other way round, with an X between: one block, its tails empty
joins : map shape (fused (two 1 0 gate_i_swap ∷ one 0 gate_x ∷ two 0 1 gate_i_swap ∷ [])) ≡ [] ∷ [] ∷ (2 ∷ 0 ∷ 1 ∷ []) ∷ []
unfolding fused until from
joins = refl

-- the gate is turned: Cnot with its qubits exchanged undoes Cnot on (1, 0)
turned : fused (two 1 0 gate_cnot ∷ two 0 1 (mat4_swap_qubits_of gate_cnot) ∷ [])
    ≡ gone ∷ two 0 1 (mul4_of (mat4_swap_qubits_of gate_cnot) (mul4_of (kron_of (product 0 []) (product 1 [])) (mat4_swap_qubits_of gate_cnot))) ∷ []
unfolding fused until from
turned = refl

-- a block on one of the slots between keeps them apart, and so does an opaque one
apart : map shape (fused (two 0 1 gate_i_swap ∷ two 1 2 gate_i_swap ∷ two 0 1 gate_i_swap ∷ [])) ≡ (2 ∷ 0 ∷ 1 ∷ []) ∷ (2 ∷ 1 ∷ 2 ∷ []) ∷ (2 ∷ 0 ∷ 1 ∷ []) ∷ []
unfolding fused until from
apart = refl

opaque : map shape (fused (two 0 1 gate_i_swap ∷ three 0 1 2 ∷ two 0 1 gate_i_swap ∷ [])) ≡ (2 ∷ 0 ∷ 1 ∷ []) ∷ (3 ∷ 0 ∷ 1 ∷ 2 ∷ []) ∷ (2 ∷ 0 ∷ 1 ∷ []) ∷ []
unfolding fused until from
opaque = refl

-- ---- runs

-- two S are one Z
two-s : compressed (one 0 gate_s ∷ one 0 gate_s ∷ []) ≡ gone ∷ one 0 gate_z ∷ []
unfolding compressed diagonal2_of is_zero_of mul2_of dot2_of until from add sub mul eq of_bits
two-s = refl

-- an X between keeps them
kept : compressed (one 0 gate_s ∷ one 0 gate_x ∷ one 0 gate_s ∷ []) ≡ one 0 gate_s ∷ one 0 gate_x ∷ one 0 gate_s ∷ []
unfolding compressed diagonal2_of is_zero_of until from eq of_bits
kept = refl
