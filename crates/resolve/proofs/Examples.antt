-- Worked values of the definitions, by computation: cuts of tails of 2 and 19 gates, a tail, remainders and an opaque block. Assumes nothing.
use mathlib.Core.Path.{◌≡◌, refl}
use mathlib.Core.Bool.{true}
use mathlib.Core.List.{[], ◌∷◌}
use lib.Ieee.{add, sub, mul, of_bits}
use Rattle.laws.specs.Views.{until, up_from}
use Rattle.gate.specs.Complex.{f0}
use Rattle.gate.specs.Matrix.{mul2_of, dot2_of}
use Rattle.named.specs.Table.{gate_x, gate_z, gate_i_swap}
use Rattle.fuse.specs.Events.{one, two, three}
use Rattle.resolve.specs.Items as Items
use Rattle.resolve.specs.Cuts.{ones, ahead, keep, cuts}
use Rattle.resolve.specs.Resolve.{resolved, with_rests, start_of}

short : cuts 2 ≡ 0 ∷ 1 ∷ 2 ∷ []
unfolding cuts keep up_from
short = refl

-- "the cut window of 8": the cuts 9 and 10 of 19 gates are not tried
long : cuts 19 ≡ 0 ∷ 1 ∷ 2 ∷ 3 ∷ 4 ∷ 5 ∷ 6 ∷ 7 ∷ 8 ∷ 11 ∷ 12 ∷ 13 ∷ 14 ∷ 15 ∷ 16 ∷ 17 ∷ 18 ∷ 19 ∷ []
unfolding cuts keep up_from
long = refl

-- the tail on slot 0 ends at the next block on it
tail : ahead 0 (one 0 gate_x ∷ one 1 gate_x ∷ two 1 2 gate_i_swap ∷ one 0 gate_z ∷ two 0 1 gate_i_swap ∷ one 0 gate_x ∷ []) ≡ gate_x ∷ gate_z ∷ []
unfolding ahead ones until
tail = refl

-- X alone is an item on its wire
alone : with_rests (resolved true f0 (one 0 gate_x ∷ []) (start_of 1 0)) 1 ≡ Items.one 0 gate_x ∷ []
unfolding with_rests resolved start_of up_from mul2_of dot2_of add sub mul of_bits
alone = refl

-- an opaque block takes what is before it on its slots; what is after it stays
opaque : with_rests (resolved true f0 (one 0 gate_x ∷ three 0 1 2 ∷ one 1 gate_x ∷ []) (start_of 3 0)) 3 ≡ Items.one 1 gate_x ∷ Items.opaque ∷ []
unfolding with_rests resolved start_of up_from mul2_of dot2_of add sub mul of_bits
opaque = refl
