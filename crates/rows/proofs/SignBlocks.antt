-- The blocks that stand for the operations of the sign rows: the rotation R of two modes, and R after X on the first of them. What the strings say of the
-- parities is computed: Z of qubit 2, and of qubit 3, is -1. Assumes nothing.
use mathlib.Core.Path.{◌≡◌, refl, ap, ◌∙◌}
use mathlib.Core.Bool.{true, false, xor}
use mathlib.Core.List.{List, [], ◌∷◌, map}
use Prim.Native.Nat.{ℕ, ◌+◌, ◌≤◌, ◌<◌}
use native.Mathlib.Omega.{arith}
use lib.Dec.{lit<}
use lib.Ieee.{neg, of_bits}
use Rattle.laws.specs.Bounds.{max_qubits}
use Rattle.laws.specs.Phase.{◌⊕◌}
use Rattle.std.proofs.Common.{Some}
use Rattle.detect.specs.Operation.{places_of}
use Rattle.detect.specs.Operation as detect
use Rattle.state.specs.Operation.{decode_of}
use Rattle.state.specs.declared.operation.Operation.TheVariants.{Two}
use Rattle.signs.specs.Paulis.{sgn, Pauli, minus, still, expectation}
use Rattle.signs.specs.Blocks as Blocks
use Rattle.signs.specs.Blocks.{Block}
use Rattle.signs.specs.Majoranas.{Four, c0, c1, c2, c3, Row, Sends, zs}
use Rattle.signs.specs.Circuits.{BlockOp, two, operation, pulled}
use Rattle.signs.specs.Signs.{StandIn}
use Rattle.signs.proofs.Permutations.{row}
use Rattle.signs.proofs.Gates as gates
use Rattle.signs.proofs.Gates.{clashes, r_table, r_rows, r_block, block_of, maps, R}
use Rattle.evolve.proofs.Decoding.{decode-two}
use Rattle.gaussian.specs.Signs.{value_after}
use Rattle.rows.proofs.SignRow.{turn, turn_x, program, far_program}

-- ---- R after X on the first mode

-- X (R* (p q) R) X
abbrev xr_table : Pauli → Pauli → Blocks.Two
xr_table p q =
    let x = r_table p q in
    record { phase = sgn (clashes x.first) ⊕ x.phase; first = x.first; second = x.second }

unfoldable pub xr_block : Block
unfolding xor
xr_block = block_of xr_table tt

abbrev pub xr_rows : Four → Row Four
xr_rows c0 = row false c0
xr_rows c1 = row false c2
xr_rows c2 = row true c1
xr_rows c3 = row true c3

pub xr-sends : Sends xr_block xr_rows
unfolding xr_block block_of xor
xr-sends c0 = refl
xr-sends c1 = refl
xr-sends c2 = refl
xr-sends c3 = refl

unfoldable pub XR : ℕ → BlockOp
XR k = two k xr_block (gates.map xr_rows) (maps xr_block xr_rows xr-sends)

-- ---- the rows

abbrev pub blocks : List BlockOp
blocks = R 1 ∷ XR 0 ∷ R 1 ∷ []

abbrev pub far_blocks : List BlockOp
far_blocks = R 2 ∷ XR 0 ∷ R 1 ∷ R 2 ∷ []

-- their maps are those of the operations
maps-are : (turn ≡ gates.map r_rows) × (turn_x ≡ gates.map xr_rows)
unfolding gates.map neg of_bits
maps-are = (refl, refl)

module _ (n : ℕ) (few : n ≤ max_qubits) (k : ℕ) (l : k + 1 < n) where
  r-stands : decode_of n (places_of (detect.two k turn)) ≡ Some (operation (R k))
  unfolding R
  r-stands = decode-two n k turn l few ∙ ap (λ q. Some (Two k q)) maps-are.0

  xr-stands : decode_of n (places_of (detect.two k turn_x)) ≡ Some (operation (XR k))
  unfolding XR
  xr-stands = decode-two n k turn_x l few ∙ ap (λ q. Some (Two k q)) maps-are.1

pub stand : StandIn 3 blocks (map places_of program) × StandIn 4 far_blocks (map places_of far_program)
stand =
    let few : 3 ≤ max_qubits = omega arith in
    let four : 4 ≤ max_qubits = omega arith in (
      (r-stands 3 few 1 (lit< tt), (xr-stands 3 few 0 (lit< tt), (r-stands 3 few 1 (lit< tt), tt))),
      (r-stands 4 four 2 (lit< tt), (xr-stands 4 four 0 (lit< tt), (r-stands 4 four 1 (lit< tt), (r-stands 4 four 2 (lit< tt), tt)))),
    )

-- ---- what the strings say

pub say : (value_after 3 blocks (zs (2 ∷ [])) ≡ minus) × (value_after 4 far_blocks (zs (3 ∷ [])) ≡ minus)
unfolding expectation still pulled R XR r_block xr_block block_of xor
say = (refl, refl)
