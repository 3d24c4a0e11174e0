-- Blocks from tables: a table of images that respects all products, by one computed test, is a block; and rows make the map of an operation. Three of
-- them for the worked rows: X on a mode, X on the first of two modes, and the rotation of two modes that Cnot, Sx, Cnot is. Assumes nothing.
use mathlib.Core.Path.{◌≡◌, refl}
use mathlib.Core.Bool.{Bool, true, false, xor, cond}
use Prim.Native.Nat.{ℕ, zero, suc, ◌<◌}
use native.Mathlib.Omega.{arith}
use lib.Dec.{T}
use lib.Ieee.{Float}
use Rattle.laws.specs.Zeros.{nz}
use Rattle.laws.specs.Phase.{i0, i1, ◌⊕◌}
use Rattle.real.specs.Maps.{entry2, entry4}
use Rattle.real.specs.declared.maps.Real2.{Real2}
use Rattle.real.specs.declared.maps.Map2.{Map2}
use Rattle.real.specs.declared.maps.Real4.{Real4}
use Rattle.real.specs.declared.maps.Map4.{Map4}
use Rattle.signs.specs.Paulis.{sgn, Pauli, p_i, p_x, p_y, p_z, pr, ph}
use Rattle.signs.specs.Blocks.{One, Two, ◌·₁◌, ◌·◌, front₁, front, Block₁, Block}
use Rattle.signs.specs.Majoranas.{Four, c0, c1, c2, c3, num₁, num, Row, Sends₁, Sends}
use Rattle.signs.specs.Circuits.{unit_row, Maps₁, Maps, BlockOp, one, two}
use Rattle.signs.proofs.Tables.{all2, all2→, all4, all4→}
use Rattle.signs.proofs.Permutations.{row, same_one, same-one, same_two, same-two}

-- ---- tables that are blocks

abbrev pub keeps₁ : (Pauli → One) → Pauli → Pauli → Bool
keeps₁ f p q = same_one (front₁ (ph p q) (f (pr p q))) (f p ·₁ f q)

abbrev pub keeps : (Pauli → Pauli → Two) → Pauli → Pauli → Pauli → Pauli → Bool
keeps f p q r s = same_two (front (ph p r ⊕ ph q s) (f (pr p r) (pr q s))) (f p q · f r s)

unfoldable pub block_of₁ : (f : Pauli → One) → T (all2 (keeps₁ f)) → Block₁
block_of₁ f h = record { to = f; hom = λ p q. same-one (front₁ (ph p q) (f (pr p q))) (f p ·₁ f q) (all2→ (keeps₁ f) h p q) }

unfoldable pub block_of : (f : Pauli → Pauli → Two) → T (all4 (keeps f)) → Block
block_of f h = record { to = f; hom = λ p q r s. same-two (front (ph p r ⊕ ph q s) (f (pr p r) (pr q s))) (f p q · f r s) (all4→ (keeps f) h p q r s) }

-- ---- maps from rows

unfoldable pub map₁ : (Bool → Row Bool) → Map2
map₁ rows = record { r0 = line (rows false); r1 = line (rows true) }
  where
    line : Row Bool → Real2
    line r = record { x0 = unit_row num₁ r 0; x1 = unit_row num₁ r 1 }

unfoldable pub map : (Four → Row Four) → Map4
map rows = record { r0 = line (rows c0); r1 = line (rows c1); r2 = line (rows c2); r3 = line (rows c3) }
  where
    line : Row Four → Real4
    line r = record { x0 = unit_row num r 0; x1 = unit_row num r 1; x2 = unit_row num r 2; x3 = unit_row num r 3 }

pub maps₁ : (g : Block₁) (rows : Bool → Row Bool) → Sends₁ g rows → Maps₁ g (map₁ rows)
unfolding map₁
maps₁ g rows h = record { rows = rows; sends = h; entries = entries }
  where
    entries : (c : Bool) (j : ℕ) → j < 2 → nz (entry2 (map₁ rows) (num₁ c) j) ≡ nz (unit_row num₁ (rows c) j)
    entries false zero l = refl
    entries false (suc zero) l = refl
    entries false (suc (suc j)) l = absurd (omega arith)
    entries true zero l = refl
    entries true (suc zero) l = refl
    entries true (suc (suc j)) l = absurd (omega arith)

pub maps : (g : Block) (rows : Four → Row Four) → Sends g rows → Maps g (map rows)
unfolding map
maps g rows h = record { rows = rows; sends = h; entries = entries }
  where
    line : Row Four → ℕ → Float
    line r j = entry4 (map (λ c. r)) 0 j

    each : (r : Row Four) (j : ℕ) → j < 4 → nz (line r j) ≡ nz (unit_row num r j)
    each r zero l = refl
    each r (suc zero) l = refl
    each r (suc (suc zero)) l = refl
    each r (suc (suc (suc zero))) l = refl
    each r (suc (suc (suc (suc j)))) l = absurd (omega arith)

    entries : (c : Four) (j : ℕ) → j < 4 → nz (entry4 (map rows) (num c) j) ≡ nz (unit_row num (rows c) j)
    entries c0 j l = each (rows c0) j l
    entries c1 j l = each (rows c1) j l
    entries c2 j l = each (rows c2) j l
    entries c3 j l = each (rows c3) j l

-- ---- X, and the rotation of a pair

-- p anticommutes with X
abbrev pub clashes : Pauli → Bool
clashes p_i = false
clashes p_x = false
clashes p_y = true
clashes p_z = true

-- X p X
abbrev pub x_table₁ : Pauli → One
x_table₁ p = record { phase = sgn (clashes p); at = p }

abbrev pub x_table : Pauli → Pauli → Two
x_table p q = record { phase = sgn (clashes p); first = p; second = q }

-- i X X p q where p q anticommutes with X X, else p q
abbrev pub r_table : Pauli → Pauli → Two
r_table p q =
    let own : Two = record { phase = i0; first = p; second = q } in
    cond (xor (clashes p) (clashes q)) (record { phase = i1; first = p_x; second = p_x } · own) own

unfoldable pub x_block₁ : Block₁
x_block₁ = block_of₁ x_table₁ tt

unfoldable pub x_block : Block
x_block = block_of x_table tt

unfoldable pub r_block : Block
unfolding xor
r_block = block_of r_table tt

-- the test is none that always passes: X and Y exchanged, with no sign, is no block
abbrev exchanged_xy : Pauli → One
exchanged_xy p_i = record { phase = i0; at = p_i }
exchanged_xy p_x = record { phase = i0; at = p_y }
exchanged_xy p_y = record { phase = i0; at = p_x }
exchanged_xy p_z = record { phase = i0; at = p_z }

no_block : all2 (keeps₁ exchanged_xy) ≡ false
no_block = refl

-- ---- as items

abbrev pub x_rows₁ : Bool → Row Bool
x_rows₁ false = row false false
x_rows₁ true = row true true

abbrev pub x_rows : Four → Row Four
x_rows c0 = row false c0
x_rows c1 = row true c1
x_rows c2 = row true c2
x_rows c3 = row true c3

abbrev pub r_rows : Four → Row Four
r_rows c0 = row false c0
r_rows c1 = row true c2
r_rows c2 = row false c1
r_rows c3 = row false c3

pub x-sends₁ : Sends₁ x_block₁ x_rows₁
unfolding x_block₁ block_of₁
x-sends₁ false = refl
x-sends₁ true = refl

pub x-sends : Sends x_block x_rows
unfolding x_block block_of
x-sends c0 = refl
x-sends c1 = refl
x-sends c2 = refl
x-sends c3 = refl

pub r-sends : Sends r_block r_rows
unfolding r_block block_of
r-sends c0 = refl
r-sends c1 = refl
r-sends c2 = refl
r-sends c3 = refl

-- X on mode k
unfoldable pub X : ℕ → BlockOp
X k = one k x_block₁ (map₁ x_rows₁) (maps₁ x_block₁ x_rows₁ x-sends₁)

-- X on mode k, as an operation on the modes k and k + 1
unfoldable pub XI : ℕ → BlockOp
XI k = two k x_block (map x_rows) (maps x_block x_rows x-sends)

-- the rotation of the modes k and k + 1
unfoldable pub R : ℕ → BlockOp
R k = two k r_block (map r_rows) (maps r_block r_rows r-sends)
