-- The Majorana operators by Jordan-Wigner, two to a mode: Z on the modes before, and X or Y on its own. The covariance's entry (r, c) is the value of
-- -i times the r-th and the c-th; Z of a mode is such a product too. Assumes nothing. A public promise rests on this.
use Rattle.std.specs.Prelude.{◌≡◌, Bool, true, false, cond, List, [], ◌∷◌, ℕ, ◌/◌, ◌%◌, ◌<◌, eqb, ltb, get_or, length}
use Rattle.std.specs.Bool.{xor}
use Rattle.laws.specs.Phase.{i0, i3}
use Rattle.signs.specs.Paulis.{Pauli, p_i, p_x, p_y, p_z, sgn, Str, times, mul}
use Rattle.signs.specs.Blocks.{One, Two, front₁, front, Block₁, Block}

abbrev pub xy : Bool → Pauli
xy false = p_x
xy true = p_y

-- of mode j: the first, or the second if b
abbrev pub major : ℕ → Bool → Str
major j b = record { phase = i0; at = λ w. cond (ltb w j) p_z (cond (eqb w j) (xy b) p_i) }

-- by number: 2j and 2j + 1 are those of mode j
abbrev pub gamma : ℕ → Str
gamma a = major (a / 2) (eqb (a % 2) 1)

-- -i times the product of the operators x and y, on n modes
abbrev pub paired : ℕ → Str → Str → Str
paired n x y = times i3 (mul n x y)

-- Z on each of the listed modes; twice is not at all
abbrev pub listed : List ℕ → ℕ → Bool
listed [] w = false
listed (j ∷ js) w = xor (eqb w j) (listed js w)

abbrev pub zs : List ℕ → Str
zs js = record { phase = i0; at = λ w. cond (listed js w) p_z p_i }

-- the listed modes are below n, and no two are equal
pub record DistinctModes (n : ℕ) (js : List ℕ) : Type 0 where
  pub below : (i : ℕ) → i < length js → get_or js i 0 < n
  pub different : (i j : ℕ) → i < length js → j < length js → get_or js i 0 ≡ get_or js j 0 → i ≡ j

-- ---- signed permutations: where a block sends the two Majorana operators of its mode, or the four of its two modes

-- X and Y; here the Z of the modes before is left out
abbrev pub maj₁ : Bool → One
maj₁ b = record { phase = i0; at = xy b }

pub data Four : Type 0 where
  c0 c1 c2 c3 : Four

-- X I, Y I, Z X, Z Y
abbrev pub maj : Four → Two
maj c0 = record { phase = i0; first = p_x; second = p_i }
maj c1 = record { phase = i0; first = p_y; second = p_i }
maj c2 = record { phase = i0; first = p_z; second = p_x }
maj c3 = record { phase = i0; first = p_z; second = p_y }

abbrev pub num₁ : Bool → ℕ
num₁ false = 0
num₁ true = 1

abbrev pub num : Four → ℕ
num c0 = 0
num c1 = 1
num c2 = 2
num c3 = 3

-- a row of a signed permutation: 1, or -1 if `minus`, in column `col`
pub record Row (C : Type 0) : Type 0 where
  pub minus : Bool
  pub col : C

-- the operator that the row stands for
abbrev pub image₁ : Row Bool → One
image₁ r = front₁ (sgn r.minus) (maj₁ r.col)

abbrev pub image : Row Four → Two
image r = front (sgn r.minus) (maj r.col)

-- a block sends its Majorana operators by these rows
abbrev pub Sends₁ : Block₁ → (Bool → Row Bool) → Type 0
Sends₁ g rows = (c : Bool) → g.to (maj₁ c).at ≡ image₁ (rows c)

abbrev pub Sends : Block → (Four → Row Four) → Type 0
Sends g rows = (c : Four) → g.to (maj c).first (maj c).second ≡ image (rows c)
