-- Monomial matrices: one entry in each row and column, a phase. The gates of a register tape and their products are such. A float matrix "has" these
-- entries whatever the signs of its zeros. Assumes nothing. A public promise rests on this.
use Rattle.std.specs.Prelude.{◌≡◌, Bool, true, false, not, cond, ◌&&◌, ℤ, pos}
use Rattle.laws.specs.Dyadic.{Dy}
use Rattle.laws.specs.Phase.{Phase, i0, i2, ◌⊕◌, minus, real_z, imag_z}
use Rattle.gate.specs.declared.complex.Complex.{Complex}
use Rattle.gate.specs.declared.matrix.Mat2.{Mat2}
use Rattle.gate.specs.declared.matrix.Mat4.{Mat4}
use Rattle.monomial.specs.Groups.{Two, two, Four, four, Mat2Of, Mat4Of}

-- ---- entries

-- 0, a phase, or nothing known
pub data Entry : Type 0 where
  none any : Entry
  unit : Phase → Entry

-- the parts of c are the whole numbers z and w; a zero has either sign
abbrev pub Parts : ℤ → ℤ → Complex → Type 0
Parts z w c = Dy 0 z c.re × Dy 0 w c.im

abbrev pub IsEntry : Complex → Entry → Type 0
IsEntry c none = Parts (pos 0) (pos 0) c
IsEntry c (unit k) = Parts (real_z k) (imag_z k) c
IsEntry c any = Unit {0}

-- ---- bits

-- x, turned if b
abbrev pub flip : Bool → Bool → Bool
flip false x = x
flip true x = not x

-- ---- one qubit

-- the bit is turned or not, and the phase of each row
pub record Mono2 : Type 0 where
  pub turn : Bool
  pub phases : Two Phase

-- a row with its entry in the column of the bit x
abbrev pub place2 : Bool → Phase → Two Entry
place2 false k = two (unit k) none
place2 true k = two none (unit k)

abbrev pub entries2 : Bool → Two Phase → Two (Two Entry)
entries2 f (two k l) = two (place2 (flip f false) k) (place2 (flip f true) l)

-- u has the entries of b
abbrev pub Has2 : Mat2 → Mono2 → Type 0
Has2 u b = Mat2Of IsEntry u (entries2 b.turn b.phases)

-- ---- two qubits

-- the bits are exchanged or not, then each is turned or not; and the phase of each row
pub record Mono4 : Type 0 where
  pub swap : Bool
  pub turn_a : Bool
  pub turn_b : Bool
  pub phases : Four Phase

-- the bits after, of the bits x y before
abbrev pub bit_a : Mono4 → Bool → Bool → Bool
bit_a b x y = flip b.turn_a (cond b.swap y x)

abbrev pub bit_b : Mono4 → Bool → Bool → Bool
bit_b b x y = flip b.turn_b (cond b.swap x y)

-- a row with its entry in the column of the bits x y
abbrev pub place4 : Bool → Bool → Phase → Four Entry
place4 false false k = four (unit k) none none none
place4 false true k = four none (unit k) none none
place4 true false k = four none none (unit k) none
place4 true true k = four none none none (unit k)

-- the row of the bits x y after: its entry is in the column of the bits before
abbrev pub row_of : Bool → Bool → Bool → Bool → Bool → Phase → Four Entry
row_of false f g x y k = place4 (flip f x) (flip g y) k
row_of true f g x y k = place4 (flip g y) (flip f x) k

abbrev pub entries4 : Bool → Bool → Bool → Four Phase → Four (Four Entry)
entries4 s f g (four k l m n) = four (row_of s f g false false k) (row_of s f g false true l) (row_of s f g true false m) (row_of s f g true true n)

abbrev pub entries_of : Mono4 → Four (Four Entry)
entries_of b = entries4 b.swap b.turn_a b.turn_b b.phases

-- u has the entries of b
abbrev pub Has4 : Mat4 → Mono4 → Type 0
Has4 u b = Mat4Of IsEntry u (entries_of b)

-- the block is diagonal: no bit moves
abbrev pub diagonal : Mono4 → Bool
diagonal b = not b.swap && (not b.turn_a && not b.turn_b)

-- ---- the phase of the two together

-- w = (d0 d3) conj(d1 d2)
abbrev pub w_of : Four Phase → Phase
w_of (four k l m n) = (k ⊕ n) ⊕ minus (l ⊕ m)

-- the w of a matchgate: 1 without the exchange, -1 with it
abbrev pub matchgate_phase : Bool → Phase
matchgate_phase false = i0
matchgate_phase true = i2

-- b is a matchgate; or it is one after an exchange. An even sum of phases, that is w = 1 or w = -1, means one of the two
abbrev pub IsMatchgate : Mono4 → Type 0
IsMatchgate b = w_of b.phases ≡ matchgate_phase b.swap

abbrev pub SwappedMatchgate : Mono4 → Type 0
SwappedMatchgate b = w_of b.phases ≡ matchgate_phase (not b.swap)
