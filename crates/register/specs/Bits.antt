-- What gates do to bits: a matrix that has one entry in each row and column takes basis states to basis states. The bits after are read from the
-- column of the bits before, and a run of events or items turns and exchanges the bits of slots or wires. Assumes nothing.
-- Only inner functions rest on this.
use Rattle.std.specs.Prelude.{refl, Bool, true, false, ◌&&◌, List, [], ◌∷◌, ℕ}
use Rattle.laws.specs.Tables.{update}
use Rattle.gate.specs.Complex.{is_zero_of}
use Rattle.gate.specs.declared.complex.Complex.{Complex}
use Rattle.gate.specs.declared.matrix.Row2.{Row2}
use Rattle.gate.specs.declared.matrix.Mat2.{Mat2}
use Rattle.gate.specs.declared.matrix.Row4.{Row4}
use Rattle.gate.specs.declared.matrix.Mat4.{Mat4}
use Rattle.fuse.specs.Events as Events
use Rattle.fuse.specs.Events.{Event}
use Rattle.resolve.specs.Items.{Item, one, two, opaque}
use Rattle.register.specs.Runs.{Monoid}

-- ---- matrices

-- the entry of a row in the column of the bit x, or of the bits x y
abbrev pub column2 : Row2 → Bool → Complex
column2 r false = r.c0
column2 r true = r.c1

abbrev pub column4 : Row4 → Bool → Bool → Complex
column4 r false false = r.c0
column4 r false true = r.c1
column4 r true false = r.c2
column4 r true true = r.c3

-- the bit after: it is set where the column has nothing in the row of the bit 0
unfoldable pub turned_of : Mat2 → Bool → Bool
turned_of m x = is_zero_of (column2 m.r0 x)

-- the first bit after: it is set where the column has nothing in the rows of the bits 0 0 and 0 1
unfoldable pub first_of : Mat4 → Bool → Bool → Bool
first_of u x y = is_zero_of (column4 u.r0 x y) && is_zero_of (column4 u.r1 x y)

-- the second: 0 0 and 1 0
unfoldable pub second_of : Mat4 → Bool → Bool → Bool
second_of u x y = is_zero_of (column4 u.r0 x y) && is_zero_of (column4 u.r2 x y)

-- ---- gates on slots or wires

abbrev pub turn1 : ℕ → Mat2 → (ℕ → Bool) → ℕ → Bool
turn1 w m bits = update w (turned_of m (bits w)) bits

abbrev pub turn2 : ℕ → ℕ → Mat4 → (ℕ → Bool) → ℕ → Bool
turn2 a b u bits = update a (first_of u (bits a) (bits b)) (update b (second_of u (bits a) (bits b)) bits)

-- ---- events

-- an opaque block has no place on a register tape
abbrev pub event_bits : Event → (ℕ → Bool) → ℕ → Bool
event_bits Events.gone bits = bits
event_bits (Events.one w m) bits = turn1 w m bits
event_bits (Events.two a b u) bits = turn2 a b u bits
event_bits (Events.three a b c) bits = bits

-- the newest first
unfoldable pub events_run : List Event → (ℕ → Bool) → ℕ → Bool
events_run [] bits = bits
events_run (e ∷ es) bits = event_bits e (events_run es bits)

-- the monoid of changes of bits, the later on the left
abbrev pub changes : Monoid
changes = record {
  M = (ℕ → Bool) → ℕ → Bool;
  unit = λ bits. bits;
  mul = λ f g bits. f (g bits);
  assoc = λ f g h. refl;
  left = λ f. refl;
  right = λ f. refl;
}

-- ---- items

-- an item acts by its matrix: of a two-qubit item that is v, what the run applies
abbrev pub item_bits : Item → (ℕ → Bool) → ℕ → Bool
item_bits (one w m) bits = turn1 w m bits
item_bits (two kind a b residual v) bits = turn2 a b v bits
item_bits opaque bits = bits

-- the newest first
unfoldable pub items_run : List Item → (ℕ → Bool) → ℕ → Bool
items_run [] bits = bits
items_run (x ∷ xs) bits = item_bits x (items_run xs bits)

-- all bits zero
abbrev pub zeros : ℕ → Bool
zeros w = false
