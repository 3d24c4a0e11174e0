-- What stands where among the floats of a record, counted from its first: in code RESIDUAL, KEPT, FIRST_TAIL and SECOND_TAIL. Assumes nothing.
-- Only inner functions rest on this.
use Rattle.std.specs.Prelude.{List, ℕ, ◌+◌, ◌*◌, ◌≤◌, length, Float}
use Rattle.work.specs.Sizes.{record_floats}

-- ---- places

-- where the floats of record i begin
abbrev pub record_at : ℕ → ℕ
record_at i = record_floats * i

-- float r of record i
abbrev pub float_place : ℕ → ℕ → ℕ
float_place i r = record_at i + r

-- the floats of the first m records are there
abbrev pub Floats : List Float → ℕ → Type 0
Floats xs m = record_floats * m ≤ length xs

-- those of record i are
abbrev pub FloatsAt : List Float → ℕ → Type 0
FloatsAt xs i = float_place i record_floats ≤ length xs

-- ---- what stands there

-- the floats of a row: a 2 by 2 matrix
abbrev pub row_floats : ℕ
row_floats = 8

-- the matrix of a gate, a block or an item has the first floats, a 2 by 2 one the first row of them
abbrev pub matrix_floats : ℕ
matrix_floats = 32

-- the residual of an item on two wires stands after its matrix
abbrev pub residual_place : ℕ
residual_place = 32

-- an item is read from the floats before this one
abbrev pub item_end : ℕ
item_end = 33

-- the operation of a matchgate, from the count of the items until it is written
abbrev pub kept_row : ℕ
kept_row = 40

-- while a block is resolved: in record t what cut t of its first tail takes, and of its second
abbrev pub first_tail : ℕ
first_tail = 40

abbrev pub second_tail : ℕ
second_tail = 48
