-- The marks of the lent work: a record of them for each gate and each slot. A column, which is the marks with one number in all records, is a table.
-- Assumes nothing. Only inner functions rest on this.
use Rattle.std.specs.Prelude.{◌≡◌, Bool, false, List, ℕ, ◌+◌, ◌*◌, ◌≤◌, ◌<◌, get_or, set, length}
use Rattle.work.specs.Sizes.{record_marks}

-- where mark c of record i stands
abbrev pub mark_place : ℕ → ℕ → ℕ
mark_place i c = record_marks * i + c

-- the mark there
unfoldable pub mark_at : List ℕ → ℕ → ℕ → ℕ
mark_at us i c = get_or us (mark_place i c) 0

-- v for it
unfoldable pub put_mark : List ℕ → ℕ → ℕ → ℕ → List ℕ
put_mark us i c v = set us (mark_place i c) v

-- the marks of two records in a column, exchanged
unfoldable pub exchanged_marks : List ℕ → ℕ → ℕ → ℕ → List ℕ
exchanged_marks us a b c = put_mark (put_mark us a c (mark_at us b c)) b c (mark_at us a c)

-- column c as a table
abbrev pub column : ℕ → List ℕ → ℕ → ℕ
column c us i = mark_at us i c

-- the marks of the first n records are there
abbrev pub Records : List ℕ → ℕ → Type 0
Records us n = record_marks * n ≤ length us

-- those of record i are
abbrev pub MarksAt : List ℕ → ℕ → Type 0
MarksAt us i = mark_place i record_marks ≤ length us

-- from us to vs only the columns that p names have changed
pub record Only (p : ℕ → Bool) (us vs : List ℕ) : Type 0 where
  pub size : length vs ≡ length us
  pub same : (i c : ℕ) → c < record_marks → p c ≡ false → mark_at vs i c ≡ mark_at us i c
