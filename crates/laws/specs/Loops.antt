-- How far a loop over the entries of a matrix has come. Each entry has its turn, which a key gives: by row, by column, or both at once.
-- A loop's invariant is that the entries whose turn has been are new, and the others old. Assumes nothing. Only inner functions rest on this.
use Rattle.std.specs.Prelude.{Bool, cond, ℕ, ◌/◌, eqb, ltb}
use Rattle.laws.specs.Matrix.{Mat}

-- new where the key is below n, old elsewhere
unfoldable pub up_to : (ℕ → ℕ → ℕ) → ℕ → Mat → Mat → Mat
up_to key n new old r c = cond (ltb (key r c) n) (new r c) (old r c)

-- turn n makes row n
abbrev pub by_row : ℕ → ℕ → ℕ
by_row r c = r

-- turn n makes column n
abbrev pub by_col : ℕ → ℕ → ℕ
by_col r c = c

-- turn n makes the entries (i, n) and (n, i)
abbrev pub by_cross : ℕ → ℕ → ℕ → ℕ
by_cross i r c = cond (eqb r i) c r

-- turn n makes the columns 2 n and 2 n + 1 of the rows that `own` says, and all of the other rows 2 n and 2 n + 1
abbrev pub by_pairs : (ℕ → Bool) → ℕ → ℕ → ℕ
by_pairs own r c = cond (own r) (c / 2) (r / 2)
