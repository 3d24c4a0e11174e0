-- What a call of the library returns and writes. It returns the number of the question whose answer is no, 0 if there is none, and 99 where a slice
-- for the answer itself is too short: then nothing is read or written. Definitions only. A public promise rests on this.
use Rattle.std.specs.Prelude.{◌≡◌, Bool, cond, ◌&&◌, Option, Some, None, IfSome, List, ℕ, ◌+◌, ◌*◌, ◌-◌, ◌<◌, leb, length, set, Float}
use Rattle.laws.specs.Bounds.{max_qubits}
use Rattle.tape.specs.declared.labels.Span.{Span}
use Rattle.queries.specs.Answers.{Answered}

-- the slice for an answer is too short
abbrev pub no_room : ℕ
no_room = 99

-- ---- the state calls

-- slices of these lengths have a place for the place, one for the value and one for the row
unfoldable pub has_places : ℕ → ℕ → ℕ → Bool
has_places place answer row = leb 1 place && (leb 1 answer && leb 1 row)

-- a row as a word: 0 if there is none
abbrev pub row_word : Option ℕ → ℕ
row_word None = 0
row_word (Some k) = k + 1

-- a row is one of the modes' matrix, of all modes at most
abbrev pub RowFits : Option ℕ → Type 0
RowFits row = IfSome row (λ k. k < 2 * max_qubits)

-- x is told: its number is returned, its place, its value and its row are written; p, a and w are the slices before, p', a' and w' after
pub record Tells (x : Answered) (p : List ℕ) (a : List Float) (w : List ℕ) (r : ℕ) (p' : List ℕ) (a' : List Float) (w' : List ℕ) : Type 0 where
  pub number : r ≡ cond (has_places (length p) (length a) (length w)) x.told.number no_room
  pub place : p' ≡ cond (has_places (length p) (length a) (length w)) (set p 0 x.told.place) p
  pub value : a' ≡ cond (has_places (length p) (length a) (length w)) (set a 0 x.told.value) a
  pub row : w' ≡ cond (has_places (length p) (length a) (length w)) (set w 0 (row_word x.row)) w

-- ---- a label

-- offset and length of a part of the tape
unfoldable pub span_written : Span → List ℕ → List ℕ
span_written s l = set (set l 0 s.start) 1 (s.end - s.start)
