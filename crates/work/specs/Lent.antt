-- The lent work as one value: what it holds, and for how many gates and slots. Assumes nothing. Only inner functions rest on this.
use Rattle.std.specs.Prelude.{◌≡◌, List, ℕ, ◌+◌, ◌<◌, Float}
use Rattle.work.specs.Rows.{Floats}
use Rattle.work.specs.Marks.{put_mark, Records}

-- g gates and n slots have their records
pub record Space (xs : List Float) (us : List ℕ) (g n : ℕ) : Type 0 where
  pub floats : Floats xs (g + n)
  pub marks : Records us (g + n)
  pub few : g + n < 65536

-- floats and marks, and how many gates and slots have records there, the gates' first
pub record Lent : Type 0 where
  pub floats : List Float
  pub marks : List ℕ
  pub gates : ℕ
  pub slots : ℕ

-- record i is there
abbrev pub Has : Lent → ℕ → Type 0
Has w i = i < w.gates + w.slots

-- the records are there
abbrev pub Whole : Lent → Type 0
Whole w = Space w.floats w.marks w.gates w.slots

-- other marks, other floats
abbrev pub with_marks : Lent → List ℕ → Lent
with_marks w us = record { floats = w.floats; marks = us; gates = w.gates; slots = w.slots }

abbrev pub with_floats : Lent → List Float → Lent
with_floats w xs = record { floats = xs; marks = w.marks; gates = w.gates; slots = w.slots }

-- one mark put
abbrev pub marked : Lent → ℕ → ℕ → ℕ → Lent
marked w i c v = with_marks w (put_mark w.marks i c v)

-- from w to v only the marks have changed
pub record MarksOnly (w v : Lent) : Type 0 where
  pub floats : v.floats ≡ w.floats
  pub gates : v.gates ≡ w.gates
  pub slots : v.slots ≡ w.slots

-- only the floats have
pub record FloatsOnly (w v : Lent) : Type 0 where
  pub marks : v.marks ≡ w.marks
  pub gates : v.gates ≡ w.gates
  pub slots : v.slots ≡ w.slots

-- the gates and the slots are as many
pub record SameSizes (w v : Lent) : Type 0 where
  pub gates : v.gates ≡ w.gates
  pub slots : v.slots ≡ w.slots
