-- What the judge of the questions 10 to 15 says, as a verdict: the number of the question whose answer is no, or 0. Definitions only.
-- Only inner functions rest on this.
use Rattle.std.specs.Prelude.{◌≡◌, ℕ, ◌<◌, Result, Ok, Err}
use Rattle.detect.specs.declared.refusal.Refusal.{Refusal}
use Rattle.detect.specs.Told.{question_of, offset_of}

-- the refusal of a later question has no place
abbrev pub Says : Result Unit Refusal → ℕ → Type 0
Says (Ok _) verdict = verdict ≡ 0
Says (Err why) verdict = (question_of why ≡ verdict) × (0 < verdict) × (offset_of why ≡ 0)
