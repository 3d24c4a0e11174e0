-- What `compile` and `run` answer: the report, or the number and the place of the question whose answer is no. Assumes nothing.
-- A public promise rests on this.
use Rattle.std.specs.Prelude.{ℕ}
use Rattle.detect.specs.declared.report.Report.{Report}
use Rattle.detect.specs.Report.{no_report}

pub data Answer : Type 0 where
  Done : Answer
  -- the number and the place
  Refused : ℕ → ℕ → Answer

pub record Compiled : Type 0 where
  pub answer : Answer
  pub report : Report

-- the question whose answer is no, 0 if there is none
abbrev pub number_of : Answer → ℕ
number_of Done = 0
number_of (Refused number place) = number

abbrev pub place_of : Answer → ℕ
place_of Done = 0
place_of (Refused number place) = place

-- "A refusal's numbers are zero"
abbrev pub refusal : ℕ → ℕ → Compiled
refusal number place = record { answer = Answer.Refused number place; report = no_report }

abbrev pub done : Report → Compiled
done r = record { answer = Answer.Done; report = r }
