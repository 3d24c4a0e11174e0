-- What the code's answers say, in the words of the definitions: a report is an answer that is done, a refusal the number and the place of its question.
-- The map is total, and no two answers are told alike (proofs/Apart.antt). Assumes nothing. A public promise rests on this.
use Rattle.std.specs.Prelude.{◌≡◌, ◌⊎◌, cond, ℕ, List, Float, Result, Ok, Err}
use Rattle.gate.specs.Complex.{f0}
use Rattle.work.specs.Sizes.{work_floats, work_marks}
use Rattle.tape.specs.Parse.{Content}
use Rattle.tape.specs.Told as tape
use Rattle.tape.specs.declared.header.Header.{Header}
use Rattle.detect.specs.declared.refusal.Refusal.{Refusal}
use Rattle.detect.specs.declared.refusal.Refusal.TheVariants.{Tape, SmallWork, SmallOperations, NoOrder, BadBlocks, Interactions, OverLimit, SmallState}
use Rattle.detect.specs.declared.report.Report.{Report}
use Rattle.detect.specs.declared.told.Told as struct
use Rattle.detect.specs.Answers.{Compiled, refusal, done, number_of, place_of}
use Rattle.detect.specs.Compile.{reported_of}
use Rattle.detect.specs.Questions.{Asked, late, passed, answer_of, work_after, ops_after, ops_lack}

-- the question whose answer is no
abbrev pub question_of : Refusal → ℕ
question_of (Tape fault) = tape.number_of fault
question_of SmallWork = 9
question_of SmallOperations = 10
question_of NoOrder = 11
question_of BadBlocks = 12
question_of Interactions = 13
question_of OverLimit = 14
question_of SmallState = 15

-- the record's offset for 4 to 8, else 0
abbrev pub offset_of : Refusal → ℕ
offset_of (Tape fault) = tape.place_of fault
offset_of SmallWork = 0
offset_of SmallOperations = 0
offset_of NoOrder = 0
offset_of BadBlocks = 0
offset_of Interactions = 0
offset_of OverLimit = 0
offset_of SmallState = 0

abbrev pub told : Result Report Refusal → Compiled
told (Ok r) = done r
told (Err why) = refusal (question_of why) (offset_of why)

-- as plain numbers
abbrev pub numbers : Compiled → struct.Told
numbers c = record { number = number_of c.answer; place = place_of c.answer; report = c.report }

-- ---- a judge of the report, who asks the questions after 9

-- what the questions come to by what the judge says
abbrev pub Judged : Result Unit Refusal → Header → Content → Asked → Type 0
Judged (Ok _) h c x = x ≡ passed h c
Judged (Err why) h c x = (x ≡ late (question_of why) h c) × (offset_of why ≡ 0)

-- the questions up to 9 have yes for an answer
abbrev pub AfterNine : Asked → Header → Content → Type 0
AfterNine x h c = (x ≡ passed h c) ⊎ ((number : ℕ) × (x ≡ late number h c))

-- a judge of whom `says` holds: of a header, a report and what may be said of them
abbrev pub Judge : Type 1
Judge = Header → Report → Result Unit Refusal → Type 0

-- whatever the judge says of the tape's report is x
abbrev pub JudgedAs : Judge → Header → Content → Asked → Type 0
JudgedAs says h c x = (v : Result Unit Refusal) → says h (reported_of h c.gates) v → Judged v h c x

-- what the judge says is what `next` asks
abbrev pub Judges : Judge → (Header → Content → Asked) → Type 0
Judges says next = (h : Header) (c : Content) → JudgedAs says h c (next h c)

-- question 10, of room for so many places and operations
abbrev pub ten_of : ℕ → ℕ → Result Unit Refusal
ten_of room operations = cond (ops_lack room operations) (Err SmallOperations) (Ok tt)

-- the questions came to x: what is told, and what is left in each slice
pub record Leaves (x : Asked) (c : Compiled) (work work' : List Float) (marks marks' : List ℕ) (ops ops' : List Float) : Type 0 where
  pub answer : c ≡ answer_of x
  pub floats : work' ≡ work_after work_floats f0 x work
  pub numbers : marks' ≡ work_after work_marks 0 x marks
  pub program : ops' ≡ ops_after x ops
