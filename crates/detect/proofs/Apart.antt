-- No two answers are told alike: each is read back from what is told of it. Assumes nothing.
use mathlib.Core.Path.{◌≡◌, refl, sym, ap, ◌∙◌}
use mathlib.Core.Bool.{cond}
use Prim.Native.Nat.{ℕ}
use lib.Dec.{eqb}
use Rattle.std.specs.Prelude.{Result, Ok, Err}
use Rattle.tape.specs.declared.fault.Fault.TheVariants as Fault
use Rattle.detect.specs.declared.refusal.Refusal.{Refusal}
use Rattle.detect.specs.declared.refusal.Refusal.TheVariants.{Tape, SmallWork, SmallOperations, NoOrder, BadBlocks, Interactions, OverLimit, SmallState}
use Rattle.detect.specs.declared.report.Report.{Report}
use Rattle.detect.specs.Answers.{Answer, Compiled}
use Rattle.detect.specs.Told.{question_of, offset_of, told}

-- the refusal of this number at this place
refusal_by : ℕ → ℕ → Refusal
refusal_by number place =
    cond (eqb number 1) (Tape Fault.NoHeader)
    (cond (eqb number 2) (Tape Fault.BadHeader)
    (cond (eqb number 3) (Tape Fault.BadTolerance)
    (cond (eqb number 4) (Tape (Fault.ManyGates place))
    (cond (eqb number 5) (Tape (Fault.BadRecord place))
    (cond (eqb number 6) (Tape (Fault.BadQubit place))
    (cond (eqb number 7) (Tape (Fault.SameQubit place))
    (cond (eqb number 8) (Tape (Fault.LargeEntry place))
    (cond (eqb number 9) SmallWork
    (cond (eqb number 10) SmallOperations
    (cond (eqb number 11) NoOrder
    (cond (eqb number 12) BadBlocks
    (cond (eqb number 13) Interactions
    (cond (eqb number 14) OverLimit SmallState)))))))))))))

answer_by : Answer → Report → Result Report Refusal
answer_by Answer.Done r = Ok r
answer_by (Answer.Refused number place) r = Err (refusal_by number place)

refusal_back : (why : Refusal) → refusal_by (question_of why) (offset_of why) ≡ why
unfolding refusal_by
refusal_back (Tape Fault.NoHeader) = refl
refusal_back (Tape Fault.BadHeader) = refl
refusal_back (Tape Fault.BadTolerance) = refl
refusal_back (Tape (Fault.ManyGates at)) = refl
refusal_back (Tape (Fault.BadRecord at)) = refl
refusal_back (Tape (Fault.BadQubit at)) = refl
refusal_back (Tape (Fault.SameQubit at)) = refl
refusal_back (Tape (Fault.LargeEntry at)) = refl
refusal_back SmallWork = refl
refusal_back SmallOperations = refl
refusal_back NoOrder = refl
refusal_back BadBlocks = refl
refusal_back Interactions = refl
refusal_back OverLimit = refl
refusal_back SmallState = refl

told_back : (x : Result Report Refusal) → answer_by (told x).answer (told x).report ≡ x
unfolding answer_by
told_back (Ok r) = refl
told_back (Err why) = ap Err (refusal_back why)

pub told_apart : (x y : Result Report Refusal) → told x ≡ told y → x ≡ y
told_apart x y e = sym (told_back x) ∙ ap (λ (c : Compiled). answer_by c.answer c.report) e ∙ told_back y
