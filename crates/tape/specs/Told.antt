-- What the code's results say, in the words of the definitions: a fault is its question's number and its place, and follows from these (proofs/Told.antt).
-- Each map is total; only those of a reading, `told_read`, `span_found` and `label_read`, tell two results alike, and these stand in inner contracts alone.
-- Assumes nothing. A public promise rests on this.
use Rattle.std.specs.Prelude.{ℕ, Option, None, Some, Result, Ok, Err}
use Rattle.tape.specs.Headed.{Headed}
use Rattle.tape.specs.Headed as Head
use Rattle.tape.specs.Step.{Step}
use Rattle.tape.specs.Step as Steps
use Rattle.tape.specs.Checked.{Checked}
use Rattle.tape.specs.Checked as Check
use Rattle.tape.specs.declared.fault.Fault.{Fault}
use Rattle.tape.specs.declared.fault.Fault.TheVariants.{NoHeader, BadHeader, BadTolerance, ManyGates, BadRecord, BadQubit, SameQubit, LargeEntry}
use Rattle.tape.specs.declared.header.Header.{Header}
use Rattle.tape.specs.declared.record.Record.{Record}
use Rattle.tape.specs.declared.record.Record.TheVariants.{Gate, Label}
use Rattle.tape.specs.declared.labels.Span.{Span}
use Rattle.tape.specs.declared.check.Contents.{Contents}
use Rattle.tape.specs.declared.check.Read.{Read}

-- the question whose answer is no
abbrev pub number_of : Fault → ℕ
number_of NoHeader = 1
number_of BadHeader = 2
number_of BadTolerance = 3
number_of (ManyGates at) = 4
number_of (BadRecord at) = 5
number_of (BadQubit at) = 6
number_of (SameQubit at) = 7
number_of (LargeEntry at) = 8

-- the record's offset, 0 for the header
abbrev pub place_of : Fault → ℕ
place_of NoHeader = 0
place_of BadHeader = 0
place_of BadTolerance = 0
place_of (ManyGates at) = at
place_of (BadRecord at) = at
place_of (BadQubit at) = at
place_of (SameQubit at) = at
place_of (LargeEntry at) = at

abbrev pub told_header : Result Header Fault → Headed
told_header (Ok h) = Head.Good h
told_header (Err f) = Head.Refused (number_of f) (place_of f)

-- a gate whose record ends at `next`, by the questions 6 to 8
abbrev pub told_gate : ℕ → Result Unit Fault → Step
told_gate next (Ok passed) = Steps.Gate next
told_gate next (Err f) = Steps.Refused (number_of f) (place_of f)

abbrev pub told_record : Option Record → Step
told_record (Some (Gate next)) = Steps.Gate next
told_record (Some (Label s)) = Steps.Label s.start s.end
told_record None = Steps.End

abbrev pub told_found : Result Record Fault → Step
told_found (Ok r) = told_record (Some r)
told_found (Err f) = Steps.Refused (number_of f) (place_of f)

abbrev pub told_step : Result (Option Record) Fault → Step
told_step (Ok r) = told_record r
told_step (Err f) = Steps.Refused (number_of f) (place_of f)

abbrev pub told : Result Contents Fault → Checked
told (Ok c) = Check.Good c.header c.gates c.labels
told (Err f) = Check.Refused (number_of f) (place_of f)

-- the header and the counts that a reading found
abbrev pub told_read : Result Read Fault → Checked
told_read (Ok r) = Check.Good r.contents.header r.contents.gates r.contents.labels
told_read (Err f) = Check.Refused (number_of f) (place_of f)

-- the label that a reading found, the empty part at the start if there is none
abbrev pub span_found : Option Span → Span
span_found None = record { start = 0; end = 0 }
span_found (Some s) = s

-- of a reading that sought the label k
abbrev pub label_read : Result Read Fault → Span
label_read (Ok r) = span_found r.label
label_read (Err f) = span_found None
