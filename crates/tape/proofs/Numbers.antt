-- No refusal of a tape has the number 0: header, records and whole tapes. Assumes nothing.
use mathlib.Core.Bool.{Bool, true, false, cond}
use mathlib.Core.List.{List}
use Prim.Native.Nat.{ℕ, zero, suc, ◌+◌, ◌-◌, ◌<◌}
use native.Mathlib.Omega.{arith}
use lib.Dec.{eqb, leb, ltb}
use lib.ListN.{length}
use borrow.Author.Tests.{eqb-false}
use native.Mathlib.Nat.{pos_of_ne-zero}
use Rattle.std.proofs.lemmas.Bool.{cond_both}
use Rattle.laws.specs.Bounds.{max_qubits}
use Rattle.num.specs.Bits.{byte_at, f64_at}
use Rattle.tape.specs.Bounds.{max_flags, header_length, max_gates, max_label, gate_mark, label_mark, leading}
use Rattle.tape.specs.Codes.{qubits_of, gate_length}
use Rattle.tape.specs.Header.{header_at, is_tolerance, header_marked, header_of}
use Rattle.tape.specs.Records.{marked_at, code_at, gate_fault, sound, gate_record_at, label_bytes, label_record_at, record_at}
use Rattle.tape.specs.Parse.{Parsed, refused, accepted, with_gate, with_label, stepped, walk, after_header, parse}
use Rattle.tape.specs.declared.header.Header.{Header}
use Rattle.tape.specs.Headed.{Headed}
use Rattle.tape.specs.Headed as Head
use Rattle.tape.specs.declared.labels.Span.{Span}
use Rattle.tape.specs.declared.gates.Gate.{Gate}
use Rattle.tape.specs.Step.{Step}
use Rattle.tape.specs.Step as Steps

-- what is so of both is so of the one that a test chooses
either : {A : Type 0} (P : A → Type 0) (b : Bool) (x y : A) → P x → P y → P (cond b x y)
either P true x y p q = p
either P false x y p q = q

-- ---- the header

data HeadNumbered : Headed → Type 0 where
  some : (r p : ℕ) → 0 < r → HeadNumbered (Head.Refused r p)
  none : (h : Header) → HeadNumbered (Head.Good h)

head-numbered : (t : List ℕ) → HeadNumbered (header_of t)
unfolding header_of
head-numbered t =
    let one = some 1 0 (omega arith) in
    let two = some 2 0 (omega arith) in
    let three = some 3 0 (omega arith) in
    either HeadNumbered (ltb (length t) header_length) _ _ one
    (either HeadNumbered (header_marked t) _ _
    (either HeadNumbered (ltb max_qubits (byte_at t 2)) _ _ two
    (either HeadNumbered (ltb max_flags (byte_at t 3)) _ _ two
    (either HeadNumbered (is_tolerance (f64_at t 4)) _ _ (none (header_at t)) three)))
    one)

-- ---- a record

data StepNumbered : Step → Type 0 where
  refuses : (r p : ℕ) → 0 < r → StepNumbered (Steps.Refused r p)
  takes : (next : ℕ) → StepNumbered (Steps.Gate next)
  names : (start end : ℕ) → StepNumbered (Steps.Label start end)
  ends : StepNumbered Steps.End

sound-numbered : (fault i next : ℕ) → StepNumbered (sound fault i next)
unfolding sound
sound-numbered fault i next =
    cond_both (eqb fault 0) _ _ StepNumbered (λ _. takes next) (λ e. refuses fault i (pos_of_ne-zero (eqb-false fault 0 e)))

record-numbered : (t : List ℕ) (i n g : ℕ) → StepNumbered (record_at t i n g)
unfolding record_at gate_record_at label_record_at
record-numbered t i n g =
    let four = refuses 4 i (omega arith) in
    let five = refuses 5 i (omega arith) in
    let size = byte_at t (i + 2) in
    either StepNumbered (leb (length t) i) _ _ ends
    (either StepNumbered (marked_at t i gate_mark) _ _
    (either StepNumbered (leb max_gates g) _ _ four
    (either StepNumbered (ltb (length t - i) leading) _ _ five
    (either StepNumbered (eqb (qubits_of (code_at t i)) 0) _ _ five
    (either StepNumbered (ltb (length t - i) (gate_length (code_at t i))) _ _ five (sound-numbered (gate_fault t i n) i (i + gate_length (code_at t i)))))))
    (either StepNumbered (marked_at t i label_mark) _ _
    (either StepNumbered (ltb (length t - i) leading) _ _ five
    (either StepNumbered (ltb max_label size) _ _ five
    (either StepNumbered (ltb (length t - (i + leading)) size) _ _ five
    (either StepNumbered (label_bytes t (i + leading) size) _ _ (names (i + leading) (i + leading + size)) five))))
    five))

-- ---- the tape

abbrev pub Numbered : Parsed → Type 0
Numbered (refused number place) = 0 < number
Numbered (accepted h c) = Unit {0}

gate-numbered : (x : Gate) (i : ℕ) (p : Parsed) → Numbered p → Numbered (with_gate x i p)
unfolding with_gate
gate-numbered x i (refused number place) k = k
gate-numbered x i (accepted h c) k = tt

label-numbered : (s : Span) (p : Parsed) → Numbered p → Numbered (with_label s p)
unfolding with_label
label-numbered s (refused number place) k = k
label-numbered s (accepted h c) k = tt

step-numbered : (rest : ℕ → ℕ → Parsed) → ((g i : ℕ) → Numbered (rest g i)) → (t : List ℕ) (h : Header) (g i : ℕ) (s : Step) → StepNumbered s
    → Numbered (stepped rest t h g i s)
unfolding stepped
step-numbered rest all t h g i _ (takes next) = gate-numbered _ i (rest (g + 1) next) (all (g + 1) next)
step-numbered rest all t h g i _ (names start end) = label-numbered _ (rest g end) (all g end)
step-numbered rest all t h g i _ ends = tt
step-numbered rest all t h g i _ (refuses r p k) = k

walk-numbered : (f : ℕ) (t : List ℕ) (h : Header) (g i : ℕ) → Numbered (walk f t h g i)
unfolding walk
walk-numbered zero t h g i = tt
walk-numbered (suc f) t h g i = step-numbered (walk f t h) (walk-numbered f t h) t h g i (record_at t i h.n g) (record-numbered t i h.n g)

after-numbered : (t : List ℕ) (x : Headed) → HeadNumbered x → Numbered (after_header t x)
unfolding after_header
after-numbered t _ (some r p k) = k
after-numbered t _ (none h) = walk-numbered (length t) t h 0 header_length

pub parse-numbered : (t : List ℕ) → Numbered (parse t)
unfolding parse
parse-numbered t = after-numbered t (header_of t) (head-numbered t)
