-- The run of a tape that is not too big: slices with room for 32 gates and 8 qubits suffice, so questions 9, 10 and 15 are answered with yes, and the
-- text is that of the run's answer, report and state. Assumes nothing.
use mathlib.Core.Path.{◌≡◌, refl, sym, ap}
use mathlib.Core.Bool.{Bool, true, false, cond}
use Prim.Native.Nat.{ℕ, ◌+◌, ◌*◌, ◌≤◌}
use native.Mathlib.Nat.{le_refl, mul-le-mul}
use native.Mathlib.Omega.{arith}
use lib.Dec.{ltb}
use lib.ListN.{length, replicate}
use borrow.Author.Tests.{ltb-false, le-ltb}
use Rattle.std.proofs.lemmas.Bool.{or_parts}
use Rattle.laws.specs.Zeros.{+0}
use Rattle.laws.specs.Bounds.{op_places}
use Rattle.tape.specs.Parse.{Parsed, Content, refused, accepted}
use Rattle.tape.specs.declared.header.Header.{Header}
use Rattle.detect.specs.Answers.{Done, Refused}
use Rattle.detect.specs.declared.report.Report.{Report}
use Rattle.detect.specs.Report.{report_of, no_report}
use Rattle.detect.specs.Compile.{reported_of, program_of}
use Rattle.work.specs.Sizes.{record_floats, record_marks, work_floats, work_marks}
use Rattle.detect.specs.Questions.{Asked, early, late, passed, answer_of, has_work, asked_from}
use Rattle.detect.proofs.Reports.{operations-told}
use Rattle.local.specs.Bounds.{state_places}
use Rattle.state.specs.Bounds.{dim_of}
use Rattle.gaussian.specs.Run.{verdict_of, judged, asked_report, state_by, state_after}
use Rattle.text.specs.Bounds.{printed_gates, printed_qubits}
use Rattle.text.specs.Lines.{refused_line}
use Rattle.text.specs.Print.{is_large, run_of, done_text, text_of}
use Rattle.text.proofs.Few.{operations-few}

-- ---- what is lent, for 32 gates and 8 qubits

abbrev records : ℕ
records = printed_gates + printed_qubits

abbrev pub floats : ℕ
floats = record_floats * records

abbrev pub marks : ℕ
marks = record_marks * records

-- an item becomes at most three operations
abbrev pub places : ℕ
places = op_places * 3 * records

abbrev pub states : ℕ
states = state_places (dim_of printed_qubits)

-- ---- it suffices

sizes : (h : Header) (c : Content) → is_large (accepted h c) ≡ false → (length c.gates ≤ printed_gates) × (h.n ≤ printed_qubits)
unfolding is_large
sizes h c e =
    let b = or_parts (ltb printed_gates (length c.gates)) (ltb printed_qubits h.n) e in
    (ltb-false printed_gates (length c.gates) b.0, ltb-false printed_qubits h.n b.1)

-- a verdict does not turn on the places, where there are enough
same-verdict : (h : Header) (r : Report) (k o o' s s' : ℕ) → op_places * k ≤ o → op_places * k ≤ o'
    → state_places (dim_of h.n) ≤ s → state_places (dim_of h.n) ≤ s' → verdict_of h r k o s ≡ verdict_of h r k o' s'
unfolding verdict_of
same-verdict h r k o o' s s' ho ho' hs hs' =
    rw (
      le-ltb o (op_places * k) ho,
      le-ltb o' (op_places * k) ho',
      le-ltb s (state_places (dim_of h.n)) hs,
      le-ltb s' (state_places (dim_of h.n)) hs',
    )

enough-work : (g n : ℕ) → g ≤ printed_gates → n ≤ printed_qubits → has_work g n floats marks ≡ true
enough-work g n hg hn = rw (le-ltb floats (work_floats g n) (omega arith), le-ltb marks (work_marks g n) (omega arith))

pub enough-state : (n : ℕ) → n ≤ printed_qubits → state_places (dim_of n) ≤ states
enough-state n h =
    let d : dim_of n ≤ 16 = omega arith in
    omega (arith, mul-le-mul d d)

pub suffices : (p : Parsed) → is_large p ≡ false → asked_from (asked_report places states) p floats marks ≡ run_of p
unfolding asked_from run_of
suffices (refused r q) e = refl
suffices (accepted h c) e =
    let few = sizes h c e in
    let k : ℕ = length (program_of h c.gates) in
    let ops : op_places * k ≤ places = omega (arith, operations-few h c.gates, operations-told h c.gates, few.0, few.1) in
    rw (enough-work (length c.gates) h.n few.0 few.1)
    (ap (λ v. judged v h c)
    (same-verdict h (reported_of h c.gates) k places (op_places * k) states (state_places (dim_of h.n))
    ops (le_refl _) (enough-state h.n few.1) (le_refl _)))

-- ---- the text, by the answer

done≢refused : (number place : ℕ) → Done ≡ Refused number place → ⊥
done≢refused number place e = let z : ◌≡◌ {A = ℕ} 0 1 = cc in omega arith

pub refused-text : (x : Asked) (number place : ℕ) → (answer_of x).answer ≡ Refused number place → text_of x ≡ refused_line number place
unfolding answer_of text_of
refused-text (early r q) number place e =
    let a : r ≡ number = cc in
    let b : q ≡ place = cc in
    rw (a, b)
refused-text (late r h c) number place e =
    let a : r ≡ number = cc in
    let b : 0 ≡ place = cc in
    rw (a, b)
refused-text (passed h c) number place e = absurd (done≢refused number place e)

pub done-text : (x : Asked) → (answer_of x).answer ≡ Done → text_of x ≡ done_text (answer_of x).report (state_after x (replicate states +0))
unfolding answer_of text_of state_by
done-text (early r q) e = absurd (done≢refused r q (sym e))
done-text (late r h c) e = absurd (done≢refused r 0 (sym e))
done-text (passed h c) e = refl

pub few-qubits : (p : Parsed) → is_large p ≡ false → (answer_of (run_of p)).report.n ≤ printed_qubits
unfolding answer_of run_of no_report reported_of report_of
few-qubits (refused r q) e = omega arith
few-qubits (accepted h c) e = by (ltb 0 v)
  where
    v : ℕ
    v =
        verdict_of h (reported_of h c.gates) (length (program_of h c.gates)) (op_places * length (program_of h c.gates))
        (state_places (dim_of h.n))

    by : (t : Bool) → (answer_of (cond t (late v h c) (passed h c))).report.n ≤ printed_qubits
    by true = omega arith
    by false = (sizes h c e).1
