-- `text::print::push_run` meets its contract: the text is that of the run's answer, and it has room. Assumes nothing.
use mathlib.Core.Path.{◌≡◌, sym, ap, ap₂, ◌∙◌}
use mathlib.Core.Bool.{Bool, true, false, ◌||◌}
use mathlib.Core.List.{List}
use Prim.Native.Nat.{ℕ}
use mathlib.Core.Path.{subst}
use lib.Dec.{T, ltb}
use lib.Ieee.{of_bits}
use Rattle.laws.specs.Zeros.{+0}
use lib.ListN.{length, replicate}
use Rattle.tape.specs.Parse.{parse}
use Rattle.detect.specs.Answers.{Compiled, refusal, done}
use Rattle.detect.specs.Questions.{answer_of}
use Rattle.detect.specs.Told.{question_of, offset_of}
use Rattle.gaussian.specs.Run.{state_after}
use Rattle.text.specs.Bounds.{max_tape}
use Rattle.text.specs.Print.{is_large, is_too_big, run_of, done_text, text_of, printed}
use Rattle.text.proofs.Running.{states, suffices, refused-text, done-text, few-qubits}
use Rattle.text.proofs.print.push_run.Goals as goal

-- ---- the text, by the test
not-big : (t : List ℕ) → is_too_big t ≡ false → text_of (run_of (parse t)) ≡ printed t
unfolding printed
not-big t e = rw e

not-large : (t : List ℕ) → is_too_big t ≡ false → is_large (parse t) ≡ false
unfolding is_too_big
not-large t e = by (ltb max_tape (length t)) e
  where
    by : (a : Bool) → (a || is_large (parse t)) ≡ false → is_large (parse t) ≡ false
    by true e = absurd (subst T e tt)
    by false e = e

-- ---- the run

pub returns-in-Err : goal.returns-in-Err
returns-in-Err c =
    let t = c.args.tape.now in
    let large = not-large t c.requires.fits in
    let answer : refusal (question_of c.in-Err.refusal) (offset_of c.in-Err.refusal) ≡ answer_of (run_of (parse t)) =
    rw c.in-Err.is at c.run.ensures.answer ∙ ap answer_of (suffices (parse t) large) in
    rw c.requires.empty at c.push_refused.ensures
    ∙ sym (refused-text (run_of (parse t)) _ _ (sym (ap (λ a. a.answer) answer)))
    ∙ not-big t c.requires.fits

pub push_done-requires-clause-few : goal.push_done-requires-clause-few
push_done-requires-clause-few c =
    let t = c.args.tape.now in
    let large = not-large t c.requires.fits in
    let answer : done c.in-Ok.report ≡ answer_of (run_of (parse t)) = rw c.in-Ok.is at c.run.ensures.answer ∙ ap answer_of (suffices (parse t) large) in
    rw (ap (λ (x : Compiled). x.report.n) answer) (few-qubits (parse t) large)

pub returns-in-Ok : goal.returns-in-Ok
unfolding of_bits
returns-in-Ok c =
    let t = c.args.tape.now in
    let q = run_of (parse t) in
    let large = not-large t c.requires.fits in
    let answer : done c.in-Ok.report ≡ answer_of q = rw c.in-Ok.is at c.run.ensures.answer ∙ ap answer_of (suffices (parse t) large) in
    let s = c.run.ensures.state ∙ ap (λ q. state_after q (replicate states +0)) (suffices (parse t) large) in
    c.push_done.ensures
    ∙ ap₂ done_text (ap (λ a. a.report) answer) s
    ∙ sym (done-text q (sym (ap (λ a. a.answer) answer)))
    ∙ not-big t c.requires.fits
