-- `detect::questions::compile_judged` meets its contract: the questions 1 to 8, then 9, then the judge's. Assumes nothing.
use mathlib.Core.Path.{sym, ap, ◌∙◌}
use lib.ListN.{length}
use lib.Seq.{length-take-le}
use Rattle.std.proofs.lemmas.Bool.{cond-true, cond-false}
use Rattle.gate.specs.Complex.{f0}
use Rattle.laws.specs.Slices.{filled}
use Rattle.tape.specs.Parse.{content_of, parse}
use Rattle.work.specs.Sizes.{work_floats, work_marks}
use Rattle.detect.specs.Questions.{early, answer_of, work_after, ops_after}
use Rattle.detect.proofs.Checking.{lent-short, lent-parts, front-filled, asked-refused, asked-good, read-good}
use Rattle.detect.proofs.Judging.{told_err, after_work}
use Rattle.detect.proofs.questions.compile_judged.Goals as goal

pub returns-in_err-c : goal.returns-in_err-c
unfolding answer_of work_after ops_after
returns-in_err-c g c = λ next j.
    let a = c.args in
    let no = asked-refused (parse a.tape.now) _ _ (sym c.in_err-c.ensures) next (length a.work.now) (length a.marks.now) in
    record {
      answer = told_err _ _ c.from_residual.ensures.1 ∙ sym (ap answer_of no);
      floats = sym (ap (λ x. work_after work_floats f0 x a.work.now) no);
      numbers = sym (ap (λ x. work_after work_marks 0 x a.marks.now) no);
      program = sym (ap (λ x. ops_after x a.ops.now) no);
    }

pub lend-requires : goal.lend-requires
lend-requires g c = let r = read-good c.args.tape.now _ _ _ (sym c.in_ok-c.ensures) in (r.qubits, r.few)

pub slice_bounds-compile_in-end : goal.slice_bounds-compile_in-end
slice_bounds-compile_in-end g c = (lent-parts _ _ _ _ (sym c.in_ok-parts.ensures)).floats-there

pub slice_bounds-compile_in-end-2 : goal.slice_bounds-compile_in-end-2
slice_bounds-compile_in-end-2 g c =
    sym (length-take-le _ c.args.work.now (lent-parts _ _ _ _ (sym c.in_ok-parts.ensures)).floats-there)

pub returns-in_err-parts : goal.returns-in_err-parts
unfolding answer_of work_after ops_after
returns-in_err-parts g c = λ next j.
    let a = c.args in
    let k = c.in_ok-c.c in
    let w = length a.work.now in
    let u = length a.marks.now in
    let short = lent-short k.gates k.header.n w u (sym c.in_err-parts.ensures) in
    let no = asked-good (parse a.tape.now) _ _ _ (sym c.in_ok-c.ensures) next w u ∙ cond-false _ (next k.header (content_of (parse a.tape.now))) (early 9 0) short.0 in
    record {
      answer = rw short.1 at (told_err _ _ c.from_residual-in_err-parts.ensures.1) ∙ sym (ap answer_of no);
      floats = sym (ap (λ x. work_after work_floats f0 x a.work.now) no);
      numbers = sym (ap (λ x. work_after work_marks 0 x a.marks.now) no);
      program = sym (ap (λ x. ops_after x a.ops.now) no);
    }

pub compile_in-requires-clause-lent : goal.compile_in-requires-clause-lent
compile_in-requires-clause-lent g c =
    let a = c.args in
    let p = lent-parts _ _ (length a.work.now) (length a.marks.now) (sym c.in_ok-parts.ensures) in
    record {
      tape = read-good a.tape.now _ _ _ (sym c.in_ok-c.ensures);
      floats = length-take-le _ a.work.now p.floats-there ∙ p.floats;
      marks = length-take-le _ a.marks.now p.marks-there ∙ p.marks;
    }

pub compile_in-requires-clause-callable : goal.compile_in-requires-clause-callable
compile_in-requires-clause-callable g c = λ r. c.requires.callable c.in_ok-c.c.header r (read-good c.args.tape.now _ _ _ (sym c.in_ok-c.ensures)).qubits

pub returns : goal.returns
returns g c = λ next j.
    let a = c.args in
    let h = c.in_ok-c.c.header in
    let k = content_of (parse a.tape.now) in
    let w = length a.work.now in
    let u = length a.marks.now in
    let p = lent-parts _ _ w u (sym c.in_ok-parts.ensures) in
    let count = (read-good a.tape.now _ _ _ (sym c.in_ok-c.ensures)).gates.count in
    let yes = asked-good (parse a.tape.now) _ _ _ (sym c.in_ok-c.ensures) next w u ∙ cond-true _ (next h k) (early 9 0) p.some in
    let made = c.compile_in.ensures.answer (next h k) (j h k) in
    record {
      answer = made.0 ∙ sym (ap answer_of yes);
      floats = front-filled _ f0 a.work.now c.compile_in.new.w p.floats-there c.compile_in.ensures.work
          ∙ ap (λ j. filled j f0 a.work.now) (p.floats ∙ ap (λ g. work_floats g h.n) count)
          ∙ sym (after_work h k (next h k) work_floats f0 a.work.now made.2)
          ∙ sym (ap (λ x. work_after work_floats f0 x a.work.now) yes);
      numbers = front-filled _ 0 a.marks.now c.compile_in.new.u p.marks-there c.compile_in.ensures.marks
          ∙ ap (λ j. filled j 0 a.marks.now) (p.marks ∙ ap (λ g. work_marks g h.n) count)
          ∙ sym (after_work h k (next h k) work_marks 0 a.marks.now made.2)
          ∙ sym (ap (λ x. work_after work_marks 0 x a.marks.now) yes);
      program = made.1 ∙ sym (ap (λ x. ops_after x a.ops.now) yes);
    }
