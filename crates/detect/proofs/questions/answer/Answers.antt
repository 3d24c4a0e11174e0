-- `detect::questions::answer` meets its contract: the judge is asked once the operations are counted, and before they are written. Assumes nothing.
use mathlib.Core.Path.{sym, ap, ◌∙◌}
use lib.ListN.{length}
use Rattle.tape.specs.Parse.{content_of, parse}
use Rattle.detect.specs.Answers.{done}
use Rattle.detect.specs.Questions.{answer_of, ops_after}
use Rattle.detect.proofs.Answering.{emits-held, emits-kept, emits-room, emits-written}
use Rattle.detect.proofs.Judging.{refused_by, judged_after}
use Rattle.detect.proofs.questions.answer.Goals as goal

pub returns-in_err-judge : goal.returns-in_err-judge
unfolding ops_after
returns-in_err-judge g c = λ x j.
    let a = c.args in
    let k = content_of (parse a.tape.now) in
    let v = j c.judge.result (rw c.detect-r.ensures.detected.report at c.judge.ensures) in
    let no = refused_by a.h k x _ _ c.from_residual.result c.in_err-judge.was v c.from_residual.ensures.1 in
    (no.0, sym (ap (λ x. ops_after x a.ops.now) no.1), judged_after a.h k x _ v)

pub emit_all-requires-clause-there : goal.emit_all-requires-clause-there
emit_all-requires-clause-there g c =
    let a = c.args in
    let gs = (content_of (parse a.tape.now)).gates in
    let d = c.detect-r in (
      emits-held a.h gs a.tape.now a.work.now d.new.work d.result c.requires.tape d.ensures,
      emits-kept a.h gs a.tape.now a.work.now d.new.work d.result c.requires.tape d.ensures c.if-r.true,
    )

pub emit_all-requires-clause-room : goal.emit_all-requires-clause-room
emit_all-requires-clause-room g c =
    let a = c.args in
    let gs = (content_of (parse a.tape.now)).gates in
    let d = c.detect-r in
    emits-room a.h gs a.tape.now a.work.now d.new.work d.result c.requires.tape d.ensures
    (length a.ops.now) (c.requires.room d.result (rw c.in_ok-judge.was at c.judge.ensures)) c.if-r.true

pub returns-then-r : goal.returns-then-r
unfolding answer_of ops_after
returns-then-r g c = λ x j.
    let a = c.args in
    let k = content_of (parse a.tape.now) in
    let d = c.detect-r in
    let v = j c.judge.result (rw d.ensures.detected.report at c.judge.ensures) in
    let yes = rw c.in_ok-judge.was at v in (
      ap done d.ensures.detected.report ∙ sym (ap answer_of yes),
      c.emit_all.ensures
          ∙ (rw c.if-r.true at (emits-written a.h k.gates a.tape.now a.work.now d.new.work d.result c.requires.tape d.ensures a.ops.now))
          ∙ sym (ap (λ x. ops_after x a.ops.now) yes),
      judged_after a.h k x _ v,
    )

pub returns-else-r : goal.returns-else-r
unfolding answer_of ops_after
returns-else-r g c = λ x j.
    let a = c.args in
    let k = content_of (parse a.tape.now) in
    let d = c.detect-r in
    let v = j c.judge.result (rw d.ensures.detected.report at c.judge.ensures) in
    let yes = rw c.in_ok-judge.was at v in (
      ap done d.ensures.detected.report ∙ sym (ap answer_of yes),
      (rw c.if-r.false at (emits-written a.h k.gates a.tape.now a.work.now d.new.work d.result c.requires.tape d.ensures a.ops.now))
          ∙ sym (ap (λ x. ops_after x a.ops.now) yes),
      judged_after a.h k x _ v,
    )
