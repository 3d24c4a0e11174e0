-- `gaussian::engine::run` meets its contract: the questions 10 to 15 are the judge's, and then the program is run. Assumes nothing.
use mathlib.Core.Path.{◌∙◌}
use lib.ListN.{length}
use Rattle.std.proofs.Common.{rules}
use Rattle.detect.specs.Told.{question_of, offset_of}
use Rattle.detect.proofs.Judging.{told_err}
use Rattle.gaussian.specs.Run.{asked, asked_report}
use Rattle.gaussian.proofs.Answering.{verdict-judged, verdict-room, refused-state, has_room, has_state, state-ran}
use Rattle.gaussian.proofs.Claim.{claim-of}
use Rattle.gaussian.proofs.Signs.{signs-of, plain-of}
use Rattle.gaussian.proofs.engine.run.Goals as goal

pub compile_judged-requires-clause-room : goal.compile_judged-requires-clause-room
compile_judged-requires-clause-room c = λ h r says. verdict-room h r (length c.args.ops.now) (length c.args.state.now) (search rules)

pub evolve-requires : goal.evolve-requires
evolve-requires c =
    let a = c.args in
    let o = length a.ops.now in
    let s = length a.state.now in
    let left = c.compile_judged.ensures (asked_report o s) (λ h k v says. verdict-judged h k o s v (search rules)) in
    let yes = rw c.in_ok-r.was at left.answer in
    record {
      has_state = record { room = has_state a.tape.now a.work.now a.marks.now a.ops.now a.state.now c.in_ok-r.r _ yes left.program };
      count_in_bounds = has_room a.tape.now a.work.now a.marks.now a.ops.now a.state.now c.in_ok-r.r _ yes left.program c.compile_judged.auto.ops;
    }

pub returns-in_err-r : goal.returns-in_err-r
returns-in_err-r c =
    let a = c.args in
    let o = length a.ops.now in
    let s = length a.state.now in
    let left = c.compile_judged.ensures (asked_report o s) (λ h k v says. verdict-judged h k o s v (search rules)) in
    let why = c.in_err-r.field-0.0 in
    let no = rw c.in_err-r.was at left.answer in
    let answer = told_err c.from_residual.result why c.from_residual.ensures.1 ∙ no in
    let state =
    refused-state (asked a.tape.now a.work.now a.marks.now a.ops.now a.state.now) (question_of why) (offset_of why) a.state.now no in
    record {
      answer = answer;
      work = left.floats;
      marks = left.numbers;
      ops = left.program;
      state = state;
      register = claim-of a.tape.now a.work.now a.marks.now a.ops.now a.state.now _ _ answer state;
      signs = signs-of a.tape.now a.work.now a.marks.now a.ops.now a.state.now _ _ _ answer left.program state;
      plain = plain-of a.tape.now a.work.now a.marks.now a.ops.now a.state.now _ _ _ answer left.program state;
    }

pub returns : goal.returns
returns c =
    let a = c.args in
    let o = length a.ops.now in
    let s = length a.state.now in
    let left = c.compile_judged.ensures (asked_report o s) (λ h k v says. verdict-judged h k o s v (search rules)) in
    let answer = rw c.in_ok-r.was at left.answer in
    let state = c.evolve.ensures ∙ state-ran a.tape.now a.work.now a.marks.now a.ops.now a.state.now c.in_ok-r.r _ answer left.program in
    record {
      answer = answer;
      work = left.floats;
      marks = left.numbers;
      ops = left.program;
      state = state;
      register = claim-of a.tape.now a.work.now a.marks.now a.ops.now a.state.now _ _ answer state;
      signs = signs-of a.tape.now a.work.now a.marks.now a.ops.now a.state.now _ _ _ answer left.program state;
      plain = plain-of a.tape.now a.work.now a.marks.now a.ops.now a.state.now _ _ _ answer left.program state;
    }
