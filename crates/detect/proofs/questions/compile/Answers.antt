-- `detect::questions::compile` meets its contract: question 10 is the judge's. Assumes nothing.
use lib.ListN.{length}
use Rattle.std.proofs.Common.{rules}
use Rattle.detect.specs.Questions.{asked_ten}
use Rattle.detect.proofs.Judging.{ten-judged}
use Rattle.detect.proofs.questions.compile.Goals as goal

pub returns : goal.returns
returns c =
    let o = length c.args.ops.now in
    let left = c.compile_judged.ensures (asked_ten o) (λ h k v says. ten-judged h k o v (search rules)) in
    record { answer = left.answer; work = left.floats; marks = left.numbers; ops = left.program }
