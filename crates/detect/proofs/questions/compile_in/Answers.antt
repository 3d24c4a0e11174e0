-- `detect::questions::compile_in` meets its contract: the slices are as long as they were, and all of them is made zero. Assumes nothing.
use mathlib.Core.Path.{◌∙◌}
use Rattle.std.proofs.Common.{rules}
use Rattle.gate.specs.Complex.{f0}
use Rattle.detect.proofs.Answering.{replicated}
use Rattle.detect.proofs.questions.compile_in.Goals as goal

pub returns-clause-work : goal.returns-clause-work
returns-clause-work g c = c.fill.ensures.after (λ y e. e) ∙ replicated f0 c.args.w.now _ (search rules)

pub returns-clause-marks : goal.returns-clause-marks
returns-clause-marks g c = c.fill-2.ensures.after (λ y e. e) ∙ replicated 0 c.args.u.now _ (search rules)
