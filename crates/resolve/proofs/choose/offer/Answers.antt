-- `resolve::choose::offer` meets its contract: the ways out are the outcomes of the comparison, and none is needed before the first candidate.
-- Assumes nothing.
use mathlib.Core.Path.{sym, ap, ◌∙◌}
use mathlib.Core.Bool.{true, false}
use Rattle.resolve.specs.Choose.{improves}
use Rattle.resolve.specs.Searched.{choice_of, best_of}
use Rattle.resolve.proofs.Scores.{score-less, first-improves, offer-is}
use Rattle.resolve.proofs.choose.offer.Goals as goal
use Rattle.resolve.proofs.choose.offer.Goals.{in-Some+then-lt, in-Some+else-lt, in-None}

pub returns-clause-searched : goal.returns-clause-searched
returns-clause-searched c = λ base.
    let a = c.args in
    let x = c.candidate-x.result in
    let best = c.match-s.best in
    elim c.match-s.branch [
      | in-Some+then-lt w ↦
          let y = w.in-Some.y in
          offer-is base a.ka a.kb a.class a.s x true best c.candidate-x.ensures
          (ap (λ b. improves (choice_of x) (best_of base b)) w.in-Some.is ∙ sym (score-less x.score y.score) ∙ sym w.lt.ensures ∙ w.if-lt.true)
          (ap choice_of w.best-is)
      | in-Some+else-lt w ↦
          let y = w.in-Some.y in
          offer-is base a.ka a.kb a.class a.s x false best c.candidate-x.ensures
          (ap (λ b. improves (choice_of x) (best_of base b)) w.in-Some.is ∙ sym (score-less x.score y.score) ∙ sym w.lt.ensures ∙ w.if-lt.false)
          (ap choice_of w.best-is ∙ sym (ap (best_of base) w.in-Some.is))
      | in-None w ↦
          offer-is base a.ka a.kb a.class a.s x true best c.candidate-x.ensures
          (ap (λ b. improves (choice_of x) (best_of base b)) w.in-None.is ∙ first-improves base a.ka a.kb a.class (choice_of x) c.candidate-x.ensures)
          (ap choice_of w.best-is)
    ]
