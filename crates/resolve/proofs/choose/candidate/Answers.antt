-- `resolve::choose::candidate` meets its contract: the level goes by the kind.
-- Assumes nothing.
use mathlib.Core.Path.{◌≡◌, ◌∙◌}
use Rattle.resolve.specs.Choose.{level_of, candidate_of}
use Rattle.resolve.proofs.Scores.{level-neither, level-other}
use Rattle.resolve.proofs.choose.candidate.Goals as goal
use Rattle.resolve.proofs.choose.candidate.Goals.{in-NonGaussian, in_default}

pub returns : goal.returns
unfolding candidate_of
returns c =
    let level : c.match-class.level ≡ level_of c.args.class.kind =
    elim c.match-class.branch [
      | in-NonGaussian w ↦ w.level-is ∙ level-neither _ _ w.in-NonGaussian.is
      | in_default w ↦ w.level-is ∙ level-other _ w.in_default.not-NonGaussian
    ] in
    rw (c.rank.ensures, level)
