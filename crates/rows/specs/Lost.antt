-- Runs in which another engine applies the program's operations to the vacuum; questions, report and operations are the engine's own. And the claim on the
-- signs, asked of them. Assumes nothing. A public promise rests on this.
use Rattle.std.specs.Prelude.{List, ℕ, Float}
use Rattle.detect.specs.Questions.{Asked}
use Rattle.local.specs.State.{vacuum}
use Rattle.state.specs.Operation.{Engine}
use Rattle.evolve.specs.Evolve.{evolved_by}
use Rattle.claim.specs.Queries.{answer}
use Rattle.gaussian.specs.Run.{state_by, asked, ran, ran_ops}
use Rattle.gaussian.specs.Claim.{left_by}
use Rattle.gaussian.specs.Signs.{SignClaim}

-- the state afterwards
abbrev pub left_state : Engine → Asked → List Float → List Float
left_state e = state_by (λ n os. evolved_by e n os vacuum)

-- THE SIGNS, asked of such a run: for every tape and all slices
abbrev pub SignsOnRuns : Engine → Type 0
SignsOnRuns e = (t : List ℕ) (work : List Float) (marks : List ℕ) (ops state : List Float)
    → let r = ran t work marks ops state in
    SignClaim answer (left_by r (left_state e (asked t work marks ops state) state)) r.report.operations (ran_ops t work marks ops state)
