-- THE ENGINE IS THE FORMULA, ROUNDED: BY A RUN. Of every run that gives no number, whatever its tape: the operations are read from the caller's slice as the
-- run leaves it, as many as the report says; and the state, and every query on it by the run's mode table, is what the formulas at binary64 make of these
-- operations (specs/Calls.antt), every bit. Definitions only. A public promise rests on this.
use Rattle.std.specs.Prelude.{◌≡◌, List, ℕ, Float}
use Rattle.detect.specs.Answers.{number_of}
use Rattle.evolve.specs.Evolve.{held_in}
use Rattle.claim.specs.Queries.{Begins}
use Rattle.gaussian.specs.Run.{ran, ran_ops, ran_state}
use Rattle.gaussian.specs.Claim.{Left, left_by}
use Rattle.rounded.specs.Operations.{items_in}
use Rattle.rounded.specs.Calls.{Rounds}

-- k operations are in the slice ops. The table may be lent with whatever stands behind its first n entries
abbrev pub RunRounds : Left → ℕ → List Float → Type 0
RunRounds x k ops = (modes : List ℕ) → Begins x.n x.modes modes → Rounds x.n modes (items_in x.n (held_in k ops)) x.state

-- THE STATEMENT
abbrev pub RoundedRuns : Type 0
RoundedRuns = (t : List ℕ) (work : List Float) (marks : List ℕ) (ops state : List Float) → (let r = ran t work marks ops state in
    number_of r.answer ≡ 0 → RunRounds (left_by r (ran_state t work marks ops state)) r.report.operations (ran_ops t work marks ops state))
