-- THE RUN BESIDE THE PLAIN ENGINE (promise 4), for what the signs leave out: any maps, marginals, basis indices and shots. The plain engine (crate `plain`),
-- which makes each turn of signs at once and postpones nothing, is put the operations of an accepted run, as they stand in the caller's slice afterwards, from
-- the vacuum. Then every query on the run's state is answered as on its matrix (crate `postponed`, specs/Beside.antt). Definitions only.
-- A public promise rests on this.
use Rattle.std.specs.Prelude.{◌≡◌, true, List, ℕ, Float}
use Rattle.laws.specs.Matrix.{matrix}
use Rattle.local.specs.State.{vacuum}
use Rattle.state.specs.Bounds.{dim_of}
use Rattle.plain.specs.Calls.{matrix_ok}
use Rattle.postponed.specs.Beside.{plainly_called, SameAnswers}
use Rattle.evolve.specs.Evolve.{held_in}
use Rattle.claim.specs.Queries.{Begins}
use Rattle.gaussian.specs.Claim.{Left}

-- k operations are in the slice ops; a slice of the plain engine's own is put the vacuum, and then them. The run's mode table may be lent with whatever stands
-- behind its first n entries
abbrev pub AnswersPlainly : Left → ℕ → List Float → Type 0
AnswersPlainly x k ops = (modes : List ℕ) → Begins x.n x.modes modes → (own : List Float) → matrix_ok x.n own ≡ true
    → SameAnswers x.n modes x.state (plainly_called x.n (held_in k ops) (matrix (dim_of x.n) vacuum.m own))

-- of every run that gave no number
abbrev pub PlainRun : Left → ℕ → List Float → Type 0
PlainRun x k ops = x.number ≡ 0 → AnswersPlainly x k ops
