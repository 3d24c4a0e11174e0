-- Public `run` (001, `from_circuit`): its questions 1 to 15 in their order are one value, `asked`, from which the answer and every slice follow: the
-- report, the operations, and the state that they make of the vacuum. Definitions only. A public promise rests on this.
use Rattle.std.specs.Prelude.{Bool, not, cond, List, ℕ, ◌*◌, ◌/◌, ◌%◌, eqb, ltb, length, Float}
use Rattle.gate.specs.Complex.{f0}
use Rattle.tape.specs.Parse.{Content, parse}
use Rattle.tape.specs.declared.header.Header.{Header}
use Rattle.detect.specs.declared.report.Report.{Report}
use Rattle.detect.specs.Answers.{Compiled}
use Rattle.detect.specs.Operation.{Operation}
use Rattle.detect.specs.Compile.{reported_of, program_of}
use Rattle.work.specs.Sizes.{work_floats, work_marks}
use Rattle.detect.specs.Questions.{Asked, early, late, passed, answer_of, work_after, ops_after, asked_from, ops_lack}
use Rattle.local.specs.Bounds.{state_places}
use Rattle.local.specs.State.{State, stored}
use Rattle.state.specs.Bounds.{dim_of}
use Rattle.evolve.specs.Evolve.{evolved}

-- ---- the questions 10 to 15, of the report

-- "bad blocks exist and all are nonadjacent matchgates"
unfoldable pub all_apart : Report → Bool
all_apart r = cond (eqb r.bad 0) Bool.false (eqb r.nonadjacent r.bad)

-- "bit 2 drops interactions"
abbrev pub drops_of : Header → Bool
drops_of h = eqb (h.flags / 4 % 2) 1

-- interactions that are not dropped
unfoldable pub interacts : Header → Report → Bool
interacts h r = cond (eqb r.interactions 0) Bool.false (not (drops_of h))

-- "8(2n)²": the bytes of the covariance
abbrev pub bytes_of : ℕ → ℕ
bytes_of n = 8 * (dim_of n * dim_of n)

-- the first of 10 to 15 whose answer is no, or 0; k operations are to be written, o places are there for them, s for the state
unfoldable pub verdict_of : Header → Report → ℕ → ℕ → ℕ → ℕ
verdict_of h r k o s =
    -- "Has the operation slice 18 places per operation?"
    cond (ops_lack o k) 10
    -- "Is it untrue that bad blocks exist and all are nonadjacent matchgates?"
    (cond (all_apart r) 11
    -- "Are there no bad blocks?"
    (cond (ltb 0 r.bad) 12
    -- "No interactions, or flag bit 2 set?"
    (cond (interacts h r) 13
    -- "Is 8(2n)² at most the limit?"
    (cond (ltb h.limit (bytes_of h.n)) 14
    -- "Has the state slice 4n²+2n places?"
    (cond (ltb s (state_places (dim_of h.n))) 15 0)))))

-- ---- all questions; 1 to 9 are asked as `compile` asks them

abbrev pub judged : ℕ → Header → Content → Asked
judged verdict h c = cond (ltb 0 verdict) (late verdict h c) (passed h c)

-- 10 to 15
abbrev pub asked_report : ℕ → ℕ → Header → Content → Asked
asked_report o s h c = judged (verdict_of h (reported_of h c.gates) (length (program_of h c.gates)) o s) h c

-- ---- the state afterwards: "no slice changes, except work"

-- `made` is what n and the program make: the engine's own is `evolved`, from the vacuum
unfoldable pub state_by : (ℕ → List Operation → State) → Asked → List Float → List Float
state_by made (early number place) state = state
state_by made (late number h c) state = state
state_by made (passed h c) state = stored (dim_of h.n) (made h.n (program_of h c.gates)) state

abbrev pub state_after : Asked → List Float → List Float
state_after = state_by evolved

-- ---- of the tape's bytes and the lent slices

-- all
abbrev pub asked : List ℕ → List Float → List ℕ → List Float → List Float → Asked
asked t work marks ops state = asked_from (asked_report (length ops) (length state)) (parse t) (length work) (length marks)

-- the answer
abbrev pub ran : List ℕ → List Float → List ℕ → List Float → List Float → Compiled
ran t work marks ops state = answer_of (asked t work marks ops state)

-- the floats, the marks, the operations and the state afterwards
abbrev pub ran_work : List ℕ → List Float → List ℕ → List Float → List Float → List Float
ran_work t work marks ops state = work_after work_floats f0 (asked t work marks ops state) work

abbrev pub ran_marks : List ℕ → List Float → List ℕ → List Float → List Float → List ℕ
ran_marks t work marks ops state = work_after work_marks 0 (asked t work marks ops state) marks

abbrev pub ran_ops : List ℕ → List Float → List ℕ → List Float → List Float → List Float
ran_ops t work marks ops state = ops_after (asked t work marks ops state) ops

abbrev pub ran_state : List ℕ → List Float → List ℕ → List Float → List Float → List Float
ran_state t work marks ops state = state_after (asked t work marks ops state) state
