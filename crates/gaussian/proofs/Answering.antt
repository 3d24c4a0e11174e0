-- What a run answers and leaves: the verdict is what `asked_report` asks; after a yes the program is run, after a refusal the state is as it was.
-- Assumes nothing.
use mathlib.Core.Path.{◌≡◌, refl, sym, ap, subst, ◌∙◌}
use mathlib.Core.Bool.{Bool, true, false, true≢false}
use mathlib.Core.List.{List}
use Prim.Native.Nat.{ℕ, ◌*◌, ◌≤◌}
use native.Mathlib.Omega.{arith}
use lib.ListN.{length}
use lib.Ieee.{Float}
use borrow.Author.Tests.{lt-ltb}
use Rattle.std.specs.Prelude.{Result, Ok, Err}
use Rattle.laws.specs.Bounds.{op_places}
use Rattle.tape.specs.Parse.{Content}
use Rattle.tape.specs.declared.header.Header.{Header}
use Rattle.detect.specs.declared.refusal.Refusal.{Refusal}
use Rattle.detect.specs.declared.report.Report.{Report}
use Rattle.detect.specs.Answers.{Answer, number_of, refusal, done}
use Rattle.detect.specs.Report.{report_of}
use Rattle.detect.specs.Compile.{reported_of, program_of}
use Rattle.detect.specs.Questions.{Asked, early, late, passed, answer_of}
use Rattle.detect.specs.Told.{Judged}
use Rattle.detect.proofs.Answering.{reported-operations}
use Rattle.local.specs.Bounds.{state_places}
use Rattle.local.specs.State.{stored, vacuum}
use Rattle.state.specs.Bounds.{dim_of}
use Rattle.evolve.specs.Evolve.{evolved_in}
use Rattle.evolve.proofs.Evolving.{evolved-written}
use Rattle.gaussian.specs.Run.{verdict_of, judged, asked_report, state_by, state_after, ran, ran_ops, ran_state}
use Rattle.gaussian.specs.Told.{Says}
use Rattle.gaussian.proofs.Verdicts.{verdict-passes}
use Rattle.gaussian.proofs.Accepted.{Ran, run-says}

-- ---- the judge

judged-by : (verdict : ℕ) (v : Result Unit Refusal) (h : Header) (c : Content) → Says v verdict → Judged v h c (judged verdict h c)
judged-by verdict (Ok _) h c e = rw e refl
judged-by verdict (Err why) h c e = (rw (lt-ltb 0 verdict e.1, e.0) refl, e.2)

pub verdict-judged : (h : Header) (c : Content) (o s : ℕ) (v : Result Unit Refusal)
    → Says v (verdict_of h (reported_of h c.gates) (reported_of h c.gates).operations o s) → Judged v h c (asked_report o s h c)
verdict-judged h c o s v e =
    judged-by (verdict_of h (reported_of h c.gates) (length (program_of h c.gates)) o s) v h c
    (subst (λ k. Says v (verdict_of h (reported_of h c.gates) k o s)) (reported-operations h c.gates) e)

-- a yes says that there is room for the operations
pub verdict-room : (h : Header) (r : Report) (o s : ℕ) → Says (Ok tt) (verdict_of h r r.operations o s) → op_places * r.operations ≤ o
verdict-room h r o s e = (verdict-passes h r r.operations o s e).operations

-- ---- a refusal

is_done : Answer → Bool
is_done Answer.Done = true
is_done (Answer.Refused number place) = false

pub refused-state : (x : Asked) (number place : ℕ) (state : List Float) → refusal number place ≡ answer_of x → state ≡ state_after x state
unfolding answer_of state_by is_done
refused-state (early n p) number place state e = refl
refused-state (late n h c) number place state e = refl
refused-state (passed h c) number place state e = absurd (true≢false (sym (ap (λ c. is_done c.answer) e)))

-- ---- a report

module _ (t : List ℕ) (work : List Float) (marks : List ℕ) (ops state : List Float) (r : Report) (ops' : List Float)
    (e : done r ≡ ran t work marks ops state) (w : ops' ≡ ran_ops t work marks ops state) where
  run : Ran t work marks ops state
  run = run-says t work marks ops state (sym (ap (λ c. number_of c.answer) e))

  is : r ≡ reported_of run.header run.content.gates
  is = ap (λ c. c.report) (e ∙ run.report)

  qubits : r.n ≡ run.header.n
  unfolding reported_of report_of
  qubits = ap (λ r. r.n) is

  count : r.operations ≡ length (program_of run.header run.content.gates)
  count = ap (λ r. r.operations) is ∙ reported-operations run.header run.content.gates

  pub has_room : length ops' ≡ length ops → op_places * r.operations ≤ length ops'
  has_room l = omega (arith, l, count, run.passes.rest.operations)

  pub has_state : state_places (dim_of r.n) ≤ length state
  has_state = rw qubits run.passes.rest.state

  pub state-ran : stored (dim_of r.n) (evolved_in r.n r.operations ops' vacuum) state ≡ ran_state t work marks ops state
  state-ran =
      ap (λ n. stored (dim_of n) (evolved_in n r.operations ops' vacuum) state) qubits
      ∙ ap (λ s. stored (dim_of run.header.n) s state)
      (ap (λ l. evolved_in run.header.n r.operations l vacuum) (w ∙ run.operations)
      ∙ evolved-written run.header.n r.operations (program_of run.header run.content.gates) ops count)
      ∙ sym run.final
